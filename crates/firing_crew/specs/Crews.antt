-- What a crew gives: a lawful report with a list for each caller, each by the rule, whose journal goes along a path on each edge; or the
-- first number that does not fit, or want of memory.
use Rattle.std.specs.Prelude.{ℕ, ◌<◌, ◌≡◌, length}
use Rattle.conjunctive_compose.specs.System.{SystemParts}
use Rattle.firing_journal.specs.Report.{IsLawful, list_by, lists_of}
use Rattle.firing_journal.specs.declared.report.Report.{Report}
use Rattle.firing_hall.specs.Closing.{ProjectsToPaths}
use Rattle.firing_crew.specs.declared.fault.CrewFault.{CrewFault}
use Rattle.firing_crew.specs.declared.fault.CrewFault.TheVariants.{Callers, Room, Memory}
use Rattle.firing_crew.specs.declared.orders.Orders.{Orders}
use Rattle.firing_crew.specs.Limits.{MayFire, MayReply}
use Rattle.firing_crew.specs.Workers.{IsWorkerList}

-- the orders of so many callers, so many replies of each, this seed, and a policy with this turn
abbrev pub orders_of : ℕ → ℕ → ℕ → ℕ → Orders
orders_of callers room seed turn = record { callers = callers; room = room; seed = seed; turn = turn }

-- a report of a crew with these orders
pub record IsCrewReport (sys : SystemParts) (orders : Orders) (report : Report) : Type 0 where
  pub lawful : IsLawful sys report.journal (lists_of report)
  pub paths : ProjectsToPaths sys report.journal
  pub callers : length (lists_of report) ≡ orders.callers
  pub by_rule : (c : ℕ) → c < orders.callers → IsWorkerList sys orders c (list_by (lists_of report) c)

-- so many callers may fire so many processes, with so many replies each
pub record MayWork (processes callers room : ℕ) : Type 0 where
  pub callers_fit : MayFire callers processes
  pub room_fits : MayReply room

-- the callers do not fit; or they do, and the room does not; or both do, and memory is missing
abbrev pub IsFaultOf : ℕ → ℕ → ℕ → CrewFault → Type 0
IsFaultOf processes callers room Callers = MayFire callers processes → ⊥
IsFaultOf processes callers room Room = MayFire callers processes × (MayReply room → ⊥)
IsFaultOf processes callers room Memory = MayWork processes callers room

-- That no caller's wish is away: each process belongs to one caller, which knows its local state from the start and its own firings.
use Rattle.std.specs.Prelude.{ℕ, ◌≡◌, ◌<◌, List, length, All}
use Rattle.conjunctive_compose.specs.System.{SystemParts}
use Rattle.firing_journal.specs.declared.asked.Asked.{Asked}
use Rattle.firing_journal.specs.declared.journal.Entry.{Entry}
use Rattle.firing_journal.specs.Report.{IsLawful, list_by}
use Rattle.firing_crew.specs.declared.orders.Orders.{Orders}
use Rattle.firing_crew.specs.Workers.{AreReplies, IsNotAway, first_worker}

-- a list for each caller, and the replies of each come by the rule
pub record AreByRule (sys : SystemParts) (orders : Orders) (lists : List (List Asked)) : Type 0 where
  pub callers : length lists ≡ orders.callers
  pub replies : (c : ℕ) → c < orders.callers → AreReplies sys orders (first_worker sys orders c) (list_by lists c)

-- in a lawful report whose lists come by the rule no reply is away
abbrev pub NeverAway : Type 0
NeverAway = (sys : SystemParts) (orders : Orders) (entries : List Entry) (lists : List (List Asked)) → AreByRule sys orders lists → IsLawful sys entries lists → (c : ℕ) → c < orders.callers → All IsNotAway (list_by lists c)

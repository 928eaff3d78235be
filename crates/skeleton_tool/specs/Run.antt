-- What `run` answers to a solution: the report of callers that fired its system, or that its numbers are out of their
-- limits.
use Rattle.std.specs.Prelude.{ℕ, ◌≡◌, List, length}
use Rattle.pair_structure.specs.Structure.{Structure}
use Rattle.conjunctive_compose.specs.System.{SystemParts}
use Rattle.firing_journal.specs.declared.report.Report.{Report}
use Rattle.firing_journal.specs.Report.{lists_of}
use Rattle.firing_journal.specs.ReportText.{report_text}
use Rattle.firing_crew.specs.declared.orders.Orders.{Orders}
use Rattle.firing_crew.specs.Crews.{IsCrewReport, MayWork, orders_of}
use Rattle.ctl_form.specs.Kind.{Solves}
use Rattle.ctl_text.specs.Value.{SpecParts}
use Rattle.skeleton_tool.specs.declared.status.Status.{Status}
use Rattle.skeleton_tool.specs.declared.status.Status.TheVariants.{Done, Fails, OutOfLimits}
use Rattle.skeleton_tool.specs.Failing.{NamesFailing}
use Rattle.skeleton_tool.specs.Refusal.{out_of_limits_text}
use Rattle.skeleton_tool.specs.Third.{IsSystemOf}

-- the text of a report that such a crew gives of this system: its journal is a run that holds each caller's firings once,
-- in its order, and every reply holds; there is a list for each caller, and each is by the rule; on each edge the journal
-- goes along a path of the pair's structure
pub record IsReportOf (sys : SystemParts) (orders : Orders) (text : List ℕ) : Type 0 where
  pub report : Report
  pub of_crew : IsCrewReport sys orders report
  pub text_is : text ≡ report_text report.journal (lists_of report)

-- so many callers fired the one system of these structures, with so many replies each, this seed, and a policy with this
-- turn, and their report is told
pub record TellsReport (turn callers room seed : ℕ) (v : SpecParts) (structures : List Structure) (text : List ℕ) : Type 0 where
  pub within : MayWork (length v.processes) callers room
  pub sys : SystemParts
  pub system : IsSystemOf v structures sys
  pub report : IsReportOf sys (orders_of callers room seed turn) text

-- so many callers may not fire so many processes, or not with so many replies each, and that is told
pub record TellsLimits (callers room : ℕ) (v : SpecParts) (text : List ℕ) : Type 0 where
  pub past : MayWork (length v.processes) callers room → ⊥
  pub text_is : text ≡ out_of_limits_text

-- the structures solve, and the report is told, or that the numbers are out of their limits; or the first kind that fails
-- is named
abbrev pub Runs : ℕ → ℕ → ℕ → ℕ → SpecParts → List Structure → Status → List ℕ → Type 0
Runs turn callers room seed v structures Done text = Solves v.roles v.kinds structures × TellsReport turn callers room seed v structures text
Runs turn callers room seed v structures OutOfLimits text = Solves v.roles v.kinds structures × TellsLimits callers room v text
Runs turn callers room seed v structures Fails text = NamesFailing v structures text
Runs turn callers room seed v structures status text = ⊥

-- When a text is a summary.
use Rattle.std.proofs.Common.{ℕ, ◌≡◌, List, replicate, sym, ◌∙◌, ap}
use Rattle.conjunctive_compose.specs.System.{SystemParts}
use Rattle.firing_journal.specs.declared.asked.Asked.{Asked}
use Rattle.firing_journal.specs.declared.report.Report.{Report}
use Rattle.firing_journal.specs.Journal.{wishes_of}
use Rattle.firing_journal.specs.Report.{list_by, lists_of}
use Rattle.firing_crew.specs.Crews.{IsCrewReport, orders_of}
use Rattle.big_system.specs.declared.philosopher.TheConstants.{NONCRITICAL}
use Rattle.big_system.specs.Summary.{IsSummaryOf, summary_text}
use Rattle.big_system.specs.Systems.{IsBigSystem}
use Rattle.big_system.specs.inside.Locals.{locals_after}
use Rattle.big_system.proofs.Ends.{last_of}

pub is_summary : (count rounds seed : ℕ) (sys : SystemParts) (report : Report) (list : List Asked) (locals text : List ℕ) → IsBigSystem count seed sys → IsCrewReport sys (orders_of 1 rounds seed 0) report
    → list ≡ list_by (lists_of report) 0 → locals ≡ locals_after (replicate count NONCRITICAL) (wishes_of report.journal) → text ≡ summary_text count rounds seed list locals → IsSummaryOf count rounds seed text
is_summary count rounds seed sys report list locals text big crew first ends spelled = record {
  sys = sys;
  report = report;
  big = big;
  crew = crew;
  spelled = spelled ∙ ap (λ (l : List Asked). summary_text count rounds seed l locals) first ∙ ap (λ (l : List ℕ). summary_text count rounds seed (list_by (lists_of report) 0) l) (ends ∙ sym (last_of count seed sys (wishes_of report.journal) big crew.lawful.run));
}

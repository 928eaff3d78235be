use Rattle.std.proofs.Common.{ℕ, ◌≡◌, ◌∙◌, ◌++◌, List, ap}
use Rattle.firing_journal.specs.Report.{lists_of}
use Rattle.firing_journal.specs.ReportText.{report_text}
use Rattle.skeleton_tool.proofs.running.write_fired.Goals as goal

pub returns : goal.returns
returns g c = record {
  report = c.in-Ok.report;
  of_crew = c.in-Ok.ensures.report;
  text_is = c.in_ok-write_report.ensures.text ∙ ap (λ (l : List ℕ). l ++ report_text c.in-Ok.report.journal (lists_of c.in-Ok.report)) c.requires.empty;
}

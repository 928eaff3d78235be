use Rattle.std.proofs.Common.{◌∙◌}
use Rattle.firing_crew.proofs.Begun.{crew_report}
use Rattle.firing_crew.proofs.threads.crew_in.Goals as goal

pub returns-in-Ok-clause-report : goal.returns-in-Ok-clause-report
returns-in-Ok-clause-report g c =
    let closed = c.in-Ok.ensures in
    let passes = c.in_ok-passes.passes.items in
    crew_report c.args.hall c.args.orders passes c.in-Ok.report c.in_ok-passes.ensures.passes closed.lawful closed.paths (closed.size ∙ c.requires.follows.callers) closed.lists

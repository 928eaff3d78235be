use Rattle.std.proofs.Common.{◌∙◌, subst, sym}
use Rattle.conjunctive_compose.specs.System.{SystemParts}
use Rattle.firing_crew.specs.Crews.{IsCrewReport}
use Rattle.firing_crew.proofs.Begun.{crew_report}
use Rattle.firing_crew.proofs.alone.solo_within.Goals as goal

pub returns-in-Ok-close : goal.returns-in-Ok-close
returns-in-Ok-close g c =
    let opened = c.in-Ok.ensures.hall in
    let closed = c.in-Ok-close.ensures in
    let report = c.in-Ok-close.report in
    subst (λ (s : SystemParts). IsCrewReport s c.args.orders report) opened.0 (crew_report c.in-Ok.hall c.args.orders c.fill.new.passes.items report c.in_ok-fill.ensures closed.lawful closed.paths (closed.size ∙ opened.1 ∙ sym c.requires.one) closed.lists)

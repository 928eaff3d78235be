use Rattle.std.proofs.Common.{◌≡◌, arith}
use Rattle.pair_structure.specs.Structure.{label_at}
use Rattle.pair_structure.specs.Sides.{local_of}
use Rattle.waitfor_check.proofs.MayTakes.{may_take_is}
use Rattle.waitfor_check.proofs.Risings.{targets_within}
use Rattle.waitfor_check.proofs.calm.may_take.Goals as goal

pub leads_to-requires : goal.leads_to-requires
leads_to-requires c = rw c.moves_of.ensures (targets_within c.args.structure.now c.args.side c.args.state c.states-labels.ensures.goes_on)

pub returns : goal.returns
returns c =
    let from : local_of c.args.side (label_at c.args.structure.now.states c.args.state) ≡ c.args.arc.from = omega (arith, c.shown_in.ensures, c.if-shown_in-arc.false) in
    let is = may_take_is c.args.structure.now c.args.side c.args.arc c.args.state from in
    let told = rw c.moves_of.ensures at c.leads_to.ensures in
    (λ leads. is.0 (told.0 leads), λ may. told.1 (is.1 may))

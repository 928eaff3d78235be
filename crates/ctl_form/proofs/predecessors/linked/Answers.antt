use Rattle.std.proofs.Common.{◌∙◌, refl, arith}
use Rattle.std.proofs.lemmas.Grind.{get_or_default_zero}
use Rattle.pair_structure.specs.StructureFault.{move_at}
use Rattle.ctl_form.proofs.PredecessorSteps.{AreLinked-push}
use Rattle.ctl_form.proofs.predecessors.linked.Goals as goal

pub loop-place-preserved : goal.loop-place-preserved
loop-place-preserved c =
    let within = c.requires c.loop-place.place c.loop-place-test.true in
    let read = c.index.ensures ∙ get_or_default_zero c.loop-place.ends.items (move_at c.args.moves.now c.loop-place.place).to c.index.result.now (omega (arith, within, c.loop-place.invariant.long_ends)) in
    rw c.in_ok-push.ensures.items (AreLinked-push _ _ _ _ _ _ _ refl within read c.loop-place.invariant)

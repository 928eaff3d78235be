use Rattle.std.proofs.Common.{sym, subst}
use Rattle.pair_quotient.specs.inside.Refining.{AreRefined}
use Rattle.pair_quotient.proofs.RefineEnds.{AreRefined-roused}
use Rattle.pair_quotient.proofs.refining.pass.Goals as goal

pub refine-requires-clause-refined : goal.refine-requires-clause-refined
refine-requires-clause-refined c =
    let m = c.args.m.now in
    let blocks = c.args.blocks.now in
    subst (AreRefined m blocks.classes.items blocks.leaders.items blocks.members c.rouse.new.settled) (sym c.deref.ensures.value)
    (AreRefined-roused m blocks.classes.items blocks.leaders.items blocks.members c.args.settled.now c.rouse.new.settled c.args.waiting.now.items c.rouse.new.waiting.items c.requires.refined c.in_ok-rouse.ensures.waiting c.rouse.ensures.fewer)

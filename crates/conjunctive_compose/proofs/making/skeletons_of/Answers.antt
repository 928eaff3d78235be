use Rattle.std.proofs.Common.{◌+◌, sym, subst}
use Rattle.conjunctive_compose.specs.System.{HasCommandsBelow}
use Rattle.conjunctive_compose.proofs.Commands.{commands_more, structure_over}
use Rattle.conjunctive_compose.proofs.making.skeletons_of.Goals as goal

pub skeleton_of-requires-clause-over : goal.skeleton_of-requires-clause-over
skeleton_of-requires-clause-over c =
    structure_over c.args.network.now c.args.structures.now c.loop-kind.kind c.index-structures-kind.result c.requires c.loop-kind-test.true c.index-structures-kind.is

pub loop-kind-preserved : goal.loop-kind-preserved
loop-kind-preserved c =
    let net = c.args.network.now in
    let structures = c.args.structures.now in
    let kind = c.loop-kind.kind in
    let more = commands_more net structures c.loop-kind.skeletons.items kind c.index-structures-kind.result c.in_ok-skeleton.skeleton c.loop-kind-test.true c.index-structures-kind.is c.loop-kind.invariant c.in_ok-skeleton.ensures in
    subst (HasCommandsBelow (kind + 1) net structures) (sym c.in_ok-push.ensures.items) more

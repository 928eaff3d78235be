use Rattle.std.proofs.Common.{◌<◌, length, subst}
use Rattle.tableau_graph.specs.Graph.{graph_of}
use Rattle.deletion_rules.specs.Deletion.{LivesOr}
use Rattle.deletion_rules.specs.Pruned.{lives_at}
use Rattle.unravel.proofs.Expanding.{turn_good, turn_more, turn_or, turn_skip}
use Rattle.unravel.proofs.Nodes.{some_within}
use Rattle.unravel.proofs.growing.Growing.expand_member.Goals as goal

pub side_of-requires-clause-and : goal.side_of-requires-clause-and
side_of-requires-clause-and c = c.tell_alive.ensures.kept.nodes c.args.turn.position.node (turn_good c.args.ranks.now c.args.targets.now c.args.turn c.args.member c.args.place c.args.self.now.positions c.args.self.now.moves.items c.requires.turn).living

pub returns-in_default : goal.returns-in_default
returns-in_default c = turn_skip c.args.ranks.now c.args.targets.now c.args.turn c.args.member c.args.place c.args.self.now.positions c.args.self.now.moves.items c.requires.turn c.in_default.ensures (c.tell_alive.ensures.kept.nodes c.args.turn.position.node (turn_good c.args.ranks.now c.args.targets.now c.args.turn c.args.member c.args.place c.args.self.now.positions c.args.self.now.moves.items c.requires.turn).living)

pub step-to-requires-clause-good : goal.step-to-requires-clause-good
step-to-requires-clause-good c = turn_good c.args.ranks.now c.args.targets.now c.args.turn c.args.member c.args.place c.args.self.now.positions c.args.self.now.moves.items c.requires.turn

pub step-to-requires-clause-or : goal.step-to-requires-clause-or
step-to-requires-clause-or c =
    let r = c.args.ranks.now in
    let some = c.in-Some.ensures in
    let e = turn_or r c.args.targets.now c.args.turn c.args.member c.args.place c.args.self.now.positions c.args.self.now.moves.items c.requires.turn c.successor-or.result c.successor-or.ensures in
    subst (λ o. o < length r.tableau.ors) e (some_within r.tableau c.tell_alive.ensures.tableau c.args.turn.position.node c.args.member some.0 c.in-Some.side some.1)

pub step-to-requires-clause-living : goal.step-to-requires-clause-living
step-to-requires-clause-living c =
    let r = c.args.ranks.now in
    let some = c.in-Some.ensures in
    let good = turn_good r c.args.targets.now c.args.turn c.args.member c.args.place c.args.self.now.positions c.args.self.now.moves.items c.requires.turn in
    let e = turn_or r c.args.targets.now c.args.turn c.args.member c.args.place c.args.self.now.positions c.args.self.now.moves.items c.requires.turn c.successor-or.result c.successor-or.ensures in
    subst (λ o. LivesOr (graph_of r.tableau) (lives_at r) o) e (c.tell_alive.ensures.kept.successors c.args.turn.position.node c.args.member some.0 c.in-Some.side good.living some.1)

pub returns : goal.returns
returns c =
    let r = c.args.ranks.now in
    let some = c.in-Some.ensures in
    let e = turn_or r c.args.targets.now c.args.turn c.args.member c.args.place c.args.self.now.positions c.args.self.now.moves.items c.requires.turn c.successor-or.result c.successor-or.ensures in
    turn_more r c.args.targets.now c.args.turn c.args.member c.args.place c.args.self.now.positions c.args.self.now.moves.items c.requires.turn c.in-Some.side some.0 some.1 c.step-to.result (c.step-to.ensures c.args.member some.0 c.in-Some.side some.1 e) c.add_move.new.self.positions c.in_ok-add_move.field-0 c.in_ok-add_move.ensures.number c.add_move.new.self.moves.items c.in_ok-add_move.ensures.moves

use Rattle.std.proofs.Common.{◌≡◌, get_or, rules}
use Rattle.pair_structure.specs.declared.side.Move.{Move}
use Rattle.pair_structure.specs.declared.side.Side.TheVariants.{A}
use Rattle.skeleton_extract.proofs.Gathering.{AreGathered-passed, AreGathered-taken}
use Rattle.skeleton_extract.proofs.extraction.gathered.Goals.{then-eq+in_ok-push, else-eq}
use Rattle.skeleton_extract.proofs.extraction.gathered.Goals as goal

abbrev no_move : Move
no_move = record { from = 0; side = A; to = 0 }

pub loop-step-preserved : goal.loop-step-preserved
loop-step-preserved c =
    elim c.if-eq.branch [
      | then-eq+in_ok-push w ↦ (
          let same_side : (get_or c.moves-step-items.result.now c.loop-step.step-index no_move).side ≡ c.args.side = search rules in
          AreGathered-taken c.args.m.now.states c.args.m.now.moves c.args.side c.args.role.now.arcs c.of_role-numbers.result.rows c.moves-step-items.result.now c.loop-step.step-index no_move c.loop-step.lists w.push.new.self c.if-eq.lists w.number_of-arc.result w.command_of.result
          c.moves-step-items.ensures.moves c.loop-step-test.true c.requires c.of_role-numbers.ensures same_side w.number_of-arc.ensures w.command_of.ensures w.in_ok-push.ensures.size w.in_ok-push.ensures.here w.in_ok-push.ensures.elsewhere w.lists-is c.loop-step.invariant
          )
      | else-eq w ↦ (
          let other_side : (get_or c.moves-step-items.result.now c.loop-step.step-index no_move).side ≡ c.args.side → ⊥ = search rules in
          AreGathered-passed c.args.m.now.states c.args.m.now.moves c.args.side c.args.role.now.arcs c.moves-step-items.result.now c.loop-step.step-index no_move c.loop-step.lists c.if-eq.lists
          c.moves-step-items.ensures.moves c.loop-step-test.true other_side w.lists-is c.loop-step.invariant
          )
    ]

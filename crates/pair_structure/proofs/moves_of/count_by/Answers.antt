use Rattle.std.proofs.Common.{arith}
use Rattle.std.proofs.lemmas.List.Sorted.{IsNonDecreasingBy-take}
use Rattle.pair_structure.specs.declared.side.Move.{Move}
use Rattle.pair_structure.specs.inside.Turn.{turn}
use Rattle.pair_structure.proofs.Rising.{turns_rise}
use Rattle.pair_structure.proofs.Turns.{near_is_point}
use Rattle.pair_structure.proofs.moves_of.count_by.Goals as goal

pub count_within-count-requires : goal.count_within-count-requires
count_within-count-requires c = IsNonDecreasingBy-take (λ (m : Move). turn m.from m.side) c.min-near.result c.args.moves.now (turns_rise c.args.moves.now c.requires)

pub returns-then-count-near-clause-point : goal.returns-then-count-near-clause-point
returns-then-count-near-clause-point c =
    near_is_point c.args.moves.now (turn c.args.state c.args.side) c.min-near.result c.count_within-count.result (turns_rise c.args.moves.now c.requires) (omega (arith, c.min-near.ensures)) c.if-count-near.true c.count_within-count.ensures.point

pub count_within-requires : goal.count_within-requires
count_within-requires c = turns_rise c.args.moves.now c.requires

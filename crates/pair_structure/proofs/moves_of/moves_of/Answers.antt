use Rattle.std.proofs.Common.{◌≡◌, ◌-◌, arith, length, take, drop}
use Rattle.std.proofs.lemmas.List.{take_all, length-drop}
use Rattle.pair_structure.proofs.Turns.{take_is_moves_of}
use Rattle.pair_structure.proofs.moves_of.moves_of.Goals as goal

pub returns : goal.returns
returns c =
    let moves = c.args.moves.now in
    let begin = c.count_before.result in
    let whole : take (length moves - begin) (drop begin moves) ≡ drop begin moves = take_all _ _ (omega (arith, length-drop begin moves)) in
    rw whole (take_is_moves_of moves c.args.state c.args.side begin c.count_by.result c.count_before.ensures.point (rw whole at c.count_by.ensures.point) (rw whole at c.count_by.ensures.bound))

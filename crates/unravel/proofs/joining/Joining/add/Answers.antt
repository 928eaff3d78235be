use Rattle.std.proofs.Common.{ap, arith, subst, Contains, length, ◌≡◌, ◌<◌, slice_index_or}
use Rattle.std.proofs.lemmas.List.Elements.{Contains-get_or}
use Rattle.pair_structure.specs.declared.side.Move.{Move}
use Rattle.unravel.proofs.joining.Joining.add.Goals as goal

pub push_moves-requires : goal.push_moves-requires
push_moves-requires c k d lt =
    let x : Move = slice_index_or c.moves.result.now k d in
    let has : Contains c.args.m.now.moves x = subst (λ moves. Contains moves x) c.moves.ensures.moves (Contains-get_or c.moves.result.now k d lt) in
    let from : x.from < length c.args.m.now.states = c.states.ensures.goes_on.leaves x.side x.from x.to has in
    let to : x.to < length c.args.m.now.states = c.states.ensures.goes_on.within x.side x.from x.to has in
    let same : length c.states.result.now ≡ length c.args.m.now.states = ap length c.states.ensures.states in
    (omega (arith, from, same, c.states.type_inv, c.len-size.ensures, c.len-size.type_inv, c.args.self.now.states.small), omega (arith, to, same, c.states.type_inv, c.len-size.ensures, c.len-size.type_inv, c.args.self.now.states.small))

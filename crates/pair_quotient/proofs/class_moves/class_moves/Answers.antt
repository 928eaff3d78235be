use Rattle.std.proofs.Common.{◌≡◌, ◌∙◌, ◌++◌, List, sym, subst, ap, map, Contains}
use Rattle.pair_structure.specs.declared.side.Move.{Move}
use Rattle.pair_quotient.specs.inside.ClassMoves.{class_move}
use Rattle.pair_quotient.proofs.KeyLaws.{joins_below, all_made, move}
use Rattle.pair_quotient.proofs.class_moves.class_moves.Goals as goal

pub push_class_moves-requires : goal.push_class_moves-requires
push_class_moves-requires c = rw c.moves-2.ensures.moves (joins_below c.args.m.now c.requires.goes_on _ c.requires.long)

pub returns-clause-made : goal.returns-clause-made
returns-clause-made c =
    let list : c.push_class_moves.new.into.items ≡ map (class_move c.args.classes.now) c.args.m.now.moves = c.in_ok-push_class_moves.ensures ∙ ap (λ (l : List Move). l ++ map (class_move c.args.classes.now) c.moves-2.result.now) c.in_ok-moves.ensures.items ∙ ap (λ l. map (class_move c.args.classes.now) l) c.moves-2.ensures.moves in
    λ side x y.
    let arranged = c.arrange.ensures.same (move x side y) in
    let made = all_made c.args.m.now c.args.classes.now side x y in
    (λ h. made.0 (subst (λ l. Contains l (move x side y)) list (arranged.0 h)), λ h. arranged.1 (subst (λ l. Contains l (move x side y)) (sym list) (made.1 h)))

use Rattle.std.proofs.Common.{◌≡◌, ◌∙◌, ◌++◌, List, sym, subst, ap, map, filter, length, Contains}
use Rattle.std.proofs.lemmas.List.Elements.{All-filter}
use Rattle.pair_structure.specs.declared.side.Move.{Move}
use Rattle.pair_structure.specs.declared.side.Side.TheVariants.{A, B}
use Rattle.pair_structure.specs.Ordinal.{leaves}
use Rattle.pair_quotient.specs.inside.ClassMoves.{class_move, JoinsBelow}
use Rattle.pair_quotient.proofs.KeyLaws.{joins_below, key_made, move}
use Rattle.pair_quotient.proofs.class_moves.key_of.Goals as goal

pub push_class_moves-requires : goal.push_class_moves-requires
push_class_moves-requires c = rw c.moves_of.ensures (All-filter _ (JoinsBelow (length c.args.classes.now)) c.args.m.now.moves (joins_below c.args.m.now c.requires.goes_on _ c.requires.long))

pub push_class_moves-requires-2 : goal.push_class_moves-requires-2
push_class_moves-requires-2 c = rw c.moves_of-2.ensures (All-filter _ (JoinsBelow (length c.args.classes.now)) c.args.m.now.moves (joins_below c.args.m.now c.requires.goes_on _ c.requires.long))

pub returns : goal.returns
returns c =
    let one : c.push_class_moves.new.into.items ≡ map (class_move c.args.classes.now) (filter (leaves c.args.state A) c.args.m.now.moves) = c.in_ok-push_class_moves.ensures ∙ ap (λ (l : List Move). l ++ map (class_move c.args.classes.now) c.moves_of.result.now) c.new-key.ensures.items ∙ ap (λ l. map (class_move c.args.classes.now) l) c.moves_of.ensures in
    let list : c.push_class_moves-2.new.into.items ≡ map (class_move c.args.classes.now) (filter (leaves c.args.state A) c.args.m.now.moves) ++ map (class_move c.args.classes.now) (filter (leaves c.args.state B) c.args.m.now.moves) = c.in_ok-push_class_moves-2.ensures ∙ ap (λ (l : List Move). l ++ map (class_move c.args.classes.now) c.moves_of-2.result.now) one ∙ ap (λ l. map (class_move c.args.classes.now) (filter (leaves c.args.state A) c.args.m.now.moves) ++ map (class_move c.args.classes.now) l) c.moves_of-2.ensures in
    record {
      rising = c.arrange.ensures.rising;
      made = λ side x y.
          let arranged = c.arrange.ensures.same (move x side y) in
          let made = key_made c.args.m.now c.args.classes.now c.args.state side x y in
          (λ h. made.0 (subst (λ l. Contains l (move x side y)) list (arranged.0 h)), λ h. arranged.1 (subst (λ l. Contains l (move x side y)) (sym list) (made.1 h)));
    }

use Rattle.std.proofs.Common.{ℕ, IsTrue, false, length-set, get_or, arith, refl, sym, ◌∙◌, subst, Contains}
use Rattle.std.proofs.lemmas.List.{set-set}
use Rattle.pair_structure.specs.declared.side.Move.{Move}
use Rattle.pair_structure.specs.declared.side.Side.TheVariants.{A}
use Rattle.waitfor_check.proofs.LeafRows.{moves_members, moves_missing, reach_more}
use Rattle.waitfor_check.proofs.leaf.walk_moves.Goals as goal

abbrev no_move : Move
no_move = record { from = 0; side = A; to = 0 }

pub returns-then-not-has-clause-walked : goal.returns-then-not-has-clause-walked
returns-then-not-has-clause-walked c =
    let x : ℕ = (get_or c.args.moves.now c.loop-n.n no_move).to in
    moves_missing c.args.members.now c.args.target.now c.args.i c.args.moves.now c.loop-n.n no_move c.loop-n-test.true c.loop-n.invariant.reach (λ has.
    let never : IsTrue false = c.if-not-has.ensures.1 (subst (Contains c.args.members.now) (sym (c.loop-n.invariant.rest (get_or c.args.moves.now c.loop-n.n no_move).to)) has) in
    cc)

pub loop-n-preserved : goal.loop-n-preserved
loop-n-preserved c = record {
  size = length-set c.loop-n.target c.args.i (get_or c.args.moves.now c.loop-n.n no_move).to ∙ c.loop-n.invariant.size;
  rest = λ x. set-set c.loop-n.target c.args.i (get_or c.args.moves.now c.loop-n.n no_move).to x ∙ c.loop-n.invariant.rest x;
  reach = reach_more c.args.members.now c.args.target.now c.args.i c.args.moves.now c.loop-n.n no_move c.loop-n-test.true c.loop-n.invariant.reach (subst (Contains c.args.members.now) (c.loop-n.invariant.rest (get_or c.args.moves.now c.loop-n.n no_move).to) (c.if-not-has.ensures.0 refl));
}

pub returns-clause-walked : goal.returns-clause-walked
returns-clause-walked c = moves_members c.args.members.now c.args.target.now c.args.i c.args.moves.now c.loop-n.n (omega (arith, c.loop-n-test.false)) c.loop-n.invariant.reach

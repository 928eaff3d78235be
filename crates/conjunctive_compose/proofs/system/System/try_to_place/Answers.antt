use Rattle.std.proofs.Common.{IsTrue, false, refl, inr, sym, subst, Contains}
use Rattle.conjunctive_compose.specs.Peel.{CanGoPast}
use Rattle.conjunctive_compose.specs.inside.Peeling.{IsMarked}
use Rattle.conjunctive_compose.proofs.Peelings.{past_more, placed}
use Rattle.conjunctive_compose.proofs.system.System.try_to_place.Goals as goal

pub returns-in_ok-place-clause-peeling : goal.returns-in_ok-place-clause-peeling
returns-in_ok-place-clause-peeling c =
    let marks = c.can_go.ensures.same.1 in
    let fresh : IsMarked c.can_go.new.peeling.marks c.args.process → ⊥ = (λ m. let never : IsTrue false = c.if-has.ensures.1 (subst (λ ms. IsMarked ms c.args.process) marks m) in cc) in
    let can = subst (λ ms. CanGoPast c.args.self.now c.args.w.now (IsMarked ms) c.args.process) (sym marks) (c.if-can_go.ensures.can.0 refl) in
    rw c.in_ok-place.ensures (placed c.args.self.now c.args.w.now c.can_go.new.peeling c.args.process c.can_go.ensures.peeling c.requires.within fresh can)

pub returns-else-can_go-clause-tried : goal.returns-else-can_go-clause-tried
returns-else-can_go-clause-tried c = inr (λ can.
    let never : IsTrue false = c.if-can_go.ensures.can.1 (past_more c.args.self.now c.args.w.now (Contains c.args.peeling.now.order) (IsMarked c.args.peeling.now.marks) c.args.process (λ j has. (c.requires.peeling.marked j).0 has) can) in
    cc)

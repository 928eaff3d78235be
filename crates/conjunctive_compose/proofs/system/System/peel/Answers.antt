use Rattle.std.proofs.Common.{IsTrue, false, refl}
use Rattle.conjunctive_compose.proofs.Peelings.{no_order, whole_order}
use Rattle.conjunctive_compose.proofs.system.System.peel.Goals as goal

pub returns-then-has_all : goal.returns-then-has_all
returns-then-has_all c = rw c.into_order.ensures (whole_order c.args.self.now c.args.w.now c.place_rest.new.peeling c.in_ok-place_rest.ensures.peeling (c.if-has_all.ensures.0 refl))

pub returns : goal.returns
returns c = no_order c.args.self.now c.args.w.now c.place_rest.new.peeling c.in_ok-place_rest.ensures.peeling c.in_ok-place_rest.ensures.none (λ all. let never : IsTrue false = c.if-has_all.ensures.1 all in cc)

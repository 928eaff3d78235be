use Rattle.std.proofs.Common.{IsTrue, false, ◌∙◌, sym, subst, below_more}
use Rattle.conjunctive_compose.specs.Peel.{IsClear}
use Rattle.conjunctive_compose.specs.inside.Peeling.{IsMarked}
use Rattle.conjunctive_compose.proofs.system.System.can_go.Goals as goal

pub loop-arc-preserved : goal.loop-arc-preserved
loop-arc-preserved c =
    let so = c.loop-arc.invariant in
    record {
      peeling = c.can_take.ensures.peeling;
      same = (c.can_take.ensures.same.0 ∙ so.same.0, c.can_take.ensures.same.1 ∙ so.same.1);
      none = below_more _ _ so.none (λ both.
          let clear = subst (λ marks. IsClear c.args.self.now c.args.w.now (IsMarked marks) c.args.process c.loop-arc.arc) (sym so.same.1) both.1 in
          let never : IsTrue false = c.if-can_take.ensures.can.1 (both.0, clear) in
          cc);
    }

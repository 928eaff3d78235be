use Rattle.std.proofs.Common.{◌-◌, inl, inr, arith, subst}
use Rattle.std.proofs.lemmas.Bool.{cases_lt}
use Rattle.interconnection.specs.inside.Choice.{IsStuck}
use Rattle.interconnection.proofs.choice.last_raise.Goals as goal

pub loop-leaf-preserved : goal.loop-leaf-preserved
loop-leaf-preserved c =
    let here : IsStuck c.args.labels.now c.args.leaves.now (c.loop-leaf.leaf - 1) = (c.past-from.result, c.past-from.ensures, omega arith) in
    record {
      within = omega arith;
      stuck = λ q ge lt. elim (cases_lt (c.loop-leaf.leaf - 1) q) [
        | inl above ↦ c.loop-leaf.invariant.stuck q (omega arith) lt
        | inr le ↦ subst (IsStuck c.args.labels.now c.args.leaves.now) (omega arith) here
      ];
    }

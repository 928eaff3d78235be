use Rattle.std.proofs.Common.{get_or, subst, sym}
use Rattle.std.proofs.lemmas.List.Elements.{All-push}
use Rattle.ctl_form.specs.Numbered.{IsNormalOf}
use Rattle.ctl_text.proofs.NormalsKept.{normal_at}
use Rattle.ctl_text.specs.Normals.{conjuncts_of}
use Rattle.pair_quotient.specs.Quotient.{IsShrunk}
use Rattle.skeleton_tool.proofs.Solved.{solved_step, first_unsatisfiable}
use Rattle.skeleton_tool.proofs.solving.solve_all.Goals as goal

pub solve_one-requires-clause-normal : goal.solve_one-requires-clause-normal
solve_one-requires-clause-normal c =
    let at = normal_at c.args.roles.now c.args.kinds.now c.args.normals.now c.loop-number.number c.index-kinds-number.result c.index-normals-number.result c.requires.normals c.loop-number-test.true in
    let kind = subst (λ k. IsNormalOf (conjuncts_of c.args.roles.now k) (get_or c.args.normals.now c.loop-number.number c.index-normals-number.result)) (sym c.index-kinds-number.is) at in
    subst (λ n. IsNormalOf (conjuncts_of c.args.roles.now c.index-kinds-number.result) n) (sym c.index-normals-number.is) kind

pub returns-in-None : goal.returns-in-None
returns-in-None c = first_unsatisfiable c.args.roles.now c.args.kinds.now c.loop-number.number c.index-kinds-number.result c.loop-number.structures.items c.loop-number-test.true c.index-kinds-number.is c.loop-number.invariant.solve (rw c.in-None.is at c.in_ok-structure.ensures)

pub loop-number-preserved : goal.loop-number-preserved
loop-number-preserved c =
    let least = rw c.in-Some.is at c.in_ok-structure.ensures in record {
      solve = rw c.in_ok-push-in-Some.ensures.items (solved_step c.args.roles.now c.args.kinds.now c.loop-number.number c.index-kinds-number.result c.loop-number.structures.items c.in-Some.structure c.loop-number-test.true c.index-kinds-number.is c.loop-number.invariant.solve least.0);
      shrunk = rw c.in_ok-push-in-Some.ensures.items (All-push IsShrunk c.loop-number.structures.items c.in-Some.structure c.loop-number.invariant.shrunk least.1);
    }

use Rattle.std.proofs.Common.{ℕ, suc, ◌≡◌, ◌+◌, true, List, map, take, arith, subst, sym, Vec, Global}
use Rattle.ctl_form.specs.Form.{Form, form_of}
use Rattle.ctl_form.specs.Members.{forms_of}
use Rattle.ctl_form.specs.MemberTable.{IsFaultOf}
use Rattle.ctl_form.specs.Normal.{normal}
use Rattle.ctl_form.specs.Numbered.{normals}
use Rattle.ctl_form.specs.inside.Roots.{AreRoots}
use Rattle.ctl_form.specs.Walk.{walk_all}
use Rattle.ctl_form.proofs.MemberWalkLaws.{grown_after, result_from_err}
use Rattle.ctl_form.proofs.RootLaws.{roots_fail, roots_step}
use Rattle.ctl_form.proofs.normal.roots_of.Goals as goal

pub returns-in_err-root : goal.returns-in_err-root
returns-in_err-root c =
    let old = c.args.members.now in
    let forms : List Form = normals (map form_of c.args.conjuncts.now) in
    result_from_err (λ (v : Vec ℕ Global). AreRoots forms old c.root_of.new.self v.items) (IsFaultOf (walk_all forms (forms_of old))) c.in_err-root.field-0.0 c.from_residual-in_err-root.result c.from_residual-in_err-root.ensures.1
    (roots_fail c.args.conjuncts.now c.loop-conjunct.conjunct-index c.conjunct-item.result old c.loop-conjunct.members c.loop-conjunct.roots.items c.in_err-root.field-0.0 c.loop-conjunct-test.true c.conjunct-item.is c.loop-conjunct.invariant.roots c.in_err-root.ensures)

pub loop-conjunct-preserved : goal.loop-conjunct-preserved
loop-conjunct-preserved c =
    let old = c.args.members.now in
    let p = c.loop-conjunct.members in
    let q = c.root_of.new.self in
    let i = c.loop-conjunct.conjunct-index in
    let x = c.conjunct-item.result in
    let root = c.in_ok-root.root in
    let next : i + 1 ≡ suc i = omega arith in
    let more = roots_step c.args.conjuncts.now i (i + 1) x old p q c.loop-conjunct.roots.items root next c.loop-conjunct-test.true c.conjunct-item.is c.loop-conjunct.invariant.roots c.in_ok-root.ensures in
    record {
      grown = grown_after p q (normal true (form_of x)) root c.loop-conjunct.invariant.grown c.in_ok-root.ensures;
      roots = subst (AreRoots (normals (map form_of (take (i + 1) c.args.conjuncts.now))) old q) (sym c.in_ok-push.ensures.items) more;
    }

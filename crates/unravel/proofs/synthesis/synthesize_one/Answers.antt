use Rattle.std.proofs.Common.{ap, subst, sym, ◌∙◌, Option, Some, None}
use Rattle.pair_structure.proofs.FirstState.{one_start_state}
use Rattle.pair_structure.specs.Structure.{Structure}
use Rattle.closure_sets.specs.ClosureParts.{ClosureParts}
use Rattle.unravel.specs.inside.Unravelled.{IsUnravelledOf}
use Rattle.unravel.proofs.Synthesized.{not_satisfied, roots_satisfied}
use Rattle.unravel.proofs.synthesis.synthesize_one.Goals as goal

pub returns-in-Some : goal.returns-in-Some
returns-in-Some c =
    let t = c.in_ok-part.part in
    let built = c.in_ok-part.ensures in
    let closed = c.in_ok-closure.ensures in
    roots_satisfied c.args.a.now c.args.b.now c.args.form.now t (record { role_a = built.a; role_b = built.b; parts = ap (λ (x : ClosureParts). x.parts) built.closure ∙ closed.parts; roots = ap (λ (x : ClosureParts). x.roots) built.closure ∙ closed.roots; count = one_start_state c.args.a.now c.args.b.now c.requires.one_a c.requires.one_b }) c.in-Some.m (subst (IsUnravelledOf t) c.in-Some.is c.in_ok-m.ensures)

pub returns-in-Some-2 : goal.returns-in-Some-2
returns-in-Some-2 c =
    let t = c.in_ok-tableau.tableau in
    let built = c.in_ok-tableau.ensures in
    let closed = c.in_ok-closure.ensures in
    roots_satisfied c.args.a.now c.args.b.now c.args.form.now t (record { role_a = built.a; role_b = built.b; parts = ap (λ (x : ClosureParts). x.parts) built.closure ∙ closed.parts; roots = ap (λ (x : ClosureParts). x.roots) built.closure ∙ closed.roots; count = one_start_state c.args.a.now c.args.b.now c.requires.one_a c.requires.one_b }) c.in-Some-2.m (subst (IsUnravelledOf t) c.in-Some-2.is c.in_ok-m-2.ensures)

pub returns : goal.returns
returns c =
    let t = c.in_ok-tableau.tableau in
    let built = c.in_ok-tableau.ensures in
    let closed = c.in_ok-closure.ensures in
    λ m. not_satisfied c.args.a.now c.args.b.now c.args.form.now t (record { role_a = built.a; role_b = built.b; parts = ap (λ (x : ClosureParts). x.parts) built.closure ∙ closed.parts; roots = ap (λ (x : ClosureParts). x.roots) built.closure ∙ closed.roots; count = one_start_state c.args.a.now c.args.b.now c.requires.one_a c.requires.one_b }) m built.tableau (subst (IsUnravelledOf t) c.in-None.is c.in_ok-m-2.ensures built.whole)

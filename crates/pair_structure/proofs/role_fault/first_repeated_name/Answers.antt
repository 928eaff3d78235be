use Rattle.std.proofs.Common.{below_more, ℕ, List, ◌≡◌, ◌∙◌, sym, subst, Any, take, arith, IsTrue, false, []}
use Rattle.std.proofs.lemmas.List.{get_or_default}
use Rattle.pair_structure.proofs.role_fault.first_repeated_name.Goals as goal

pub loop-local-preserved : goal.loop-local-preserved
loop-local-preserved c =
    let locals = c.args.locals.now in
    let local = c.loop-local.local in
    below_more _ _ c.loop-local.invariant
    (λ earlier. let no : IsTrue false = c.if-has_name.ensures.1 (subst (λ (name : List ℕ). Any (λ other. other ≡ name) (take local locals)) (get_or_default locals local [] c.index-locals-local.result c.loop-local-test.true ∙ sym c.index-locals-local.is) earlier) in cc)

pub returns : goal.returns
returns c = λ local lt. c.loop-local.invariant local (omega (arith, c.loop-local-test.false))

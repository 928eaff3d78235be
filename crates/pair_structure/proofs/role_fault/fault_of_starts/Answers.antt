use Rattle.std.proofs.Common.{ℕ, ◌≡◌, ◌≢◌, ◌==◌, false, length, eq-eqb, arith, [], IsTrue}
use Rattle.pair_structure.proofs.RoleFaultLaws.{few_places, none_before_StartTwice, none_before_TooManyArcs, first_StartTwice}
use Rattle.pair_structure.proofs.role_fault.fault_of_starts.Goals as goal

some : (n : ℕ) → false ≡ (n == 0) → n ≢ 0
some n not_empty empty = let is = eq-eqb n 0 empty in cc

pub overflow_cast-result : goal.overflow_cast-result
overflow_cast-result c = let few = few_places c.args.locals.now c.args.starts.now [] c.in-Some.place (λ outside. let no : IsTrue false = c.if-some_outside.ensures.1 outside in cc) c.in-Some.ensures in omega (arith, few, c.requires)

pub returns-in-Some : goal.returns-in-Some
returns-in-Some c = λ arcs before.
    let starts = c.args.starts.now in
    first_StartTwice c.args.locals.now starts arcs c.in-Some.place
    (none_before_StartTwice c.args.locals.now starts arcs before (some (length starts) c.if-is_empty.ensures) (λ outside. let no : IsTrue false = c.if-some_outside.ensures.1 outside in cc)) c.in-Some.ensures

pub returns : goal.returns
returns c = λ arcs before.
    let starts = c.args.starts.now in
    none_before_TooManyArcs c.args.locals.now starts arcs (none_before_StartTwice c.args.locals.now starts arcs before (some (length starts) c.if-is_empty.ensures) (λ outside. let no : IsTrue false = c.if-some_outside.ensures.1 outside in cc)) c.in_default.ensures

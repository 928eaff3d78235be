use Rattle.std.proofs.Common.{ℕ, ◌≡◌, ◌≢◌, ◌==◌, false, length, eq-eqb}
use Rattle.pair_structure.proofs.RoleFaultLaws.{none_before_LocalTwice, none_before_NoStart, first_LocalTwice}
use Rattle.pair_structure.proofs.role_fault.fault_of_locals.Goals as goal

some : (n : ℕ) → false ≡ (n == 0) → n ≢ 0
some n not_empty empty = let is = eq-eqb n 0 empty in cc

pub returns-in-Some : goal.returns-in-Some
returns-in-Some c = λ starts arcs.
    let locals = c.args.locals.now in
    let before = none_before_LocalTwice locals starts arcs (some (length locals) c.if-is_empty.ensures) c.if-locals-gt-MAX_LOCALS.false in
    first_LocalTwice locals starts arcs c.in-Some.local before c.in-Some.ensures

pub returns : goal.returns
returns c = λ starts arcs.
    let locals = c.args.locals.now in
    let before = none_before_LocalTwice locals starts arcs (some (length locals) c.if-is_empty.ensures) c.if-locals-gt-MAX_LOCALS.false in
    none_before_NoStart locals starts arcs before c.in_default.ensures

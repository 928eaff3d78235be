use Rattle.std.proofs.Common.{◌≡◌, map, ℕ, List, Bor}
use Rattle.formula_text.specs.Sets.{Atoms, signs_over}
use Rattle.formula_text.proofs.Spelled.{outside_along}
use Rattle.formula_text.proofs.formula_reader.read_formula.Goals as goal

pub returns-in_default-clause-fault : goal.returns-in_default-clause-fault
returns-in_default-clause-fault c =
    let a : Atoms = record { locals = c.args.a.now; sets = c.args.a_sets.now } in
    let b : Atoms = record { locals = c.args.b.now; sets = c.args.b_sets.now } in
    let v = c.deref.ensures.value in
    let s = c.in_ok-signs.ensures in
    let same : c.deref.result.now ≡ signs_over a b (map {A = Bor (List ℕ)} (λ t. t.now) c.args.tokens.now) = cc in
    outside_along c.deref.result.now (signs_over a b (map {A = Bor (List ℕ)} (λ t. t.now) c.args.tokens.now)) same (rw c.in_default.is at c.in_ok-f.ensures.none)

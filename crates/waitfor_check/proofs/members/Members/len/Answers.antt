use Rattle.std.proofs.Common.{arith, length, sym, ◌∙◌, ap, subst, ◌<◌, ◌≤◌, ◌+◌, ◌*◌, ◌^◌, ◌≡◌, [], List, ℕ, rules}
use Rattle.std.specs.Prelude.{All}
use Rattle.waitfor_check.proofs.RowLists.{length-rows_of, rows_few}
use Rattle.waitfor_check.proofs.members.Members.len.Goals as goal

pub returns-clause-count : goal.returns-clause-count
returns-clause-count c = sym (ap {B = ℕ} length (sym c.self.view_is) ∙ length-rows_of c.self.inside.width c.self.inside.count c.self.inside.numbers.items)

pub returns-clause-small : goal.returns-clause-small
returns-clause-small c =
    let size : length c.args.self.now ≡ c.self.inside.count = ap {B = ℕ} length (sym c.self.view_is) ∙ length-rows_of c.self.inside.width c.self.inside.count c.self.inside.numbers.items in
    omega (arith, size, c.self.invariant.1, c.deref-numbers.type_inv.1, ap {B = ℕ} length c.deref-numbers.ensures.value)

pub returns-clause-small_all : goal.returns-clause-small_all
returns-clause-small_all c = λ leaves all.
    subst (λ (members : List (List ℕ)). leaves * length members < 2 ^ 60) c.self.view_is (rows_few c.self.inside.width c.self.inside.count leaves c.self.inside.numbers.items c.self.invariant.0 (omega (arith, c.deref-numbers.type_inv.1, ap {B = ℕ} length c.deref-numbers.ensures.value)) (subst (λ (members : List (List ℕ)). All (λ (member : List ℕ). length member ≡ leaves) members) (sym c.self.view_is) all))

use Rattle.std.proofs.Common.{arith, length, sym, ◌∙◌, ap, subst, ◌<◌, ◌≤◌, ◌+◌, ◌*◌, ◌^◌, ◌≡◌, [], List, ℕ, rules}
use Rattle.std.specs.Prelude.{slice_index_or}
use Rattle.waitfor_check.proofs.RowLists.{get_or-rows_of, length-rows_of, row_within}
use Rattle.waitfor_check.specs.inside.Rows.{row_at, rows_of}
use Rattle.waitfor_check.proofs.members.Members.at.Goals as goal

pub row_at-requires : goal.row_at-requires
row_at-requires c =
    let size : length c.args.self.now ≡ c.self.inside.count = ap {B = ℕ} length (sym c.self.view_is) ∙ length-rows_of c.self.inside.width c.self.inside.count c.self.inside.numbers.items in
    rw c.deref.ensures.value (row_within c.args.member c.self.inside.count c.self.inside.width (length c.self.inside.numbers.items) (omega (arith, c.requires, size)) c.self.invariant.0)

pub returns : goal.returns
returns c =
    let size : length c.args.self.now ≡ c.self.inside.count = ap {B = ℕ} length (sym c.self.view_is) ∙ length-rows_of c.self.inside.width c.self.inside.count c.self.inside.numbers.items in
    c.row_at.ensures ∙ ap {B = List ℕ} (λ xs. row_at c.self.inside.width xs c.args.member) c.deref.ensures.value ∙ sym (get_or-rows_of c.self.inside.width c.self.inside.count c.self.inside.numbers.items c.args.member [] (omega (arith, c.requires, size))) ∙ ap {B = List ℕ} (λ members. slice_index_or members c.args.member []) c.self.view_is

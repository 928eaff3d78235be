use Rattle.std.proofs.Common.{arith, length, sym, ◌∙◌, ap, subst, ◌<◌, ◌≤◌, ◌+◌, ◌*◌, ◌^◌, ◌≡◌, [], List, ℕ, rules}
use Rattle.std.specs.Prelude.{All, ◌++◌, ◌∷◌}
use Rattle.waitfor_check.proofs.RowLists.{count_pushed, rows_pushed}
use Rattle.waitfor_check.specs.inside.Rows.{rows_of}
use Rattle.std.proofs.lemmas.List.{length-append}
use Rattle.waitfor_check.proofs.members.Members.push.Goals as goal

pub invariant_of-self-2 : goal.invariant_of-self-2
invariant_of-self-2 c =
    let all = subst (λ (members : List (List ℕ)). All (λ (member : List ℕ). length member ≡ length c.args.states.now) members) (sym c.self.view_is) c.requires.same in
    let items = c.in_ok-extend_from_slice.ensures.items in (
      rw items (count_pushed c.self.inside.width c.self.inside.count c.self.inside.numbers.items c.args.states.now c.self.invariant.0 all),
      omega (arith, c.self.invariant.1, c.requires.some, ap {B = ℕ} length items, length-append c.self.inside.numbers.items c.args.states.now),
    )

pub returns : goal.returns
returns c =
    let all = subst (λ (members : List (List ℕ)). All (λ (member : List ℕ). length member ≡ length c.args.states.now) members) (sym c.self.view_is) c.requires.same in
    let items = c.in_ok-extend_from_slice.ensures.items in
    ap {B = List (List ℕ)} (λ xs. rows_of (length c.args.states.now) (c.self.inside.count + 1) xs) items ∙ rows_pushed c.self.inside.width c.self.inside.count c.self.inside.numbers.items c.args.states.now c.self.invariant.0 all ∙ ap {B = List (List ℕ)} (λ rows. rows ++ c.args.states.now ∷ []) c.self.view_is

-- A list of one has one state.
use Rattle.std.proofs.Common.{ℕ, ◌≡◌, ◌<◌, List, [], length, Contains, slice_index, slice_index_or, get_or, arith, sym, ◌∙◌, subst}
use Rattle.std.proofs.Math.Decide.{dec_lt}
use Rattle.std.proofs.lemmas.List.{get_or_default, get_or_past}
use Rattle.pair_quotient.specs.inside.Refining.{AreListed, IsAlone}

contains_one : (xs : List ℕ) (s t : ℕ) → length xs ≡ 1 → Contains xs s → Contains xs t → t ≡ s
contains_one xs s t one hs ht =
    let ls = hs.1 in
    let lt = ht.1 in
    let first : hs.0 ≡ 0 = omega (arith, one, ls) in
    let same : ht.0 ≡ 0 = omega (arith, one, lt) in
    let es : get_or xs 0 s ≡ s = subst (λ k. get_or xs k s ≡ s) first hs.2 in
    let et : get_or xs 0 t ≡ t = subst (λ k. get_or xs k t ≡ t) same ht.2 in
    sym et ∙ get_or_default xs 0 t s (omega (arith, one)) ∙ es

-- the block of a state that stands in its list has a list
pub listed_within : (members : List (List ℕ)) (b s : ℕ) → Contains (slice_index_or members b []) s → b < length members
listed_within members b s h = elim (dec_lt b (length members)) [
  | yes l ↦ l
  | no g ↦ (let none : Contains [] s = subst (λ l. Contains l s) (get_or_past members b [] (omega (arith, g))) h in absurd (omega (arith, none.1)))
]

pub alone-of_one : (n : ℕ) (classes : List ℕ) (members : List (List ℕ)) (s : ℕ) → AreListed n classes members → s < n → length (slice_index_or members (slice_index classes s) []) ≡ 1 → IsAlone classes s
alone-of_one n classes members s h ls one t lt e =
    let has : Contains (slice_index_or members (slice_index classes s) []) t = subst (λ b. Contains (slice_index_or members b []) t) e (h.listed t (omega (arith, lt, h.long))) in
    contains_one (slice_index_or members (slice_index classes s) []) s t one (h.listed s ls) has

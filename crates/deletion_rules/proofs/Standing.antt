-- What stands in a list before a place, and flags of a list.
use Rattle.std.proofs.Common.{ℕ, ◌≡◌, ◌≢◌, ◌⊎◌, ◌<◌, ◌≤◌, ◌+◌, inl, inr, Bool, true, false, List, Contains, length, length-set, subst, sym, ◌∙◌, ap, arith, eqb, slice_index, slice_index_or, slice_set, ◌↔◌, IsTrue}
use Rattle.std.proofs.Math.Decide.{dec_lt, ℕ_discrete}
use Rattle.std.proofs.Math.Bool.{beq}
use Rattle.std.proofs.lemmas.Bool.{cases_lt, eq-eqb, eqb-true}
use Rattle.std.proofs.lemmas.Grind.{get_or_default_zero}
use Rattle.std.proofs.lemmas.List.{get_or_default, get_or_past, get_or-set_same, get_or-set_other}
use Rattle.tableau_graph.specs.TableauParts.{edges_at}
use Rattle.deletion_rules.specs.inside.Cursors.{flag_of, AreCursors, EachIs, HasPassed}
use Rattle.deletion_rules.specs.inside.Prefix.{StandsBefore}

pub none_before : {A : Type 0} (xs : List A) (x : A) → StandsBefore xs 0 x → ⊥
none_before xs x h = omega (arith, h.1)

pub stands_more : {A : Type 0} (xs : List A) (k : ℕ) (x : A) → StandsBefore xs k x → StandsBefore xs (k + 1) x
stands_more xs k x h = (h.0, (let lt = h.1 in omega (arith, lt)), h.2, h.3)

pub stands_here : {A : Type 0} (xs : List A) (k : ℕ) (x y : A) → k < length xs → slice_index_or xs k y ≡ y → x ≡ y → StandsBefore xs (k + 1) x
stands_here xs k x y lt at e = (k, omega arith, lt, subst (λ z. slice_index_or xs k z ≡ z) (sym e) at)

pub stands_cases : {A : Type 0} (xs : List A) (k : ℕ) (x y : A) → k < length xs → slice_index_or xs k y ≡ y → StandsBefore xs (k + 1) x → StandsBefore xs k x ⊎ (x ≡ y)
stands_cases xs k x y lt at h = elim (dec_lt h.0 k) [ yes b ↦ inl (h.0, b, h.2, h.3) | no o ↦ inr (let more = h.1 in let q : h.0 ≡ k = omega (arith, more, o) in sym h.3 ∙ ap (λ i. slice_index_or xs i x) q ∙ get_or_default xs k x y lt ∙ at) ]

pub stands_in : {A : Type 0} (xs : List A) (k : ℕ) (x : A) → StandsBefore xs k x → Contains xs x
stands_in xs k x h = (h.0, h.2, h.3)

pub stands_all : {A : Type 0} (xs : List A) (k : ℕ) (x : A) → length xs ≤ k → Contains xs x → StandsBefore xs k x
stands_all xs k x le h = (h.0, (let lt = h.1 in omega (arith, lt, le)), h.1, h.2)

pub no_yes : false ≡ true → ⊥
no_yes e = cc

-- a flag that is set
pub flag_within : (flags : List Bool) (x : ℕ) → flag_of flags x ≡ true → x < length flags
flag_within flags x e = elim (cases_lt x (length flags)) [ inl l ↦ l | inr g ↦ absurd (no_yes (sym (get_or_past flags x false g) ∙ e)) ]

pub flag_here : (flags : List Bool) (i : ℕ) (b : Bool) → i < length flags → flag_of (slice_set flags i b) i ≡ b
flag_here flags i b lt = get_or-set_same flags i b false lt

pub flag_other : (flags : List Bool) (i j : ℕ) (b : Bool) → j ≢ i → flag_of (slice_set flags i b) j ≡ flag_of flags j
flag_other flags i j b ne = get_or-set_other flags i j b false ne

pub flag_kept : (flags : List Bool) (i j : ℕ) → i < length flags → flag_of flags j ≡ true → flag_of (slice_set flags i true) j ≡ true
flag_kept flags i j lt e = elim (ℕ_discrete j i) [ yes q ↦ subst (λ z. flag_of (slice_set flags i true) z ≡ true) (sym q) (flag_here flags i true lt) | no n ↦ flag_other flags i j true n ∙ e ]

pub flag_cases : (flags : List Bool) (i j : ℕ) → flag_of (slice_set flags i true) j ≡ true → (flag_of flags j ≡ true) ⊎ (j ≡ i)
flag_cases flags i j e = elim (ℕ_discrete j i) [ yes q ↦ inr q | no n ↦ inl (sym (flag_other flags i j true n) ∙ e) ]

not_same : (x y : Bool) → beq x y ≡ false → x ≡ y → ⊥
not_same true true e q = let f : true ≡ false = e in cc
not_same true false e q = cc
not_same false true e q = cc
not_same false false e q = let f : true ≡ false = e in cc

-- a cursor at the end of its list, and one before it
pub through_end : (items : List ℕ) (flags : List Bool) (value : Bool) (cursor : ℕ) → HasPassed items flags value cursor → length items ≤ cursor → IsTrue (eqb cursor (length items)) ↔ EachIs flags value items
through_end items flags value cursor h le = (λ e x c. each x c, λ f. eq-eqb cursor (length items) (let within = h.within in omega (arith, within, le)))
  where
    each : (x : ℕ) → Contains items x → flag_of flags x ≡ value
    each x c = let lt = c.1 in subst (λ z. flag_of flags z ≡ value) (sym (get_or_default_zero items c.0 x lt) ∙ c.2) (h.passed c.0 (omega (arith, lt, le)))

pub through_before : (items : List ℕ) (flags : List Bool) (value : Bool) (cursor : ℕ) → cursor < length items → beq (flag_of flags (slice_index_or items cursor 0)) value ≡ false → IsTrue (eqb cursor (length items)) ↔ EachIs flags value items
through_before items flags value cursor lt e = (λ f. absurd (let q = eqb-true cursor (length items) f in omega (arith, lt, q)), λ f. absurd (not_same (flag_of flags x) value e (f x (cursor, lt, get_or_default_zero items cursor x lt))))
  where
    x : ℕ
    x = slice_index_or items cursor 0

-- one cursor that was moved
pub cursors_set : (count : ℕ) (lists : List (List ℕ)) (flags : List Bool) (value : Bool) (cursors : List ℕ) (i x : ℕ) → i < count → AreCursors count lists flags value cursors → HasPassed (edges_at lists i) flags value x → AreCursors count lists flags value (slice_set cursors i x)
cursors_set count lists flags value cursors i x lt h moved = record { long = length-set cursors i x ∙ h.long; each = each }
  where
    each : (n : ℕ) → n < count → HasPassed (edges_at lists n) flags value (slice_index (slice_set cursors i x) n)
    each n small = elim (ℕ_discrete n i) [ yes q ↦ subst (λ z. HasPassed (edges_at lists z) flags value (slice_index (slice_set cursors i x) z)) (sym q) (subst (HasPassed (edges_at lists i) flags value) (sym (get_or-set_same cursors i x 0 (let long = h.long in omega (arith, lt, long)))) moved) | no d ↦ subst (HasPassed (edges_at lists n) flags value) (sym (get_or-set_other cursors i n x 0 d)) (h.each n small) ]

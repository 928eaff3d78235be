-- Elements found by their names.
use Rattle.std.proofs.Common.{ℕ, ◌≡◌, ◌≢◌, ◌<◌, ◌↔◌, ◌⊎◌, inl, inr, true, false, IsTrue, List, [], ◌∷◌, Option, Some, None, length, get_or, map, position, AllPairs, Contains, refl, sym, arith, ◌∙◌}
use Rattle.std.proofs.lemmas.Bool.{cases_lt}
use Rattle.std.proofs.lemmas.List.{length-map, get_or_default}
use Rattle.std.proofs.lemmas.List.Elements.{Contains-get_or}
use Rattle.std.proofs.lemmas.List.Quantifiers.{position-Some}
use Rattle.std.proofs.lemmas.Slice.Eq.{bytes_eq-Decides}
use Rattle.std.specs.List.{position_or_len}
use Rattle.std.specs.Option.{is_some, unwrap_or}
use Rattle.std.specs.Str.{bytes_eq}
use Rattle.pair_structure.specs.Parts.{name_at}
use Rattle.ctl_text.specs.Value.{number_in}
use Rattle.strict_text.proofs.Positions.{none_passes_at}

first_named : {X : Type 0} (f : X → List ℕ) (xs : List X) (y : List ℕ) → position_or_len (λ x. bytes_eq x y) (map f xs) ≡ position_or_len (λ x. bytes_eq (f x) y) xs
first_named f [] y = refl
first_named f (x ∷ xs) y = rw (first_named f xs y) refl

-- the place of a name among the names is the place of the first of that name
pub position-names : {X : Type 0} (f : X → List ℕ) (xs : List X) (y : List ℕ) → position (λ x. bytes_eq x y) (map f xs) ≡ position (λ x. bytes_eq (f x) y) xs
position-names f xs y = rw (first_named f xs y, length-map xs f) refl

abbrev Named : List (List ℕ) → List ℕ → Option ℕ → Type 0
Named names name found = (Contains names name × (get_or names (unwrap_or found 0) [] ≡ name) × (unwrap_or found 0 < length names) × (is_some found ≡ true)) ⊎ ((Contains names name → ⊥) × (is_some found ≡ false))

-- a name is among these, at its number, or not
named : (names : List (List ℕ)) (name : List ℕ) (found : Option ℕ) → position (λ x. bytes_eq x name) names ≡ found → Named names name found
named names name (Some n) e =
    let p = position-Some (λ x. bytes_eq x name) names n [] e in
    let is : get_or names n [] ≡ name = (bytes_eq-Decides (get_or names n []) name).0 p.1 in
    inl ((n, p.0, get_or_default names n name [] p.0 ∙ is), is, p.0, refl)
named names name None e = inr (not_there, refl)
  where
    not_there : Contains names name → ⊥
    not_there (k, lt, is) =
        let fails = none_passes_at (λ x. bytes_eq x name) names name e k lt in
        let passes = (bytes_eq-Decides (get_or names k name) name).1 is in cc

-- a name is found exactly where it is among the names
pub found-Contains : (names : List (List ℕ)) (name : List ℕ) (found : Option ℕ) → position (λ x. bytes_eq x name) names ≡ found → IsTrue (is_some found) ↔ Contains names name
found-Contains names name found e = elim (named names name found e) [
  | inl h ↦ (λ t. h.0, λ there. rw h.3 refl)
  | inr h ↦ (λ t. let f : is_some found ≡ false = h.1 in cc, λ there. absurd (h.0 there))
]

pub Contains-not_not : (names : List (List ℕ)) (name : List ℕ) → ((Contains names name → ⊥) → ⊥) → Contains names name
Contains-not_not names name not_not = elim (named names name (position (λ x. bytes_eq x name) names) refl) [ inl h ↦ h.0 | inr h ↦ absurd (not_not h.0) ]

pub named_at : (names : List (List ℕ)) (name : List ℕ) → Contains names name → get_or names (number_in names name) [] ≡ name
named_at names name there = elim (named names name (position (λ x. bytes_eq x name) names) refl) [ inl h ↦ h.1 | inr h ↦ absurd (h.0 there) ]

pub number_within : (names : List (List ℕ)) (name : List ℕ) → Contains names name → number_in names name < length names
number_within names name there = elim (named names name (position (λ x. bytes_eq x name) names) refl) [ inl h ↦ h.2 | inr h ↦ absurd (h.0 there) ]

-- the name at a number has that number again
pub number_again : (names : List (List ℕ)) (k : ℕ) → AllPairs (λ (x y : List ℕ). x ≢ y) names → k < length names → number_in names (name_at names k) ≡ k
number_again names k distinct lt =
    let there = Contains-get_or names k [] lt in
    let is = named_at names (get_or names k []) there in
    let within = number_within names (get_or names k []) there in
    elim (cases_lt (number_in names (get_or names k [])) k) [
      | inl below ↦ absurd (distinct (number_in names (get_or names k [])) k [] below lt is)
      | inr above ↦ elim (cases_lt k (number_in names (get_or names k []))) [
        | inl over ↦ absurd (distinct k (number_in names (get_or names k [])) [] over within (sym is))
        | inr under ↦ omega arith
      ]
    ]

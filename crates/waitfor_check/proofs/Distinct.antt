-- Lists in which nothing stands twice, and how many of them there can be.
use Rattle.std.proofs.Common.{ℕ, zero, suc, ◌≡◌, ◌<◌, ◌≤◌, ◌⊎◌, inl, inr, List, [], ◌∷◌, ◌++◌, length, get_or, take, drop, arith, refl, sym, ◌∙◌, ap, subst, Contains}
use Rattle.std.specs.List.{flat_map, remove}
use Rattle.std.proofs.lemmas.List.{append-nil, append_assoc, append_cancel_left}
use Rattle.std.proofs.lemmas.List.Sorted.{Contains-permutation, IsPermutation-remove, length_permutation}
use Rattle.waitfor_check.specs.inside.Walk.{Differ, EachDiffer, completions}

pub Contains-later : {X : Type 0} (x : X) (xs : List X) (y : X) → Contains xs y → Contains (x ∷ xs) y
Contains-later x xs y (k, lt, is) = (suc k, omega (arith, lt), is)

pub Contains-cases : {X : Type 0} (x : X) (xs : List X) (y : X) → Contains (x ∷ xs) y → (x ≡ y) ⊎ Contains xs y
Contains-cases x xs y (zero, lt, is) = inl is
Contains-cases x xs y (suc k, lt, is) = inr (k, omega (arith, lt), is)

pub Contains-either : {X : Type 0} (xs ys : List X) (z : X) → Contains (xs ++ ys) z → Contains xs z ⊎ Contains ys z
Contains-either [] ys z has = inr has
Contains-either (x ∷ xs) ys z has = elim (Contains-cases x (xs ++ ys) z has) [
  | inl same ↦ inl (0, omega arith, same)
  | inr later ↦ elim (Contains-either xs ys z later) [ inl left ↦ inl (Contains-later x xs z left) | inr right ↦ inr right ]
]

-- where nothing stands twice, and each is in another list, there are no more than in that
pub no_more : {X : Type 0} (xs ys : List X) → Differ xs → ((x : X) → Contains xs x → Contains ys x) → length xs ≤ length ys
no_more [] ys differ among = omega arith
no_more {X} (x ∷ xs) ys differ among =
    let found = among x (0, omega arith, refl) in
    let moved = IsPermutation-remove ys found.0 x found.1 (sym found.2) in
    omega (
      arith,
      length_permutation ys (x ∷ remove ys found.0) moved,
      no_more xs (remove ys found.0) differ.1 (λ z has. elim (Contains-cases x (remove ys found.0) z (Contains-permutation ys (x ∷ remove ys found.0) z moved (among z (Contains-later x xs z has)))) [
        | inl same ↦ absurd (differ.0 (subst (Contains xs) (sym same) has))
        | inr other ↦ other
      ]),
    )

pub Differ-append : {X : Type 0} (xs ys : List X) → Differ xs → Differ ys → ((z : X) → Contains xs z → Contains ys z → ⊥) → Differ (xs ++ ys)
Differ-append [] ys left right apart = right
Differ-append (x ∷ xs) ys left right apart = (
  λ has. elim (Contains-either xs ys x has) [ inl again ↦ left.0 again | inr there ↦ apart x (0, omega arith, refl) there ],
  Differ-append xs ys left.1 right (λ z here there. apart z (Contains-later x xs z here) there),
)

pub Differ-take : {X : Type 0} (n : ℕ) (xs : List X) → Differ xs → Differ (take n xs)
Differ-take zero xs differ = tt
Differ-take (suc n) [] differ = tt
Differ-take (suc n) (x ∷ xs) differ = (λ has. differ.0 (among n xs x has), Differ-take n xs differ.1)
  where
    among : {X : Type 0} (n : ℕ) (xs : List X) (x : X) → Contains (take n xs) x → Contains xs x
    among zero xs x has = absurd (omega (arith, has.1))
    among (suc n) [] x has = absurd (omega (arith, has.1))
    among (suc n) (y ∷ xs) x has = elim (Contains-cases y (take n xs) x has) [ inl same ↦ (0, omega arith, same) | inr later ↦ Contains-later y xs x (among n xs x later) ]

-- a completion begins with what was chosen
abbrev pub block : List ℕ → List (List ℕ) → ℕ → List (List ℕ)
block chosen rest x = completions (chosen ++ x ∷ []) rest

-- one of several blocks has it
pub in_block : (chosen : List ℕ) (rest : List (List ℕ)) (xs : List ℕ) (c : List ℕ) → Contains (flat_map (block chosen rest) xs) c → (x : ℕ) × Contains xs x × Contains (block chosen rest x) c
in_block chosen rest [] c has = absurd (omega (arith, has.1))
in_block chosen rest (x ∷ xs) c has = elim (Contains-either (block chosen rest x) (flat_map (block chosen rest) xs) c has) [
  | inl here ↦ (x, (0, omega arith, refl), here)
  | inr later ↦ (let old = in_block chosen rest xs c later in (old.0, Contains-later x xs old.0 old.1, old.2))
]

pub begins : (chosen : List ℕ) (lists : List (List ℕ)) (c : List ℕ) → Contains (completions chosen lists) c → (rest : List ℕ) × (c ≡ chosen ++ rest)
begins chosen [] c has = elim (Contains-cases chosen [] c has) [ inl same ↦ ([], sym same ∙ sym (append-nil chosen)) | inr none ↦ absurd (omega (arith, none.1)) ]
begins chosen (xs ∷ rest) c has =
    let one = in_block chosen rest xs c has in
    let begun = begins (chosen ++ one.0 ∷ []) rest c one.2 in
    (one.0 ∷ begun.0, begun.1 ∙ append_assoc chosen (one.0 ∷ []) begun.0)

-- blocks of different numbers share none
apart : (chosen : List ℕ) (rest : List (List ℕ)) (x y : ℕ) (c : List ℕ) → Contains (block chosen rest x) c → Contains (block chosen rest y) c → x ≡ y
apart chosen rest x y c here there =
    let p = begins (chosen ++ x ∷ []) rest c here in
    let q = begins (chosen ++ y ∷ []) rest c there in
    let same : chosen ++ (x ∷ p.0) ≡ chosen ++ (y ∷ q.0) = sym (append_assoc chosen (x ∷ []) p.0) ∙ sym p.1 ∙ q.1 ∙ append_assoc chosen (y ∷ []) q.0 in
    ap {B = ℕ} (λ l. get_or l 0 0) (append_cancel_left chosen (x ∷ p.0) (y ∷ q.0) same)

pub blocks_differ : (chosen : List ℕ) (rest : List (List ℕ)) (xs : List ℕ) → Differ xs → ((x : ℕ) → Differ (block chosen rest x)) → Differ (flat_map (block chosen rest) xs)
blocks_differ chosen rest [] differ each = tt
blocks_differ chosen rest (x ∷ xs) differ each = Differ-append (block chosen rest x) (flat_map (block chosen rest) xs) (each x) (blocks_differ chosen rest xs differ.1 each) (λ c here later.
    let one = in_block chosen rest xs c later in
    differ.0 (subst (Contains xs) (sym (apart chosen rest x one.0 c here one.2)) one.1))

pub completions_differ : (chosen : List ℕ) (lists : List (List ℕ)) → EachDiffer lists → Differ (completions chosen lists)
completions_differ chosen [] differ = (λ none. absurd (omega (arith, none.1)), tt)
completions_differ chosen (xs ∷ rest) differ = blocks_differ chosen rest xs differ.0 (λ x. completions_differ (chosen ++ x ∷ []) rest differ.1)

-- the blocks of the first n numbers
pub blocks_to_differ : (chosen : List ℕ) (rest : List (List ℕ)) (xs : List ℕ) (n : ℕ) → Differ xs → EachDiffer rest → Differ (flat_map (block chosen rest) (take n xs))
blocks_to_differ chosen rest xs n differ each = blocks_differ chosen rest (take n xs) (Differ-take n xs differ) (λ x. completions_differ (chosen ++ x ∷ []) rest each)

-- lists that differ, from a place on
pub EachDiffer-at : (lists : List (List ℕ)) (n : ℕ) → EachDiffer lists → n < length lists → Differ (get_or lists n []) × EachDiffer (drop (suc n) lists)
EachDiffer-at [] n differ lt = absurd (omega arith)
EachDiffer-at (xs ∷ rest) zero differ lt = (differ.0, differ.1)
EachDiffer-at (xs ∷ rest) (suc n) differ lt = EachDiffer-at rest n differ.1 (omega (arith, lt))

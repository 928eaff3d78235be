-- Elements with a fact by their places, taken from the front one after another.
use Rattle.std.proofs.Common.{ℕ, suc, inl, inr, ◌≡◌, ◌<◌, ◌+◌, List, [], ◌∷◌, ◌++◌, length, length-append, get_or, arith, sym, ◌∙◌, ap, subst}
use Rattle.std.specs.Prelude.{remove}
use Rattle.std.proofs.lemmas.List.{get_or_append_left}
use Rattle.std.proofs.Math.Seq.{get_or-append_seam}
use Rattle.std.proofs.lemmas.Bool.{cases_lt}

-- the element at place j has the fact of number c + j
abbrev pub From : {X : Type 0} → (ℕ → X → Type 0) → ℕ → List X → Type 0
From {X} P c xs = (j : ℕ) (d : X) → j < length xs → P (c + j) (get_or xs j d)

pub from_first : {X : Type 0} (P : ℕ → X → Type 0) (c : ℕ) (xs : List X) (x : X) → From P c xs → 0 < length xs → x ≡ get_or xs 0 x → P c x
from_first P c xs x from some is = subst (P c) (sym is) (subst (λ (n : ℕ). P n (get_or xs 0 x)) (omega arith) (from 0 x some))

pub from_rest : {X : Type 0} (P : ℕ → X → Type 0) (c : ℕ) (xs : List X) → From P c xs → From P (c + 1) (remove xs 0)
from_rest P c [] from j d lt = absurd (omega (arith, lt))
from_rest P c (x ∷ xs) from j d lt = subst (λ (n : ℕ). P n (get_or xs j d)) (omega arith) (from (suc j) d (omega (arith, lt)))

pub from_none : {X : Type 0} (P : ℕ → X → Type 0) → From P 0 []
from_none P j d lt = absurd (omega (arith, lt))

pub from_push : {X : Type 0} (P : ℕ → X → Type 0) (xs : List X) (x : X) (n : ℕ) → n ≡ length xs → From P 0 xs → P n x → From P 0 (xs ++ x ∷ [])
from_push {X} P xs x n long from here j d lt = by xs j lt n long (λ i d lt. from i d lt) here
  where
    by : (ys : List X) (i : ℕ) → i < length (ys ++ x ∷ []) → (m : ℕ) → m ≡ length ys → ((k : ℕ) (d : X) → k < length ys → P (0 + k) (get_or ys k d)) → P m x → P (0 + i) (get_or (ys ++ x ∷ []) i d)
    by ys i lt m long each at = elim (cases_lt i (length ys)) [
      | inl below ↦ subst (P (0 + i)) (sym (get_or_append_left ys (x ∷ []) d i below)) (each i d below)
      | inr not ↦
          let same : i ≡ length ys = omega (arith, lt, length-append ys (x ∷ []), not) in
          let last : get_or (ys ++ x ∷ []) i d ≡ x = ap (λ (k : ℕ). get_or (ys ++ x ∷ []) k d) same ∙ get_or-append_seam ys x [] d in
          let number : m ≡ 0 + i = omega (arith, long, same) in
          subst (λ (k : ℕ). P k (get_or (ys ++ x ∷ []) i d)) number (subst (P m) (sym last) at)
    ]

pub from_zero : {X : Type 0} (P : ℕ → X → Type 0) (xs : List X) → From P 0 xs → (j : ℕ) (d : X) → j < length xs → P j (get_or xs j d)
from_zero P xs from j d lt = subst (λ (n : ℕ). P n (get_or xs j d)) (omega arith) (from j d lt)

pub long_push : {X : Type 0} (ys xs : List X) (x : X) → ys ≡ xs ++ x ∷ [] → length ys ≡ length xs + 1
long_push ys xs x is = ap length is ∙ length-append xs (x ∷ [])

pub from_pushed : {X : Type 0} (P : ℕ → X → Type 0) (ys xs : List X) (x : X) (n : ℕ) → ys ≡ xs ++ x ∷ [] → n ≡ length xs → From P 0 xs → P n x → From P 0 ys
from_pushed P ys xs x n is long from here = subst (From P 0) (sym is) (from_push P xs x n long from here)

pub from_empty : {X : Type 0} (P : ℕ → X → Type 0) (xs : List X) → xs ≡ [] → From P 0 xs
from_empty P xs is = subst (From P 0) (sym is) (from_none P)

pub from_all : {X : Type 0} (P : ℕ → X → Type 0) (xs : List X) → ((j : ℕ) (d : X) → j < length xs → P j (get_or xs j d)) → From P 0 xs
from_all P xs each j d lt = subst (λ (n : ℕ). P n (get_or xs j d)) (omega arith) (each j d lt)

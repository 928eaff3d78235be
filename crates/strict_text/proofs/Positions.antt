-- What tests that pass or fail say, and what is known of the elements before the first that passes one.
use Rattle.std.proofs.Common.{ℕ, ◌≡◌, ◌<◌, ◌≤◌, Bool, true, false, not, ◌&&◌, List, nat_lt, length, get_or, refl, arith, position, Some, None, cond}
use Rattle.std.proofs.lemmas.List.Sums.{fails_before_first}
use Rattle.std.proofs.lemmas.Bool.Decides.{nat_tests}
use Rattle.std.specs.List.{position_or_len}

pub both_true : (s t : Bool) → (s && t) ≡ true → (s ≡ true) × (t ≡ true)
both_true true t e = (refl, e)
both_true false t e = cc

pub not_false : (t : Bool) → not t ≡ false → t ≡ true
not_false true e = refl
not_false false e = cc

pub not_true : (t : Bool) → not t ≡ true → t ≡ false
not_true false e = refl
not_true true e = cc

chosen_none : (b : Bool) (n : ℕ) → cond b (Some n) None ≡ None → b ≡ false
chosen_none true n e = cc
chosen_none false n e = refl

pub none_passes_at : {X : Type 0} (p : X → Bool) (xs : List X) (d : X) → position p xs ≡ None → (k : ℕ) → k < length xs → p (get_or xs k d) ≡ false
none_passes_at p xs d e k lt =
    let far : nat_lt (position_or_len p xs) (length xs) ≡ false = chosen_none (nat_lt (position_or_len p xs) (length xs)) (position_or_len p xs) e in
    let past : length xs ≤ position_or_len p xs = grind (arith, nat_tests) in
    fails_before_first p xs k d (omega arith)

pub none_passes : (p : ℕ → Bool) (xs : List ℕ) → position p xs ≡ None → (k : ℕ) → k < length xs → p (get_or xs k 0) ≡ false
none_passes p xs e k lt = none_passes_at p xs 0 e k lt

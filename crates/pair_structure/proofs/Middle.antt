-- A filter that passes the middle of a list.
use Rattle.std.proofs.Common.{ℕ, ◌≡◌, ◌<◌, ◌+◌, ◌++◌, ◌∷◌, [], Bool, true, false, List, length, take, drop, arith, ap, sym, refl, subst, filter, append-nil}
use Rattle.std.specs.List.{All, AllWithin}
use Rattle.std.proofs.lemmas.List.{take-append-drop, get_or-drop, get_or-take, length-take, length-drop}
use Rattle.std.proofs.lemmas.List.Elements.{filter-append, All-head, All-tail}

filter_all : {X : Type 0} (p : X → Bool) (xs : List X) → All (λ x. p x ≡ true) xs → filter p xs ≡ xs
filter_all p [] all = refl
filter_all p (x ∷ xs) all = rw (All-head (λ x. p x ≡ true) x xs all) (ap (λ xs. x ∷ xs) (filter_all p xs (All-tail (λ x. p x ≡ true) x xs all)))

filter_none : {X : Type 0} (p : X → Bool) (xs : List X) → All (λ x. p x ≡ false) xs → filter p xs ≡ []
filter_none p [] all = refl
filter_none p (x ∷ xs) all = rw (All-head (λ x. p x ≡ false) x xs all) (filter_none p xs (All-tail (λ x. p x ≡ false) x xs all))

-- what passes stands side by side
pub filter_middle : {X : Type 0} (p : X → Bool) (before middle after : List X) → All (λ x. p x ≡ false) before → All (λ x. p x ≡ true) middle → All (λ x. p x ≡ false) after
    → filter p (before ++ (middle ++ after)) ≡ middle
filter_middle p before middle after none all none' = rw (filter-append, filter-append, filter_none p before none, filter_all p middle all, filter_none p after none') (append-nil middle)

All-take : {X : Type 0} (P : X → Type 0) (xs : List X) (n : ℕ) → AllWithin P xs 0 n → All P (take n xs)
All-take P xs n within k d lt = let below : k < n = omega (arith, length-take n xs) in rw (get_or-take n xs k d below) (within k d (omega arith) below)

pub All-drop : {X : Type 0} (P : X → Type 0) (xs : List X) (n : ℕ) → AllWithin P xs n (length xs) → All P (drop n xs)
All-drop P xs n within k d lt = rw (get_or-drop n xs k d) (within (n + k) d (omega arith) (omega (arith, length-drop n xs)))

-- the first of the rest pass, and no other
pub take_is_filter : {X : Type 0} (p : X → Bool) (xs : List X) (begin count : ℕ) → AllWithin (λ x. p x ≡ false) xs 0 begin → AllWithin (λ x. p x ≡ true) (drop begin xs) 0 count
    → AllWithin (λ x. p x ≡ false) (drop begin xs) count (length (drop begin xs)) → take count (drop begin xs) ≡ filter p xs
take_is_filter p xs begin count none all none' =
    let rest = drop begin xs in
    let split : take begin xs ++ (take count rest ++ drop count rest) ≡ xs = rw (take-append-drop count rest, take-append-drop begin xs) refl in
    subst (λ xs. take count rest ≡ filter p xs) split (sym (filter_middle p (take begin xs) (take count rest) (drop count rest) (All-take (λ x. p x ≡ false) xs begin none) (All-take (λ x. p x ≡ true) rest count all) (All-drop (λ x. p x ≡ false) rest count none')))

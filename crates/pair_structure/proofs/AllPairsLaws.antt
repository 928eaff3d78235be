-- A relation that holds of no two elements of a list, and elements that stand before another.
use Rattle.std.proofs.Common.{ℕ, ◌≡◌, ◌<◌, ◌≤◌, List, length, get_or, take, Any, AllPairs, arith, sym, ◌∙◌, subst}
use Rattle.std.proofs.lemmas.List.{get_or-take, length-take-le, get_or_default}

pub Any-take : {X : Type 0} (P : X → Type 0) (xs : List X) (i n : ℕ) (d : X) → i < n → n ≤ length xs → P (get_or xs i d) → Any P (take n xs)
Any-take P xs i n d lt le p =
    let within : i < length (take n xs) = rw (length-take-le n xs le) lt in
    (i, get_or xs i d, within, get_or-take n xs i (get_or xs i d) lt ∙ get_or_default xs i (get_or xs i d) d (omega arith), p)

-- what is found among the first n elements stands below n
pub among_take : {X : Type 0} (P : X → Type 0) (xs : List X) (n : ℕ) (d : X) → n ≤ length xs → Any P (take n xs) → (i : ℕ) × (i < n) × P (get_or xs i d)
among_take {X} P xs n d le (i, x, within, is, p) =
    let lt : i < n = rw (length-take-le n xs le) at within in
    let same : x ≡ get_or xs i d = sym is ∙ get_or-take n xs i x lt ∙ get_or_default xs i x d (omega arith) in
    (i, lt, subst P same p)

pub AllPairs-from_none_earlier : {X : Type 0} (R : X → X → Type 0) (xs : List X) (d : X) → ((j : ℕ) → j < length xs → Any (λ x. R x (get_or xs j d)) (take j xs) → ⊥) → AllPairs (λ x y. R x y → ⊥) xs
AllPairs-from_none_earlier {X} R xs d none i j e lt within r =
    none j within (Any-take (λ x. R x (get_or xs j d)) xs i j e lt (omega arith) (subst (λ (y : X). R (get_or xs i e) y) (get_or_default xs j e d within) r))

pub none_earlier-from_AllPairs : {X : Type 0} (R : X → X → Type 0) (xs : List X) (d : X) → AllPairs (λ x y. R x y → ⊥) xs → (j : ℕ) → j < length xs → Any (λ x. R x (get_or xs j d)) (take j xs) → ⊥
none_earlier-from_AllPairs {X} R xs d pairs j within found =
    let (i, lt, r) = among_take (λ x. R x (get_or xs j d)) xs j d (omega arith) found in
    pairs i j d lt within r

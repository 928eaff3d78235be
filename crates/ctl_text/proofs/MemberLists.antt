-- Lists of words, seen through where they lie in memory.
use Rattle.std.proofs.Common.{ℕ, zero, suc, ◌≡◌, ◌<◌, ◌+◌, ◌↔◌, ◌⊎◌, List, [], ◌∷◌, length, get_or, drop, map, All, Any, Contains, refl, sym, ap, ◌∙◌, subst, arith}
use Rattle.std.proofs.lemmas.List.{get_or-map, get_or_default, length-map}
use Rattle.std.proofs.lemmas.List.Elements.{All-map}
use Rattle.ctl_text.specs.Cause.{Repeats}
use Rattle.ctl_text.specs.inside.ItemReading.{few_at, item_at}

any_before : {X Y : Type 0} (P : Y → Type 0) (f : X → Y) (xs : List X) → Any P (map f xs) → Any (λ x. P (f x)) xs
any_before P f [] (i, y, lt, is, p) = absurd (omega (arith, lt))
any_before P f (x ∷ xs) (zero, y, lt, is, p) = (0, x, omega arith, refl, subst P (sym is) p)
any_before P f (x ∷ xs) (suc i, y, lt, is, p) = let (j, z, below, at, q) = any_before P f xs (i, y, omega (arith, lt), is, p) in (suc j, z, omega (arith, below), at, q)

any_behind : {X Y : Type 0} (P : Y → Type 0) (f : X → Y) (xs : List X) → Any (λ x. P (f x)) xs → Any P (map f xs)
any_behind P f xs (i, x, lt, is, p) = (i, f x, omega (arith, lt, length-map xs f), get_or-map f xs i x (f x) lt ∙ ap f is, p)

-- a test of some element is one of some element that it is mapped to
pub any_map : {X Y : Type 0} {T : Type 0} (P : Y → Type 0) (f : X → Y) (xs : List X) → T ↔ Any (λ x. P (f x)) xs → T ↔ Any P (map f xs)
any_map P f xs tests = (λ t. any_behind P f xs (tests.0 t), λ h. tests.1 (any_before P f xs h))

any_contains : (xs : List (List ℕ)) (y : List ℕ) → Any (λ x. x ≡ y) xs → Contains xs y
any_contains xs y (i, x, lt, is, e) = (i, lt, get_or_default xs i y x lt ∙ is ∙ e)

contains_any : (xs : List (List ℕ)) (y : List ℕ) → Contains xs y → Any (λ x. x ≡ y) xs
contains_any xs y (i, lt, is) = (i, y, lt, is, refl)

pub contains_map : {X : Type 0} {T : Type 0} (f : X → List ℕ) (xs : List X) (y : List ℕ) → T ↔ Any (λ x. f x ≡ y) xs → T ↔ Contains (map f xs) y
contains_map f xs y tests = (λ t. any_contains (map f xs) y (any_behind (λ z. z ≡ y) f xs (tests.0 t)), λ h. tests.1 (any_before (λ z. z ≡ y) f xs (contains_any (map f xs) y h)))

pub all_map : {X Y : Type 0} {T : Type 0} (P : Y → Type 0) (f : X → Y) (xs : List X) → T ↔ All (λ x. P (f x)) xs → T ↔ All P (map f xs)
all_map P f xs tests = (λ t. All-map P f xs (tests.0 t), λ h. tests.1 (λ k d lt. subst P (get_or-map f xs k d (f d) lt) (h k (f d) (omega (arith, lt, length-map xs f)))))

pub all_at : {X Y : Type 0} (P : Y → Type 0) (f : X → Y) (xs : List X) (k : ℕ) (d : X) → All P (map f xs) → k < length xs → P (f (get_or xs k d))
all_at P f xs k d h lt = subst P (get_or-map f xs k d (f d) lt) (h k (f d) (omega (arith, lt, length-map xs f)))

-- the first word that is left stands again behind it, or the words behind it repeat
abbrev pub RepeatsFrom : {X : Type 0} → (X → List ℕ) → List X → ℕ → Type 0
RepeatsFrom f xs i = Repeats (drop i (map f xs))

pub repeats_next : {X : Type 0} (f : X → List ℕ) (xs : List X) (i : ℕ) (d : X) → i < length xs → RepeatsFrom f xs i ↔ (Contains (map f (drop (i + 1) xs)) (f (get_or xs i d)) ⊎ RepeatsFrom f xs (i + 1))
repeats_next f [] i d lt = absurd (omega (arith, lt))
repeats_next f (x ∷ xs) zero d lt = (λ h. h, λ h. h)
repeats_next f (x ∷ xs) (suc i) d lt = let next : suc i + 1 ≡ suc (i + 1) = omega arith in rw next (repeats_next f xs i d (omega (arith, lt)))

pub repeats_none : {X : Type 0} (f : X → List ℕ) (xs : List X) (i : ℕ) → length xs ≡ i → RepeatsFrom f xs i → ⊥
repeats_none f [] i is h = h'
  where
    h' : ⊥
    h' = subst (λ n. Repeats (drop n (map f []))) (sym is) h
repeats_none f (x ∷ xs) zero is h = absurd (omega (arith, is))
repeats_none f (x ∷ xs) (suc i) is h = repeats_none f xs i (omega (arith, is)) h

-- fewer than two words are no set
pub few_short : {X : Type 0} (f : X → List ℕ) (ws : List X) → length ws < 2 → few_at (map f ws) ≡ item_at (map f ws)
few_short f [] lt = refl
few_short f (w ∷ []) lt = refl
few_short f (w ∷ a ∷ ws) lt = absurd (omega (arith, lt))

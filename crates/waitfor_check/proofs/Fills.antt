-- Lists that are put one after another, each in its place.
use Rattle.std.proofs.Common.{ℕ, ◌≡◌, ◌<◌, ◌+◌, List, [], length, get_or, set, subst, sym}
use Rattle.std.proofs.lemmas.List.Edits.{fill_by_more}

-- one list more
pub fill_more : (f : ℕ → List ℕ) (lists : List (List ℕ)) (i : ℕ) (x : List ℕ) → i < length lists → x ≡ f i → ((k : ℕ) → k < i → get_or lists k [] ≡ f k) → (k : ℕ) → k < i + 1 → get_or (set lists i x) k [] ≡ f k
fill_more f lists i x lt is before k lt' = subst (λ (x : List ℕ). get_or (set lists i x) k [] ≡ f k) (sym is) (fill_by_more f lists i [] lt before k lt')

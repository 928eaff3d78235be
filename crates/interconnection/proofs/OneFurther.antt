-- Copies of a list, one further.
use Rattle.std.proofs.Common.{ℕ, ◌≡◌, ◌<◌, ◌+◌, List, [], ◌∷◌, ◌++◌, length, take, get_or, sym, ◌∙◌}
use Rattle.std.proofs.lemmas.List.{take_more}

pub copies_more : {X : Type 0} (xs copies : List X) (i : ℕ) (x y : X) → i < length xs → x ≡ get_or xs i x → copies ≡ take i xs → y ≡ x → copies ++ y ∷ [] ≡ take (i + 1) xs
copies_more xs copies i x y lt is so same = rw (so, same ∙ is) (sym (take_more xs i x lt))

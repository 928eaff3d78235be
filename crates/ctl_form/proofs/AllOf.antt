-- What holds of each element of a list holds of each element of a part, and of the last.
use Rattle.std.proofs.Common.{zero, suc, ◌≡◌, ◌++◌, List, [], ◌∷◌, length, All, subst, arith, length-append}
use Rattle.std.proofs.Math.Seq.{get_or-append_seam}
use Rattle.std.proofs.lemmas.List.{get_or_append_left}

pub All-front : {X : Type 0} (P : X → Type 0) (xs ys : List X) → All P (xs ++ ys) → All P xs
All-front P xs ys h k d lt = subst P (get_or_append_left xs ys d k lt) (h k d (omega (arith, lt, length-append xs ys)))

pub All-last : {X : Type 0} (P : X → Type 0) (ys xs : List X) (x : X) → ys ≡ xs ++ x ∷ [] → All P ys → P x
All-last P ys xs x e h = subst P (get_or-append_seam xs x [] x) (subst (λ zs. All P zs) e h (length xs) x (omega (arith, length-append xs (x ∷ []))))

pub All-one : {X : Type 0} (P : X → Type 0) (x : X) → P x → All P (x ∷ [])
All-one P x h zero d lt = h
All-one P x h (suc k) d lt = absurd (omega (arith, lt))

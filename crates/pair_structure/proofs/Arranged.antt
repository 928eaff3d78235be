-- A list that is sorted and then loses what stands in it twice.
use Rattle.std.specs.Prelude.{◌≡◌, ◌↔◌, Bool, true, List, [], Contains, IsPermutation}
use Rattle.std.specs.Cmp.{IsEquivalence}
use Rattle.std.specs.List.Retain.{DiffersFromLast, IsFiltered}
use Rattle.std.proofs.Common.{subst, sym}
use Rattle.std.proofs.lemmas.List.Filters.{dedup_is}
use Rattle.std.proofs.lemmas.List.Kept.{Contains-dedup, Contains-from_dedup}
use Rattle.std.proofs.lemmas.List.Sorted.{Contains-permutation, IsPermutation-sym}

-- it has the elements that it had
pub Contains-arranged : {X : Type 0} {E : X → X → Bool} → IsEquivalence E → ((x y : X) → E x y ≡ true → x ≡ y) → (old sorted new : List X) → IsPermutation old sorted → IsFiltered (DiffersFromLast E) [] sorted new
    → (x : X) → Contains new x ↔ Contains old x
Contains-arranged equivalence same old sorted new moved left x =
    let is = dedup_is _ sorted new left in (
      λ here. Contains-permutation _ _ x (IsPermutation-sym _ _ moved) (Contains-from_dedup _ _ x (subst (λ l. Contains l x) is here)),
      λ there. subst (λ l. Contains l x) (sym is) (Contains-dedup equivalence same _ x (Contains-permutation _ _ x moved there)),
    )

-- What a certificate that fits has of each star.
use Rattle.std.proofs.Common.{ℕ, ◌≡◌, ◌<◌, ◌+◌, false, List, length, get_or, ◌∙◌, ap, All}
use Rattle.std.specs.Ordering.{is_lt, nat_cmp, ordering_reverse}
use Rattle.std.specs.Cmp.Lexicographic.{slice_cmp, nat_list_cmp_total}
use Rattle.std.proofs.lemmas.List.{get_or_default}
use Rattle.std.proofs.lemmas.List.Elements.{All-contains, All-from_get_or}
use Rattle.pair_structure.specs.declared.side.Side.TheVariants.{A}
use Rattle.conjunctive_compose.specs.System.{SystemParts}
use Rattle.waitfor_check.specs.inside.Fits.{IsFitting}
use Rattle.waitfor_check.specs.Fitting.{Fits, IsLabelOf, IsLower, Rise, StarFits}
use Rattle.waitfor_check.specs.Parts.{no_star, star_at}
use Rattle.waitfor_check.specs.Star.{leaf_at}
use Rattle.waitfor_check.specs.declared.star.Star.{Star}
use Rattle.waitfor_check.specs.inside.Walk.{AreSorted}

not_above : (xs ys : List ℕ) → IsLower xs ys → is_lt (slice_cmp nat_cmp ys xs) ≡ false
not_above xs ys lower = ap is_lt (nat_list_cmp_total.antisymm ys xs ∙ ap ordering_reverse lower)

sorted_from : (members : List (List ℕ)) → Rise members → AreSorted members
sorted_from members rise k d low lt = not_above (get_or members k d) (get_or members (k + 1) d) (rise k d lt)

star_from : (sys : SystemParts) (star : Star) → StarFits sys star → IsFitting sys star
star_from sys star fits = record {
  kinds = record { role = fits.shape.role; kinds = λ i lt. (label i lt).0 };
  roles = λ i lt. (label i lt).1;
  some = fits.shape.some;
  few_leaves = fits.shape.few;
  states = fits.states;
  sorted = sorted_from star.members fits.rising;
}
  where
    label : (i : ℕ) → i < length star.shape.leaves → IsLabelOf sys star.shape.role (leaf_at star.shape i)
    label i lt = All-contains (IsLabelOf sys star.shape.role) star.shape.leaves (leaf_at star.shape i) fits.shape.labels (i, lt, get_or_default star.shape.leaves i (leaf_at star.shape i) (0, A) lt)

pub fitting_from : (sys : SystemParts) (stars : List Star) → Fits sys stars → All (IsFitting sys) stars
fitting_from sys stars fits = All-from_get_or (IsFitting sys) stars no_star (λ i lt. star_from sys (star_at stars i) (All-contains (StarFits sys) stars (star_at stars i) fits.each (i, lt, get_or_default stars i (star_at stars i) no_star lt)))

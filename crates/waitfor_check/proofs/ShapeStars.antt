-- The shapes of stars, and their keys.
use Rattle.std.proofs.Common.{ℕ, List, subst, Contains}
use Rattle.std.proofs.lemmas.List.Sorted.{Contains-permutation, IsPermutation-sym}
use Rattle.std.specs.Prelude.{map}
use Rattle.interconnection.specs.Network.{NetworkParts}
use Rattle.interconnection.specs.Shape.{IsShapeOf, ShapeParts}
use Rattle.waitfor_check.specs.Accepted.{HasShape}
use Rattle.waitfor_check.specs.inside.ShapeKeys.{HasAllKeys, IsIndex, key_of, star_key}
use Rattle.waitfor_check.specs.declared.star.Star.{Star}
use Rattle.waitfor_check.proofs.StepLists.{map_contains, map_from}
use Rattle.waitfor_check.proofs.Visits.{same_shape}

has_shape : (stars : List Star) (keys : List (List ℕ)) → IsIndex stars keys → (shape : ShapeParts) → Contains keys (key_of shape) → HasShape stars shape
has_shape stars keys index shape has =
    let found = map_from star_key stars (key_of shape) (Contains-permutation keys (map star_key stars) (key_of shape) (IsPermutation-sym (map star_key stars) keys index.same) has) in
    (found.1.0, found.0, found.1.1, found.1.2, same_shape found.0.shape shape found.2)

has_key : (stars : List Star) (keys : List (List ℕ)) → IsIndex stars keys → (shape : ShapeParts) → HasShape stars shape → Contains keys (key_of shape)
has_key stars keys index shape (i, star, lt, is, same) =
    Contains-permutation (map star_key stars) keys (key_of shape) index.same (subst (λ (s : ShapeParts). Contains (map star_key stars) (key_of s)) same (map_contains star_key stars star (i, lt, is)))

-- each shape of k has its key among them where each is a star's
pub shapes_from_keys : (net : NetworkParts) (k : ℕ) (stars : List Star) (keys : List (List ℕ)) → IsIndex stars keys → HasAllKeys net k keys → (shape : ShapeParts) → IsShapeOf net k shape → HasShape stars shape
shapes_from_keys net k stars keys index all shape is = has_shape stars keys index shape (all shape is)

pub keys_from_shapes : (net : NetworkParts) (k : ℕ) (stars : List Star) (keys : List (List ℕ)) → IsIndex stars keys → ((shape : ShapeParts) → IsShapeOf net k shape → HasShape stars shape) → HasAllKeys net k keys
keys_from_shapes net k stars keys index all shape is = has_key stars keys index shape (all shape is)

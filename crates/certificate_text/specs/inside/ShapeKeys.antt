-- The shapes of stars, as a set keeps them.
use Rattle.std.specs.Prelude.{ℕ, ◌≡◌, ◌≢◌, ◌↔◌, Bool, IsTrue, List, Vec}
use Rattle.std.specs.BTreeSet.{BTreeSet, contains_by}
use Rattle.std.specs.Cmp.Lexicographic.{slice_cmp}
use Rattle.std.specs.Ordering.{nat_cmp}
use Rattle.std.specs.declared.alloc.Global.{Global}
use Rattle.interconnection.specs.Shape.{ShapeParts}
use Rattle.waitfor_check.specs.Accepted.{HasShape}
use Rattle.waitfor_check.specs.inside.ShapeKeys.{key_of}
use Rattle.waitfor_check.specs.declared.star.Star.{Star}

-- keys of shapes
abbrev pub Keys : Type 0
Keys = BTreeSet (Vec ℕ Global)

-- whether these numbers are among them
abbrev pub has_key : Keys → List ℕ → Bool
has_key keys key = contains_by (λ k. slice_cmp nat_cmp key k.items) keys

-- the shapes of these stars, and no others
abbrev pub AreKeysOf : List Star → Keys → Type 0
AreKeysOf stars keys = (shape : ShapeParts) → IsTrue (has_key keys (key_of shape)) ↔ HasShape stars shape

-- the keys with this one
pub record IsWithKey (old : Keys) (key : List ℕ) (new : Keys) : Type 0 where
  pub has : IsTrue (has_key new key)
  pub others : (other : List ℕ) → other ≢ key → has_key new other ≡ has_key old other

-- The shapes of a process one after another, each found among keys.
use Rattle.std.proofs.Common.{ℕ, zero, suc, ◌≡◌, ◌<◌, ◌≤◌, ◌+◌, ◌⊎◌, inl, inr, List, [], ◌∷◌, length, get_or, map, arith, refl, sym, ◌∙◌, ap, subst, Contains}
use Rattle.std.proofs.lemmas.List.{length-map}
use Rattle.pair_structure.specs.declared.side.Side.{Side}
use Rattle.interconnection.specs.Network.{NetworkParts}
use Rattle.interconnection.specs.Shape.{IsBelow, IsFirstShape, IsLastShape, IsNextShape, IsShapeOf, ShapeParts, rank, rank_at}
use Rattle.interconnection.proofs.ShapeOrder.{below_below, never_below_itself, same_label, shapes_compared}
use Rattle.waitfor_check.specs.inside.ShapeKeys.{HasAllKeys, IsReached, key_of}
use Rattle.waitfor_check.specs.inside.Walk.{Differ}
use Rattle.waitfor_check.proofs.Distinct.{Contains-cases, Contains-later, no_more}

same_ranks : (xs ys : List (ℕ × Side)) → map rank xs ≡ map rank ys → xs ≡ ys
same_ranks [] [] same = refl
same_ranks [] (y ∷ ys) same = cc
same_ranks (x ∷ xs) [] same = cc
same_ranks (x ∷ xs) (y ∷ ys) same =
    let head : rank x ≡ rank y = ap {B = ℕ} (λ l. get_or l 0 0) same in
    let tail : map rank xs ≡ map rank ys = cc in
    let e = same_label x y head in
    let f = same_ranks xs ys tail in
    cc

pub same_shape : (x y : ShapeParts) → key_of x ≡ key_of y → x ≡ y
same_shape x y same =
    let role : x.role ≡ y.role = ap {B = ℕ} (λ l. get_or l 0 0) same in
    let ranks : map rank x.leaves ≡ map rank y.leaves = cc in
    let leaves = same_ranks x.leaves y.leaves ranks in
    λ i. record { role = role i; leaves = leaves i }

-- at first none was visited
pub first_reached : (net : NetworkParts) (k : ℕ) (keys : List (List ℕ)) (shape : ShapeParts) → IsFirstShape net k shape → IsReached net k keys shape 0
first_reached net k keys shape first = record {
  is = first.is;
  visited = ([], refl, record { differ = tt; below = λ other has. absurd (omega (arith, has.1)); found = λ other has. absurd (omega (arith, has.1)) });
  covered = λ other is below. absurd (first.first other is below);
}

-- one more, whose key is found
pub next_reached : (net : NetworkParts) (k : ℕ) (keys : List (List ℕ)) (old new : ShapeParts) (n : ℕ) → IsReached net k keys old n → Contains keys (key_of old) → IsNextShape net k old new → IsReached net k keys new (n + 1)
next_reached net k keys old new n reached has next = record {
  is = next.is;
  visited = (
    old ∷ reached.visited.0,
    omega (arith, reached.visited.1),
    record {
      differ = (λ again. never_below_itself old.leaves (reached.visited.2.below old again), reached.visited.2.differ);
      below = λ other h. below other (Contains-cases old reached.visited.0 other h);
      found = λ other h. found other (Contains-cases old reached.visited.0 other h);
    },
  );
  covered = λ other is lower. covered other is lower (shapes_compared net k other old is reached.is);
}
  where
    below : (other : ShapeParts) → (old ≡ other) ⊎ Contains reached.visited.0 other → IsBelow other.leaves new.leaves
    below other (inl same) = subst (λ (s : ShapeParts). IsBelow s.leaves new.leaves) same next.above
    below other (inr h) = below_below other.leaves old.leaves new.leaves (reached.visited.2.below other h) next.above

    found : (other : ShapeParts) → (old ≡ other) ⊎ Contains reached.visited.0 other → Contains keys (key_of other)
    found other (inl same) = subst (λ (s : ShapeParts). Contains keys (key_of s)) same has
    found other (inr h) = reached.visited.2.found other h

    covered : (other : ShapeParts) → IsShapeOf net k other → IsBelow other.leaves new.leaves → IsBelow other.leaves old.leaves ⊎ ((other ≡ old) ⊎ IsBelow old.leaves other.leaves) → Contains keys (key_of other)
    covered other is lower (inl below) = reached.covered other is below
    covered other is lower (inr (inl same)) = subst (λ (s : ShapeParts). Contains keys (key_of s)) (sym same) has
    covered other is lower (inr (inr above)) = absurd (next.between other is above lower)

-- the last, whose key is found
pub all_found : (net : NetworkParts) (k : ℕ) (keys : List (List ℕ)) (shape : ShapeParts) (n : ℕ) → IsReached net k keys shape n → Contains keys (key_of shape) → IsLastShape net k shape → HasAllKeys net k keys
all_found net k keys shape n reached has last other is = by (shapes_compared net k other shape is reached.is)
  where
    by : IsBelow other.leaves shape.leaves ⊎ ((other ≡ shape) ⊎ IsBelow shape.leaves other.leaves) → Contains keys (key_of other)
    by (inl below) = reached.covered other is below
    by (inr (inl same)) = subst (λ (s : ShapeParts). Contains keys (key_of s)) (sym same) has
    by (inr (inr above)) = absurd (last other is above)

keys_differ : (shapes : List ShapeParts) → Differ shapes → Differ (map key_of shapes)
keys_differ [] differ = tt
keys_differ (x ∷ shapes) differ = (λ has. differ.0 (back x shapes has), keys_differ shapes differ.1)
  where
    back : (x : ShapeParts) (shapes : List ShapeParts) → Contains (map key_of shapes) (key_of x) → Contains shapes x
    back x [] has = absurd (omega (arith, has.1))
    back x (y ∷ shapes) has = elim (Contains-cases (key_of y) (map key_of shapes) (key_of x) has) [ inl same ↦ (0, omega arith, same_shape y x same) | inr later ↦ Contains-later y shapes x (back x shapes later) ]

keys_among : (keys : List (List ℕ)) (shapes : List ShapeParts) → ((s : ShapeParts) → Contains shapes s → Contains keys (key_of s)) → (key : List ℕ) → Contains (map key_of shapes) key → Contains keys key
keys_among keys [] found key has = absurd (omega (arith, has.1))
keys_among keys (y ∷ shapes) found key has = elim (Contains-cases (key_of y) (map key_of shapes) key has) [ inl same ↦ subst (Contains keys) same (found y (0, omega arith, refl)) | inr later ↦ keys_among keys shapes (λ s h. found s (Contains-later y shapes s h)) key later ]

-- where as many were visited as there are keys, this one has none
pub none_left : (net : NetworkParts) (k : ℕ) (keys : List (List ℕ)) (shape : ShapeParts) (n : ℕ) → IsReached net k keys shape n → length keys ≤ n → HasAllKeys net k keys → ⊥
none_left net k keys shape n reached few all =
    let shapes : List ShapeParts = shape ∷ reached.visited.0 in
    let differ : Differ (shape ∷ reached.visited.0) = (λ again. never_below_itself shape.leaves (reached.visited.2.below shape again), reached.visited.2.differ) in
    let bound = no_more (map key_of (shape ∷ reached.visited.0)) keys (keys_differ (shape ∷ reached.visited.0) differ) (keys_among keys (shape ∷ reached.visited.0) found) in
    omega (arith, bound, length-map (shape ∷ reached.visited.0) key_of, reached.visited.1, few)
  where
    found : (s : ShapeParts) → Contains (shape ∷ reached.visited.0) s → Contains keys (key_of s)
    found s h = elim (Contains-cases shape reached.visited.0 s h) [ inl same ↦ subst (λ (s : ShapeParts). Contains keys (key_of s)) same (all shape reached.is) | inr later ↦ reached.visited.2.found s later ]

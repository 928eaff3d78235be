-- Shapes of a process, by choices among its sorted labels.
use Rattle.std.proofs.Common.{ℕ, ◌≡◌, ◌≤◌, ◌+◌, ◌==◌, cond, List, [], ◌∷◌, ◌++◌, map, length, take, max, arith, refl, sym, ◌∙◌, ap}
use Rattle.std.specs.List.Sorted.{IsNonDecreasingBy, IsPermutation}
use Rattle.std.specs.List.{range_with_len}
use Rattle.std.proofs.lemmas.List.FromFn.{map-range_with_len_more}
use Rattle.std.proofs.lemmas.List.Sorted.{sum_by-IsPermutation}
use Rattle.pair_structure.specs.declared.side.LocalArc.{LocalArc}
use Rattle.pair_structure.specs.declared.side.Side.{Side}
use Rattle.interconnection.specs.Network.{NetworkParts, role_of}
use Rattle.interconnection.specs.Shape.{IsChoice, IsFirstShape, IsLastShape, IsNextShape, IsShapeOf, ShapeParts, arcs_from, greatest, labels_of, leaf_count, rank}
use Rattle.interconnection.specs.inside.Choice.{IsLastChoice, IsNextChoice}
use Rattle.interconnection.proofs.Choices.{take_first}

-- the order of the labels is of no matter
pub among_sorted : (labels sorted leaves : List (ℕ × Side)) → IsPermutation labels sorted → IsChoice labels leaves → IsChoice sorted leaves
among_sorted labels sorted leaves same choice = record { sorted = choice.sorted; chosen = λ r. omega (arith, choice.chosen r, sum_by-IsPermutation (λ label. cond (rank label == r) 1 0) labels sorted same) }

pub among_all : (labels sorted leaves : List (ℕ × Side)) → IsPermutation labels sorted → IsChoice sorted leaves → IsChoice labels leaves
among_all labels sorted leaves same choice = record { sorted = choice.sorted; chosen = λ r. omega (arith, choice.chosen r, sum_by-IsPermutation (λ label. cond (rank label == r) 1 0) labels sorted same) }

pub first_shape_is : (net : NetworkParts) (k n : ℕ) (sorted : List (ℕ × Side)) → IsPermutation (labels_of net.edges k) sorted → IsNonDecreasingBy rank sorted → n ≡ leaf_count net k → n ≤ length sorted
    → IsFirstShape net k (record { role = role_of net.processes k; leaves = take n sorted })
first_shape_is net k n sorted same rising count within =
    let first = take_first sorted n rising within in
    record {
      is = record { role_is = refl; count = first.count ∙ count; choice = among_all (labels_of net.edges k) sorted (take n sorted) same first.choice };
      first = λ other is below. first.first other.leaves (among_sorted (labels_of net.edges k) sorted other.leaves same is.choice) (is.count ∙ sym count) below;
    }

pub next_shape_is : (net : NetworkParts) (k : ℕ) (sorted next : List (ℕ × Side)) (shape : ShapeParts) → IsPermutation (labels_of net.edges k) sorted → IsShapeOf net k shape → IsNextChoice sorted shape.leaves next
    → IsNextShape net k shape (record { role = shape.role; leaves = next })
next_shape_is net k sorted next shape same is found = record {
  is = record { role_is = is.role_is; count = found.count ∙ is.count; choice = among_all (labels_of net.edges k) sorted next same found.choice };
  above = found.above;
  between = λ other is' above below. found.between other.leaves (among_sorted (labels_of net.edges k) sorted other.leaves same is'.choice) (is'.count ∙ sym is.count) above below;
}

pub last_shape_is : (net : NetworkParts) (k : ℕ) (sorted : List (ℕ × Side)) (shape : ShapeParts) → IsPermutation (labels_of net.edges k) sorted → IsShapeOf net k shape → IsLastChoice sorted shape.leaves → IsLastShape net k shape
last_shape_is net k sorted shape same is none other is' above = none other.leaves (among_sorted (labels_of net.edges k) sorted other.leaves same is'.choice) (is'.count ∙ sym is.count) above

greatest_push : (ns : List ℕ) (n : ℕ) → greatest (ns ++ n ∷ []) ≡ max (greatest ns) n
greatest_push [] n = omega arith
greatest_push (m ∷ ns) n = omega (arith, greatest_push ns n)

-- one more local state
pub greatest_more : (arcs : List LocalArc) (p : ℕ) → greatest (map (arcs_from arcs) (range_with_len 0 (p + 1))) ≡ max (greatest (map (arcs_from arcs) (range_with_len 0 p))) (arcs_from arcs p)
greatest_more arcs p = ap {B = ℕ} greatest (map-range_with_len_more (arcs_from arcs) 0 p p (omega arith)) ∙ greatest_push (map (arcs_from arcs) (range_with_len 0 p)) (arcs_from arcs p)

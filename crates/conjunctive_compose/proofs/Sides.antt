-- The side of a process on an edge.
use Rattle.std.proofs.Common.{ℕ, ◌≡◌, ◌≢◌, ◌==◌, Option, Some, None, Bool, true, false, cond, refl, sym, ◌∙◌, eqb-true}
use Rattle.std.proofs.lemmas.Bool.{eqb-false, ne_eqb, eq-eqb}
use Rattle.pair_structure.specs.declared.side.Side.{Side}
use Rattle.pair_structure.specs.declared.side.Side.TheVariants.{A, B}
use Rattle.interconnection.specs.Graph.{end_of}
use Rattle.pair_structure.specs.Sides.{opposite}
use Rattle.interconnection.specs.declared.parts.Edge.{Edge}
use Rattle.conjunctive_compose.specs.System.{side_on}

-- by cases
pub side_on-cases : (edge : Edge) (k : ℕ) (P : Option Side → Type 0) → (edge.a ≡ k → P (Some A)) → (edge.a ≢ k → edge.b ≡ k → P (Some B)) → (edge.a ≢ k → edge.b ≢ k → P None) → P (side_on edge k)
side_on-cases edge k P a b none = by_a (edge.a == k) refl
  where
    by_b : (x : Bool) → (edge.b == k) ≡ x → edge.a ≢ k → P (cond (edge.b == k) (Some B) None)
    by_b true e ne = rw e (b ne (eqb-true edge.b k e))
    by_b false e ne = rw e (none ne (eqb-false edge.b k e))

    by_a : (x : Bool) → (edge.a == k) ≡ x → P (side_on edge k)
    by_a true e = rw e (a (eqb-true edge.a k e))
    by_a false e = rw e (by_b (edge.b == k) refl (eqb-false edge.a k e))

-- the side that an end is on
pub side_known : (edge : Edge) (k : ℕ) (side : Side) → edge.a ≢ edge.b → end_of edge side ≡ k → side_on edge k ≡ Some side
side_known edge k A differ e = rw (eq-eqb edge.a k e) refl
side_known edge k B differ e = rw (ne_eqb edge.a k (λ same. differ (same ∙ sym e)), eq-eqb edge.b k e) refl

-- one side, or none
pub by_side : (edge : Edge) (k : ℕ) (P : Option Side → Type 0) → ((side : Side) → end_of edge side ≡ k → P (Some side)) → (edge.a ≢ k → edge.b ≢ k → P None) → P (side_on edge k)
by_side edge k P some none = side_on-cases edge k P (some A) (λ _ e. some B e) none

pub across_differs : (edge : Edge) (k : ℕ) (side : Side) → edge.a ≢ edge.b → end_of edge side ≡ k → end_of edge (opposite side) ≢ k
across_differs edge k A differ e f = differ (e ∙ sym f)
across_differs edge k B differ e f = differ (f ∙ sym e)

pub side_none : (edge : Edge) (k : ℕ) → edge.a ≢ k → edge.b ≢ k → side_on edge k ≡ None
side_none edge k nea neb = rw (ne_eqb edge.a k nea, ne_eqb edge.b k neb) refl

pub ends_none : (edge : Edge) (k : ℕ) (side : Side) → end_of edge side ≢ k → end_of edge (opposite side) ≢ k → side_on edge k ≡ None
ends_none edge k A own other = side_none edge k own other
ends_none edge k B own other = side_none edge k other own

pub opposite_twice : (side : Side) → opposite (opposite side) ≡ side
opposite_twice A = refl
opposite_twice B = refl

-- a process is on one side of an edge
pub one_side : (edge : Edge) (k : ℕ) (s t : Side) → edge.a ≢ edge.b → end_of edge s ≡ k → end_of edge t ≡ k → s ≡ t
one_side edge k A A differ e f = refl
one_side edge k A B differ e f = absurd (differ (e ∙ sym f))
one_side edge k B A differ e f = absurd (differ (f ∙ sym e))
one_side edge k B B differ e f = refl

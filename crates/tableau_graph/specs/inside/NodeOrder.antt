-- The orders of nodes tell all nodes apart.
use Rattle.std.specs.Prelude.{ℕ, ◌≡◌, Option, Some, None, List}
use Rattle.std.proofs.Common.{refl, ◌∙◌, ap}
use Rattle.std.specs.declared.cmp.Ordering.{Ordering}
use Rattle.std.specs.declared.cmp.Ordering.TheVariants.{Less, Equal, Greater}
use Rattle.std.specs.Option.{option_cmp}
use Rattle.std.specs.Ordering.{nat_cmp, ordering_then}
use Rattle.std.proofs.lemmas.Map.Lookups.{CmpEqualImpliesEq, exact_bytes, exact_unsigned}
use Rattle.pair_structure.specs.declared.side.Side.{Side}
use Rattle.pair_structure.specs.declared.side.Side.TheVariants.{A, B}
use Rattle.pair_structure.specs.contracts.side.SideOrd.TheImpl as side_ord
use Rattle.closure_sets.specs.declared.row.Row.{Row}
use Rattle.closure_sets.specs.contracts.row.RowOrd.TheImpl as row_ord
use Rattle.tableau_graph.specs.contracts.nodes.AndNodeOrd.TheImpl as and_ord
use Rattle.tableau_graph.specs.contracts.nodes.OrNodeOrd.TheImpl as or_ord
use Rattle.tableau_graph.specs.declared.nodes.AndNode.{AndNode}
use Rattle.tableau_graph.specs.declared.nodes.OrNode.{OrNode}

both_equal : (p q : Ordering) → ordering_then p q ≡ Equal → (p ≡ Equal) × (q ≡ Equal)
both_equal Less q e = let h : Less ≡ Equal = e in cc
both_equal Equal q e = (refl, e)
both_equal Greater q e = let h : Greater ≡ Equal = e in cc

abbrev row_cmp : Row → Row → Ordering
row_cmp = (row_ord.ghosts).cmp

abbrev row_with : List ℕ → Row
row_with words = record { words = words }

row_exact : CmpEqualImpliesEq row_cmp
row_exact r q e = ap row_with (exact_bytes r.words q.words e)

abbrev and_cmp : AndNode → AndNode → Ordering
and_cmp = (and_ord.ghosts).cmp

abbrev and_of : ℕ → ℕ → Row → AndNode
and_of a b row = record { a = a; b = b; row = row }

pub and_exact : CmpEqualImpliesEq and_cmp
and_exact x y e =
    let h = both_equal (nat_cmp x.a y.a) (ordering_then (nat_cmp x.b y.b) (row_cmp x.row y.row)) e in
    let k = both_equal (nat_cmp x.b y.b) (row_cmp x.row y.row) h.1 in
    ap (λ (a : ℕ). and_of a x.b x.row) (exact_unsigned x.a y.a h.0) ∙ ap (λ (b : ℕ). and_of y.a b x.row) (exact_unsigned x.b y.b k.0) ∙ ap (λ (r : Row). and_of y.a y.b r) (row_exact x.row y.row k.1)

abbrev side_cmp : Side → Side → Ordering
side_cmp = (side_ord.ghosts).cmp

side_exact : CmpEqualImpliesEq side_cmp
side_exact A A e = refl
side_exact B B e = refl
side_exact A B e = let h : Less ≡ Equal = e in cc
side_exact B A e = let h : Greater ≡ Equal = e in cc

abbrev from_cmp : Option Side → Option Side → Ordering
from_cmp = option_cmp side_cmp

from_exact : CmpEqualImpliesEq from_cmp
from_exact None None e = refl
from_exact None (Some y) e = let h : Less ≡ Equal = e in cc
from_exact (Some x) None e = let h : Greater ≡ Equal = e in cc
from_exact (Some x) (Some y) e = ap (λ (s : Side). Some s) (side_exact x y e)

abbrev or_cmp : OrNode → OrNode → Ordering
or_cmp = (or_ord.ghosts).cmp

abbrev or_of : Option Side → ℕ → ℕ → Row → OrNode
or_of side a b row = record { side = side; a = a; b = b; row = row }

pub or_exact : CmpEqualImpliesEq or_cmp
or_exact x y e =
    let h = both_equal (from_cmp x.side y.side) (ordering_then (nat_cmp x.a y.a) (ordering_then (nat_cmp x.b y.b) (row_cmp x.row y.row))) e in
    let k = both_equal (nat_cmp x.a y.a) (ordering_then (nat_cmp x.b y.b) (row_cmp x.row y.row)) h.1 in
    let l = both_equal (nat_cmp x.b y.b) (row_cmp x.row y.row) k.1 in
    ap (λ (s : Option Side). or_of s x.a x.b x.row) (from_exact x.side y.side h.0) ∙ ap (λ (a : ℕ). or_of y.side a x.b x.row) (exact_unsigned x.a y.a k.0) ∙ ap (λ (b : ℕ). or_of y.side y.a b x.row) (exact_unsigned x.b y.b l.0) ∙ ap (λ (r : Row). or_of y.side y.a y.b r) (row_exact x.row y.row l.1)

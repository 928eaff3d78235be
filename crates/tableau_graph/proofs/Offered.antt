-- The nodes of a seed at several pairs.
use Rattle.std.proofs.Common.{ℕ, zero, suc, ◌≡◌, ◌<◌, ◌+◌, ◌++◌, inl, inr, List, [], ◌∷◌, length, map, take, refl, subst, sym, ap, arith, slice_index_or, Contains}
use Rattle.std.proofs.lemmas.List.{take_more}
use Rattle.std.proofs.lemmas.List.Elements.{Contains-push, Contains-push_cases, Contains-append_left, Contains-append_right, Contains-append_cases}
use Rattle.closure_sets.specs.ClosureParts.{ClosureParts}
use Rattle.closure_sets.specs.Firsts.{IsOneOf, AreFirsts}
use Rattle.closure_sets.specs.Found.{sets_of}
use Rattle.closure_sets.specs.Full.{EachRow}
use Rattle.closure_sets.specs.Row.{Members}
use Rattle.closure_sets.specs.declared.row.Row.{Row}
use Rattle.closure_sets.proofs.NotedLaws.{each_of_noted, among_noted}
use Rattle.tableau_graph.specs.Growing.{AreNodesAt, HasAnd, and_with}
use Rattle.tableau_graph.specs.TableauParts.{offered, pair_of, row_of}
use Rattle.tableau_graph.specs.declared.breadth.Breadth.{Breadth}
use Rattle.tableau_graph.specs.declared.nodes.AndNode.{AndNode}

pub each_map : (X Y : Members → Type 0) (rows : List Members) → ((row : Members) → X row → Y row) → EachRow X rows → EachRow Y rows
each_map X Y [] f h = tt
each_map X Y (r ∷ rows) f h = (f r h.0, each_map X Y rows f h.1)

-- each row of a list stands in it
each_itself : (rows : List Members) → EachRow (IsOneOf rows) rows
each_itself [] = tt
each_itself (r ∷ rows) = (inl refl, each_map (IsOneOf rows) (IsOneOf (r ∷ rows)) rows (λ row h. inr h) (each_itself rows))

-- what is noted of a list stands in it, and the list's rows stand in what is noted
noted_stand : (all firsts : List Members) → AreFirsts all firsts → EachRow (IsOneOf all) firsts
noted_stand all firsts h = each_of_noted (IsOneOf all) [] all firsts h tt (each_itself all)

stand_noted : (all firsts : List Members) → AreFirsts all firsts → EachRow (IsOneOf firsts) all
stand_noted all firsts h = each_map (IsOneOf all) (IsOneOf firsts) all (λ row at. among_noted (λ r. r ≡ row) [] all firsts h at) (each_itself all)

at_head : {X : Type 0} (x : X) (xs : List X) → Contains (x ∷ xs) x
at_head x xs = (0, omega arith, refl)

in_tail : {X : Type 0} (x y : X) (xs : List X) → Contains xs y → Contains (x ∷ xs) y
in_tail x y xs h = let lt : h.0 < length xs = h.1 in (suc h.0, omega (arith, lt), h.2)

-- a node that stands among those of some rows has this pair and one of the rows
from_rows : (pair : ℕ × ℕ) (rows : List Row) (node : AndNode) (X : Members → Type 0) → EachRow X (sets_of rows) → Contains (map (and_with pair) rows) node → (pair_of node ≡ pair) × X (row_of node)
from_rows pair [] node X each h = absurd (let lt : h.0 < 0 = h.1 in omega (arith, lt))
from_rows pair (row ∷ rows) node X each (zero, lt, e) = (ap pair_of (sym e), subst (λ (n : AndNode). X (row_of n)) e each.0)
from_rows pair (row ∷ rows) node X each (suc k, lt, e) = from_rows pair rows node X each.1 (k, omega (arith, lt), e)

-- of a row that stands in a list there is a node
of_row : (pair : ℕ × ℕ) (rows : List Row) (set : Members) → IsOneOf (sets_of rows) set → HasAnd (map (and_with pair) rows) pair set
of_row pair [] set h = absurd h
of_row pair (row ∷ rows) set (inl e) = (and_with pair row, at_head (and_with pair row) (map (and_with pair) rows), refl, e)
of_row pair (row ∷ rows) set (inr h) = let k = of_row pair rows set h in (k.0, in_tail (and_with pair row) k.0 (map (and_with pair) rows) k.1, k.2, k.3)

-- the nodes at some pairs, and those at one more
nodes_push : (c : ClosureParts) (breadth : Breadth) (pairs : List (ℕ × ℕ)) (pair : ℕ × ℕ) (seed : Members) (nodes : List AndNode) (rows : List Row) → AreNodesAt c breadth pairs seed nodes → AreFirsts (offered breadth c pair seed) (sets_of rows) → AreNodesAt c breadth (pairs ++ pair ∷ []) seed (nodes ++ map (and_with pair) rows)
nodes_push c breadth pairs pair seed nodes rows are firsts = record { each = each; all = all }
  where
    more : List AndNode
    more = map (and_with pair) rows

    each : (node : AndNode) → Contains (nodes ++ more) node → Contains (pairs ++ pair ∷ []) (pair_of node) × IsOneOf (offered breadth c (pair_of node) seed) (row_of node)
    each node h = elim (Contains-append_cases nodes more node h) [ inl old ↦ (let k = are.each node old in (Contains-append_left pairs (pair ∷ []) (pair_of node) k.0, k.1)) | inr new ↦ newer new ]
      where
        newer : Contains more node → Contains (pairs ++ pair ∷ []) (pair_of node) × IsOneOf (offered breadth c (pair_of node) seed) (row_of node)
        newer new =
            let k = from_rows pair rows node (IsOneOf (offered breadth c pair seed)) (noted_stand (offered breadth c pair seed) (sets_of rows) firsts) new in
            (subst (Contains (pairs ++ pair ∷ [])) (sym k.0) (Contains-push pairs pair), subst (λ (p : ℕ × ℕ). IsOneOf (offered breadth c p seed) (row_of node)) (sym k.0) k.1)

    left : (p : ℕ × ℕ) (row : Members) → HasAnd nodes p row → HasAnd (nodes ++ more) p row
    left p row h = (h.0, Contains-append_left nodes more h.0 h.1, h.2, h.3)

    right : (p : ℕ × ℕ) (row : Members) → HasAnd more p row → HasAnd (nodes ++ more) p row
    right p row h = (h.0, Contains-append_right nodes more h.0 h.1, h.2, h.3)

    here : EachRow (HasAnd (nodes ++ more) pair) (offered breadth c pair seed)
    here = each_map (IsOneOf (sets_of rows)) (HasAnd (nodes ++ more) pair) (offered breadth c pair seed) (λ row h. right pair row (of_row pair rows row h)) (stand_noted (offered breadth c pair seed) (sets_of rows) firsts)

    all : (p : ℕ × ℕ) → Contains (pairs ++ pair ∷ []) p → EachRow (HasAnd (nodes ++ more) p) (offered breadth c p seed)
    all p h = elim (Contains-push_cases pairs pair p h) [ inl old ↦ each_map (HasAnd nodes p) (HasAnd (nodes ++ more) p) (offered breadth c p seed) (left p) (are.all p old) | inr last ↦ subst (λ (q : ℕ × ℕ). EachRow (HasAnd (nodes ++ more) q) (offered breadth c q seed)) last here ]

-- the nodes at the first pairs, and those at one more
pub nodes_step : (c : ClosureParts) (breadth : Breadth) (pairs : List (ℕ × ℕ)) (seed : Members) (nodes nodes' : List AndNode) (rows : List Row) (i : ℕ) (d : ℕ × ℕ) → i < length pairs → AreNodesAt c breadth (take i pairs) seed nodes → AreFirsts (offered breadth c (slice_index_or pairs i d) seed) (sets_of rows) → nodes' ≡ nodes ++ map (and_with (slice_index_or pairs i d)) rows → AreNodesAt c breadth (take (i + 1) pairs) seed nodes'
nodes_step c breadth pairs seed nodes nodes' rows i d lt are firsts e =
    let pair : ℕ × ℕ = slice_index_or pairs i d in
    subst (λ (l : List (ℕ × ℕ)). AreNodesAt c breadth l seed nodes') (sym (take_more pairs i d lt)) (subst (AreNodesAt c breadth (take i pairs ++ pair ∷ []) seed) (sym e) (nodes_push c breadth (take i pairs) pair seed nodes rows are firsts))

-- What a tableau's rules keep where it grows.
use Rattle.std.proofs.Common.{ℕ, zero, suc, ◌≡◌, ◌<◌, ◌≤◌, ◌++◌, ◌↔◌, inl, inr, false, Some, List, [], ◌∷◌, length, length-append, subst, sym, ◌∙◌, ap, arith, slice_get, slice_index_or, Contains}
use Rattle.std.proofs.lemmas.Bool.{cases_lt}
use Rattle.std.proofs.lemmas.List.Elements.{Contains-get_or}
use Rattle.std.proofs.lemmas.Option.{slice_get-get_or, slice_get_within, get_or_from_slice_get}
use Rattle.std.proofs.Math.ListN.{get_or-append}
use Rattle.std.proofs.Math.Seq.{get_or-append_seam}
use Rattle.pair_structure.specs.declared.side.Side.{Side}
use Rattle.ctl_form.specs.declared.part.Part.TheVariants.{Next}
use Rattle.closure_sets.specs.ClosureParts.{count}
use Rattle.closure_sets.specs.Full.{Has, EachRow}
use Rattle.closure_sets.specs.Label.{part_of}
use Rattle.closure_sets.specs.Row.{Members}
use Rattle.closure_sets.proofs.Closures.{member_of}
use Rattle.tableau_graph.specs.Growing.{AreNodesAt, AreNextNodes, HasAnd}
use Rattle.tableau_graph.specs.NodeTable.{AreNumbers}
use Rattle.tableau_graph.specs.Rules.{LeadsTo, IsChild, HasNode, AreChildren, IsSuccessor, AreSuccessors, IsRoot, IsReachedBy, IsReachedOr, IsReachedAnd, AreApart, FollowsRules}
use Rattle.tableau_graph.specs.TableauParts.{TableauParts, offered, and_at, or_at, pair_of, row_of, origin_of, seed_of, edges_at, somes_below, next_of}
use Rattle.tableau_graph.specs.declared.nodes.AndNode.{AndNode}
use Rattle.tableau_graph.specs.declared.nodes.OrNode.{OrNode}
use Rattle.tableau_graph.proofs.Carried.{no_part}
use Rattle.tableau_graph.proofs.Expanded.{edges_within}
use Rattle.tableau_graph.proofs.Offered.{each_map}
use Rattle.tableau_graph.proofs.Places.{kept_before, at_contained}

-- the same closure and roles with other nodes and edges
abbrev pub with_nodes : TableauParts → List AndNode → List OrNode → List (List ℕ) → List (List ℕ) → TableauParts
with_nodes t ands ors children successors = record { closure = t.closure; a = t.a; b = t.b; breadth = t.breadth; ands = ands; ors = ors; children = children; successors = successors }

-- each element stays at its place
abbrev pub Kept : {X : Type 0} → List X → List X → Type 0
Kept {X} xs ys = (n : ℕ) (x : X) → slice_get xs n ≡ Some x → slice_get ys n ≡ Some x

kept_at : {X : Type 0} (xs ys : List X) (d : X) → Kept xs ys → (n : ℕ) → n < length xs → slice_index_or ys n d ≡ slice_index_or xs n d
kept_at xs ys d kept n lt = get_or_from_slice_get ys n (slice_index_or xs n d) d (kept n (slice_index_or xs n d) (slice_get-get_or xs n d lt))

kept_within : {X : Type 0} (xs ys : List X) (d : X) → Kept xs ys → (n : ℕ) → n < length xs → n < length ys
kept_within xs ys d kept n lt = slice_get_within ys n (slice_index_or xs n d) (kept n (slice_index_or xs n d) (slice_get-get_or xs n d lt))

kept_longer : {X : Type 0} (xs ys : List X) (d : X) → Kept xs ys → length xs ≤ length ys
kept_longer xs ys d kept = elim (cases_lt (length ys) (length xs)) [ inl lt ↦ absurd (let l : length ys < length ys = kept_within xs ys d kept (length ys) lt in omega (arith, l)) | inr ge ↦ ge ]

kept_more : {X : Type 0} (xs ys : List X) → Kept xs (xs ++ ys)
kept_more xs ys n x e = kept_before xs ys n x e

kept_same : {X : Type 0} (xs : List X) → Kept xs xs
kept_same xs n x e = e

-- an OR node's children stay its children
children_kept : (t : TableauParts) (ands : List AndNode) (ors : List OrNode) (children successors : List (List ℕ)) → Kept t.ands ands → (node : OrNode) (numbers : List ℕ) → AreChildren t node numbers → AreChildren (with_nodes t ands ors children successors) node numbers
children_kept t ands ors children successors kept node numbers are = record { within = within; each = each; all = all }
  where
    same : (n : ℕ) → Contains numbers n → and_at ands n ≡ and_at t.ands n
    same n h = kept_at t.ands ands (and_at [] 0) kept n (are.within n h)

    within : (n : ℕ) → Contains numbers n → n < length ands
    within n h = kept_within t.ands ands (and_at [] 0) kept n (are.within n h)

    each : (n : ℕ) → Contains numbers n → IsChild (with_nodes t ands ors children successors) node (and_at ands n)
    each n h = subst (IsChild (with_nodes t ands ors children successors) node) (sym (same n h)) (record { leads = (are.each n h).leads; row = (are.each n h).row })

    all : (pair : ℕ × ℕ) → LeadsTo t.a t.b node.side (origin_of node) pair → EachRow (HasNode (with_nodes t ands ors children successors) numbers pair) (offered t.breadth t.closure pair (seed_of node))
    all pair leads = each_map (HasNode t numbers pair) (HasNode (with_nodes t ands ors children successors) numbers pair) (offered t.breadth t.closure pair (seed_of node)) (λ row h. (h.0, h.1, ap pair_of (same h.0 h.1) ∙ h.2, ap row_of (same h.0 h.1) ∙ h.3)) (are.all pair leads)

-- an AND node's successors stay its successors
successors_kept : (t : TableauParts) (ands : List AndNode) (ors : List OrNode) (children successors : List (List ℕ)) → Kept t.ors ors → (node : AndNode) (numbers : List ℕ) → AreSuccessors t node numbers → AreSuccessors (with_nodes t ands ors children successors) node numbers
successors_kept t ands ors children successors kept node numbers are = record {
  long = are.long;
  within = λ o h. kept_within t.ors ors (or_at [] 0) kept o (are.within o h);
  each = λ i h side part has. (let k = are.each i h side part has in (k.0, subst (IsSuccessor t.closure node side h) (sym (kept_at t.ors ors (or_at [] 0) kept (next_of t.closure node numbers i) (are.within (next_of t.closure node numbers i) k.0))) k.1));
}

edges_kept : (lists lists' : List (List ℕ)) → Kept lists lists' → (i x : ℕ) → Contains (edges_at lists i) x → Contains (edges_at lists' i) x
edges_kept lists lists' kept i x h = subst (λ (l : List ℕ). Contains l x) (sym (kept_at lists lists' [] kept i (edges_within lists i x h))) h

-- what is reached stays reached
reached_by_kept : (t : TableauParts) (ands : List AndNode) (ors : List OrNode) (children successors : List (List ℕ)) → Kept t.children children → Kept t.successors successors → (k o : ℕ) → IsReachedBy t k o → IsReachedBy (with_nodes t ands ors children successors) k o
reached_by_kept t ands ors children successors cs ss zero o h = h
reached_by_kept t ands ors children successors cs ss (suc k) o h = (h.0, h.1, reached_by_kept t ands ors children successors cs ss k h.0 h.2, edges_kept t.children children cs h.0 h.1 h.3, edges_kept t.successors successors ss h.1 o h.4)

reached_or_kept : (t : TableauParts) (ands : List AndNode) (ors : List OrNode) (children successors : List (List ℕ)) → Kept t.children children → Kept t.successors successors → (o : ℕ) → IsReachedOr t o → IsReachedOr (with_nodes t ands ors children successors) o
reached_or_kept t ands ors children successors cs ss o h = (h.0, reached_by_kept t ands ors children successors cs ss h.0 o h.1)

reached_and_kept : (t : TableauParts) (ands : List AndNode) (ors : List OrNode) (children successors : List (List ℕ)) → Kept t.children children → Kept t.successors successors → (n : ℕ) → IsReachedAnd t n → IsReachedAnd (with_nodes t ands ors children successors) n
reached_and_kept t ands ors children successors cs ss n h = (h.0, reached_or_kept t ands ors children successors cs ss h.0 h.1, edges_kept t.children children cs h.0 n h.2)

-- the node with a number, and the number of a node
node_of_number : {N : Type 0} (before nodes after : List N) (numbers : List ℕ) (d : N) → AreNumbers before nodes after numbers → (n : ℕ) → Contains numbers n → (x : N) × Contains nodes x × (slice_get after n ≡ Some x)
node_of_number before nodes after numbers d are n h =
    let k = at_contained numbers n h in
    let lt : k.0 < length numbers = slice_get_within numbers k.0 n k.1 in
    let long : length numbers ≡ length nodes = are.long in
    let lt' : k.0 < length nodes = omega (arith, lt, long) in
    (slice_index_or nodes k.0 d, Contains-get_or nodes k.0 d lt', are.at k.0 n (slice_index_or nodes k.0 d) (slice_get-get_or nodes k.0 d lt') k.1)

number_of_node : {N : Type 0} (before nodes after : List N) (numbers : List ℕ) → AreNumbers before nodes after numbers → (k : ℕ) (x : N) → slice_get nodes k ≡ Some x → Contains numbers (slice_index_or numbers k 0) × (slice_get after (slice_index_or numbers k 0) ≡ Some x)
number_of_node before nodes after numbers are k x e =
    let lt : k < length nodes = slice_get_within nodes k x e in
    let long : length numbers ≡ length nodes = are.long in
    let lt' : k < length numbers = omega (arith, lt, long) in
    (Contains-get_or numbers k 0 lt', are.at k (slice_index_or numbers k 0) x e (slice_get-get_or numbers k 0 lt'))

-- the numbers of the nodes at the pairs that an OR node leads to are its children
children_numbered : (t : TableauParts) (ands : List AndNode) (children : List (List ℕ)) (node : OrNode) (pairs : List (ℕ × ℕ)) (nodes : List AndNode) (numbers : List ℕ) → ((pair : ℕ × ℕ) → Contains pairs pair ↔ LeadsTo t.a t.b node.side (origin_of node) pair) → AreNodesAt t.closure t.breadth pairs (seed_of node) nodes → AreNumbers t.ands nodes ands numbers → AreChildren (with_nodes t ands t.ors children t.successors) node numbers
children_numbered t ands children node pairs nodes numbers leads are numbered = record { within = within; each = each; all = all }
  where
    found : (n : ℕ) → Contains numbers n → (x : AndNode) × Contains nodes x × (slice_get ands n ≡ Some x)
    found = node_of_number t.ands nodes ands numbers (and_at [] 0) numbered

    within : (n : ℕ) → Contains numbers n → n < length ands
    within n h = slice_get_within ands n (found n h).0 (found n h).2

    each : (n : ℕ) → Contains numbers n → IsChild (with_nodes t ands t.ors children t.successors) node (and_at ands n)
    each n h =
        let k = found n h in
        let is = are.each k.0 k.1 in
        subst (IsChild (with_nodes t ands t.ors children t.successors) node) (sym (get_or_from_slice_get ands n k.0 (and_at [] 0) k.2)) (record { leads = (leads (pair_of k.0)).0 is.0; row = is.1 })

    numbered_row : (pair : ℕ × ℕ) (row : Members) → HasAnd nodes pair row → HasNode (with_nodes t ands t.ors children t.successors) numbers pair row
    numbered_row pair row h =
        let place = at_contained nodes h.0 h.1 in
        let n = number_of_node t.ands nodes ands numbers numbered place.0 h.0 place.1 in
        let at : and_at ands (slice_index_or numbers place.0 0) ≡ h.0 = get_or_from_slice_get ands (slice_index_or numbers place.0 0) h.0 (and_at [] 0) n.1 in
        (slice_index_or numbers place.0 0, n.0, ap pair_of at ∙ h.2, ap row_of at ∙ h.3)

    all : (pair : ℕ × ℕ) → LeadsTo t.a t.b node.side (origin_of node) pair → EachRow (HasNode (with_nodes t ands t.ors children t.successors) numbers pair) (offered t.breadth t.closure pair (seed_of node))
    all pair to = each_map (HasAnd nodes pair) (HasNode (with_nodes t ands t.ors children t.successors) numbers pair) (offered t.breadth t.closure pair (seed_of node)) (numbered_row pair) (are.all pair ((leads pair).1 to))

-- the numbers of the OR nodes that an AND node leads to are its successors
successors_numbered : (t : TableauParts) (ors : List OrNode) (successors : List (List ℕ)) (node : AndNode) (nodes : List OrNode) (numbers : List ℕ) → AreNextNodes t.closure node (count t.closure) nodes → AreNumbers t.ors nodes ors numbers → AreSuccessors (with_nodes t t.ands ors t.children successors) node numbers
successors_numbered t ors successors node nodes numbers are numbered = record { long = numbered.long ∙ are.long; within = within; each = each }
  where
    within : (o : ℕ) → Contains numbers o → o < length ors
    within o h = let k = node_of_number t.ors nodes ors numbers (or_at [] 0) numbered o h in slice_get_within ors o k.0 k.2

    each : (i h : ℕ) (side : Side) → part_of t.closure i ≡ Next false side h → Has (row_of node) i → Contains numbers (next_of t.closure node numbers i) × IsSuccessor t.closure node side h (or_at ors (next_of t.closure node numbers i))
    each i h side part has =
        let k = are.each i h side (member_of t.closure i (Next false side h) part (no_part false side h)) part has in
        let place : ℕ = somes_below t.closure (row_of node) i in
        let n = number_of_node t.ors nodes ors numbers numbered place k.0 k.1 in
        (n.0, subst (IsSuccessor t.closure node side h) (sym (get_or_from_slice_get ors (slice_index_or numbers place 0) k.0 (or_at [] 0) n.1)) k.2)

-- a list in which what was there is as it was, and what is new is here
last_edges : (lists : List (List ℕ)) (numbers : List ℕ) → edges_at (lists ++ numbers ∷ []) (length lists) ≡ numbers
last_edges lists numbers = get_or-append_seam lists numbers [] []

-- the rules where an OR node is expanded
pub or_expanded : (t : TableauParts) (ands : List AndNode) (pairs : List (ℕ × ℕ)) (nodes : List AndNode) (numbers : List ℕ) → FollowsRules t → length t.children < length t.ors
    → ((pair : ℕ × ℕ) → Contains pairs pair ↔ LeadsTo t.a t.b (or_at t.ors (length t.children)).side (origin_of (or_at t.ors (length t.children))) pair) → AreNodesAt t.closure t.breadth pairs (seed_of (or_at t.ors (length t.children))) nodes
    → AreNumbers t.ands nodes ands numbers → AreApart ands → FollowsRules (with_nodes t ands t.ors (t.children ++ numbers ∷ []) t.successors)
or_expanded t ands pairs nodes numbers rules unexpanded leads are numbered apart = record {
  closure = rules.closure;
  role_a = rules.role_a;
  role_b = rules.role_b;
  one_a = rules.one_a;
  one_b = rules.one_b;
  some = rules.some;
  root = record { sided = rules.root.sided; origin = rules.root.origin; seed = rules.root.seed };
  ands_apart = apart;
  ors_apart = rules.ors_apart;
  listed_ors = omega (arith, unexpanded, length-append t.children (numbers ∷ []));
  listed_ands = listed;
  children = children;
  successors = λ n lt. successors_at n lt;
  ands_reached = ands_reached;
  ors_reached = λ o lt. reached_or_kept t ands t.ors (t.children ++ numbers ∷ []) t.successors (kept_more t.children (numbers ∷ [])) (kept_same t.successors) o (rules.ors_reached o lt);
}
  where
    longer : length t.ands ≤ length ands
    longer = kept_longer t.ands ands (and_at [] 0) numbered.kept

    listed : length t.successors ≤ length ands
    listed = let le : length t.successors ≤ length t.ands = rules.listed_ands in let more : length t.ands ≤ length ands = longer in omega (arith, le, more)

    children : (k : ℕ) → k < length (t.children ++ numbers ∷ []) → AreChildren (with_nodes t ands t.ors (t.children ++ numbers ∷ []) t.successors) (or_at t.ors k) (edges_at (t.children ++ numbers ∷ []) k)
    children k lt = elim (cases_lt k (length t.children)) [
      | inl old ↦ subst (AreChildren (with_nodes t ands t.ors (t.children ++ numbers ∷ []) t.successors) (or_at t.ors k)) (sym (get_or-append t.children (numbers ∷ []) [] k old)) (children_kept t ands t.ors (t.children ++ numbers ∷ []) t.successors numbered.kept (or_at t.ors k) (edges_at t.children k) (rules.children k old))
      | inr new ↦ last (let le : length t.children ≤ k = new in omega (arith, lt, le, length-append t.children (numbers ∷ [])))
    ]
      where
        last : k ≡ length t.children → AreChildren (with_nodes t ands t.ors (t.children ++ numbers ∷ []) t.successors) (or_at t.ors k) (edges_at (t.children ++ numbers ∷ []) k)
        last e = subst (λ (j : ℕ). AreChildren (with_nodes t ands t.ors (t.children ++ numbers ∷ []) t.successors) (or_at t.ors j) (edges_at (t.children ++ numbers ∷ []) j)) (sym e) (subst (AreChildren (with_nodes t ands t.ors (t.children ++ numbers ∷ []) t.successors) (or_at t.ors (length t.children))) (sym (last_edges t.children numbers)) (children_numbered t ands (t.children ++ numbers ∷ []) (or_at t.ors (length t.children)) pairs nodes numbers leads are numbered))

    successors_at : (n : ℕ) → n < length t.successors → AreSuccessors (with_nodes t ands t.ors (t.children ++ numbers ∷ []) t.successors) (and_at ands n) (edges_at t.successors n)
    successors_at n lt =
        let le : length t.successors ≤ length t.ands = rules.listed_ands in
        let below : n < length t.ands = omega (arith, lt, le) in
        subst (λ (x : AndNode). AreSuccessors (with_nodes t ands t.ors (t.children ++ numbers ∷ []) t.successors) x (edges_at t.successors n)) (sym (kept_at t.ands ands (and_at [] 0) numbered.kept n below)) (successors_kept t ands t.ors (t.children ++ numbers ∷ []) t.successors (kept_same t.ors) (and_at t.ands n) (edges_at t.successors n) (rules.successors n lt))

    ands_reached : (n : ℕ) → n < length ands → IsReachedAnd (with_nodes t ands t.ors (t.children ++ numbers ∷ []) t.successors) n
    ands_reached n lt = elim (cases_lt n (length t.ands)) [
      | inl old ↦ reached_and_kept t ands t.ors (t.children ++ numbers ∷ []) t.successors (kept_more t.children (numbers ∷ [])) (kept_same t.successors) n (rules.ands_reached n old)
      | inr new ↦ (length t.children, reached_or_kept t ands t.ors (t.children ++ numbers ∷ []) t.successors (kept_more t.children (numbers ∷ [])) (kept_same t.successors) (length t.children) (rules.ors_reached (length t.children) unexpanded), subst (λ (l : List ℕ). Contains l n) (sym (last_edges t.children numbers)) (numbered.new n new lt))
    ]

-- the rules where an AND node is expanded
pub and_expanded : (t : TableauParts) (ors : List OrNode) (nodes : List OrNode) (numbers : List ℕ) → FollowsRules t → length t.successors < length t.ands → AreNextNodes t.closure (and_at t.ands (length t.successors)) (count t.closure) nodes
    → AreNumbers t.ors nodes ors numbers → AreApart ors → FollowsRules (with_nodes t t.ands ors t.children (t.successors ++ numbers ∷ []))
and_expanded t ors nodes numbers rules unexpanded are numbered apart = record {
  closure = rules.closure;
  role_a = rules.role_a;
  role_b = rules.role_b;
  one_a = rules.one_a;
  one_b = rules.one_b;
  some = kept_within t.ors ors (or_at [] 0) numbered.kept 0 rules.some;
  root = subst (IsRoot (with_nodes t t.ands ors t.children (t.successors ++ numbers ∷ []))) (sym (kept_at t.ors ors (or_at [] 0) numbered.kept 0 rules.some)) (record { sided = rules.root.sided; origin = rules.root.origin; seed = rules.root.seed });
  ands_apart = rules.ands_apart;
  ors_apart = apart;
  listed_ors = listed;
  listed_ands = omega (arith, unexpanded, length-append t.successors (numbers ∷ []));
  children = λ o lt. children_at o lt;
  successors = successors;
  ands_reached = λ n lt. reached_and_kept t t.ands ors t.children (t.successors ++ numbers ∷ []) (kept_same t.children) (kept_more t.successors (numbers ∷ [])) n (rules.ands_reached n lt);
  ors_reached = ors_reached;
}
  where
    listed : length t.children ≤ length ors
    listed = let le : length t.children ≤ length t.ors = rules.listed_ors in let more : length t.ors ≤ length ors = kept_longer t.ors ors (or_at [] 0) numbered.kept in omega (arith, le, more)

    children_at : (o : ℕ) → o < length t.children → AreChildren (with_nodes t t.ands ors t.children (t.successors ++ numbers ∷ [])) (or_at ors o) (edges_at t.children o)
    children_at o lt =
        let le : length t.children ≤ length t.ors = rules.listed_ors in
        let below : o < length t.ors = omega (arith, lt, le) in
        subst (λ (x : OrNode). AreChildren (with_nodes t t.ands ors t.children (t.successors ++ numbers ∷ [])) x (edges_at t.children o)) (sym (kept_at t.ors ors (or_at [] 0) numbered.kept o below)) (children_kept t t.ands ors t.children (t.successors ++ numbers ∷ []) (kept_same t.ands) (or_at t.ors o) (edges_at t.children o) (rules.children o lt))

    successors : (k : ℕ) → k < length (t.successors ++ numbers ∷ []) → AreSuccessors (with_nodes t t.ands ors t.children (t.successors ++ numbers ∷ [])) (and_at t.ands k) (edges_at (t.successors ++ numbers ∷ []) k)
    successors k lt = elim (cases_lt k (length t.successors)) [
      | inl old ↦ subst (AreSuccessors (with_nodes t t.ands ors t.children (t.successors ++ numbers ∷ [])) (and_at t.ands k)) (sym (get_or-append t.successors (numbers ∷ []) [] k old)) (successors_kept t t.ands ors t.children (t.successors ++ numbers ∷ []) numbered.kept (and_at t.ands k) (edges_at t.successors k) (rules.successors k old))
      | inr new ↦ last (let le : length t.successors ≤ k = new in omega (arith, lt, le, length-append t.successors (numbers ∷ [])))
    ]
      where
        last : k ≡ length t.successors → AreSuccessors (with_nodes t t.ands ors t.children (t.successors ++ numbers ∷ [])) (and_at t.ands k) (edges_at (t.successors ++ numbers ∷ []) k)
        last e = subst (λ (j : ℕ). AreSuccessors (with_nodes t t.ands ors t.children (t.successors ++ numbers ∷ [])) (and_at t.ands j) (edges_at (t.successors ++ numbers ∷ []) j)) (sym e) (subst (AreSuccessors (with_nodes t t.ands ors t.children (t.successors ++ numbers ∷ [])) (and_at t.ands (length t.successors))) (sym (last_edges t.successors numbers)) (successors_numbered t ors (t.successors ++ numbers ∷ []) (and_at t.ands (length t.successors)) nodes numbers are numbered))

    via : (o : ℕ) → Contains numbers o → IsReachedOr (with_nodes t t.ands ors t.children (t.successors ++ numbers ∷ [])) o
    via o h =
        let n : ℕ = length t.successors in
        let k = reached_and_kept t t.ands ors t.children (t.successors ++ numbers ∷ []) (kept_same t.children) (kept_more t.successors (numbers ∷ [])) n (rules.ands_reached n unexpanded) in
        (suc k.1.0, (k.0, n, k.1.1, k.2, subst (λ (l : List ℕ). Contains l o) (sym (last_edges t.successors numbers)) h))

    ors_reached : (o : ℕ) → o < length ors → IsReachedOr (with_nodes t t.ands ors t.children (t.successors ++ numbers ∷ [])) o
    ors_reached o lt = elim (cases_lt o (length t.ors)) [
      | inl old ↦ reached_or_kept t t.ands ors t.children (t.successors ++ numbers ∷ []) (kept_same t.children) (kept_more t.successors (numbers ∷ [])) o (rules.ors_reached o old)
      | inr new ↦ via o (numbered.new o new lt)
    ]

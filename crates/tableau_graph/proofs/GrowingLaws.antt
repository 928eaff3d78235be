-- The rules where the growing tableau's next node is expanded.
use Rattle.std.proofs.Common.{ℕ, ◌≡◌, ◌<◌, ◌++◌, ◌↔◌, List, [], ◌∷◌, length, subst, sym, ◌∙◌, ap, arith, Contains}
use Rattle.std.specs.Global.{Vec}
use Rattle.std.proofs.lemmas.List.{map-append, length-map}
use Rattle.pair_structure.specs.Role.{RoleParts}
use Rattle.closure_sets.specs.ClosureParts.{ClosureParts, count}
use Rattle.tableau_graph.specs.Growing.{AreNodesAt, AreNextNodes, lists_of, parts_of}
use Rattle.tableau_graph.specs.NodeTable.{AreNumbers}
use Rattle.tableau_graph.specs.Rules.{LeadsTo, AreApart, FollowsRules}
use Rattle.tableau_graph.specs.TableauParts.{and_at, or_at, origin_of, seed_of}
use Rattle.tableau_graph.specs.declared.growing.Growing.{Growing}
use Rattle.tableau_graph.specs.declared.nodes.AndNode.{AndNode}
use Rattle.tableau_graph.specs.declared.nodes.OrNode.{OrNode}
use Rattle.tableau_graph.proofs.Growth.{with_nodes, or_expanded, and_expanded}

lists_push : (vectors vectors' : List (Vec ℕ)) (v : Vec ℕ) → vectors' ≡ vectors ++ v ∷ [] → lists_of vectors' ≡ lists_of vectors ++ v.items ∷ []
lists_push vectors vectors' v e = ap lists_of e ∙ map-append (λ (w : Vec ℕ). w.items) vectors (v ∷ [])

lists_long : (vectors : List (Vec ℕ)) → length (lists_of vectors) ≡ length vectors
lists_long vectors = length-map vectors (λ (w : Vec ℕ). w.items)

pub or_grown : (c : ClosureParts) (a b : RoleParts) (g : Growing) (node : OrNode) (ands : List AndNode) (children : Vec (Vec ℕ)) (pairs : List (ℕ × ℕ)) (nodes : List AndNode) (numbers : Vec ℕ) → FollowsRules (parts_of c a b g) → length g.children.items < length g.ors → node ≡ or_at g.ors (length g.children.items)
    → ((pair : ℕ × ℕ) → Contains pairs pair ↔ LeadsTo a b node.side (origin_of node) pair) → AreNodesAt c g.breadth pairs (seed_of node) nodes → AreNumbers g.ands nodes ands numbers.items → AreApart ands → children.items ≡ g.children.items ++ numbers ∷ []
    → FollowsRules (parts_of c a b (record { breadth = g.breadth; ands = ands; ors = g.ors; children = children; successors = g.successors }))
or_grown c a b g node ands children pairs nodes numbers rules lt is leads are numbered apart e =
    let long : length (lists_of g.children.items) ≡ length g.children.items = lists_long g.children.items in
    let at : node ≡ or_at g.ors (length (lists_of g.children.items)) = is ∙ ap (or_at g.ors) (sym long) in
    subst (λ (cs : List (List ℕ)). FollowsRules (with_nodes (parts_of c a b g) ands g.ors cs (lists_of g.successors.items))) (sym (lists_push g.children.items children.items numbers e))
    (or_expanded (parts_of c a b g) ands pairs nodes numbers.items rules (omega (arith, lt, long))
    (subst (λ (o : OrNode). (pair : ℕ × ℕ) → Contains pairs pair ↔ LeadsTo a b o.side (origin_of o) pair) at leads) (subst (λ (o : OrNode). AreNodesAt c g.breadth pairs (seed_of o) nodes) at are) numbered apart)

pub and_grown : (c : ClosureParts) (a b : RoleParts) (g : Growing) (node : AndNode) (ors : List OrNode) (successors : Vec (Vec ℕ)) (nodes : List OrNode) (numbers : Vec ℕ) → FollowsRules (parts_of c a b g) → length g.successors.items < length g.ands → node ≡ and_at g.ands (length g.successors.items)
    → AreNextNodes c node (count c) nodes → AreNumbers g.ors nodes ors numbers.items → AreApart ors → successors.items ≡ g.successors.items ++ numbers ∷ []
    → FollowsRules (parts_of c a b (record { breadth = g.breadth; ands = g.ands; ors = ors; children = g.children; successors = successors }))
and_grown c a b g node ors successors nodes numbers rules lt is are numbered apart e =
    let long : length (lists_of g.successors.items) ≡ length g.successors.items = lists_long g.successors.items in
    let at : node ≡ and_at g.ands (length (lists_of g.successors.items)) = is ∙ ap (and_at g.ands) (sym long) in
    subst (λ (ss : List (List ℕ)). FollowsRules (with_nodes (parts_of c a b g) g.ands ors (lists_of g.children.items) ss)) (sym (lists_push g.successors.items successors.items numbers e))
    (and_expanded (parts_of c a b g) ors nodes numbers.items rules (omega (arith, lt, long)) (subst (λ (n : AndNode). AreNextNodes c n (count c) nodes) at are) numbered apart)

use Rattle.std.proofs.Common.{ℕ, ◌↔◌, List, subst, sym, Contains}
use Rattle.tableau_graph.specs.Growing.{AreNodesAt}
use Rattle.tableau_graph.specs.Rules.{LeadsTo}
use Rattle.tableau_graph.specs.TableauParts.{origin_of, seed_of}
use Rattle.tableau_graph.specs.declared.nodes.AndNode.{AndNode}
use Rattle.tableau_graph.proofs.GrowingLaws.{or_grown}
use Rattle.tableau_graph.proofs.growing.Growing.expand_or.Goals as goal

pub returns-clause-rules : goal.returns-clause-rules
returns-clause-rules c =
    let node = c.open_or-node.result in
    let g = c.args.self.now in
    or_grown c.args.c.now c.args.a.now c.args.b.now g node c.number_each.new.self c.push.new.self c.deref.result.now c.deref-2.result.now c.in_ok-numbers.numbers c.requires.rules c.requires.open c.open_or-node.ensures
    (subst (λ (l : List (ℕ × ℕ)). (pair : ℕ × ℕ) → Contains l pair ↔ LeadsTo c.args.a.now c.args.b.now node.side (origin_of node) pair) (sym c.deref.ensures.value) c.in_ok-pairs.ensures)
    (subst (λ (l : List AndNode). AreNodesAt c.args.c.now g.breadth c.deref.result.now (seed_of node) l) (sym c.deref-2.ensures.value) c.in_ok-nodes.ensures)
    c.in_ok-numbers.ensures c.tell_apart.ensures c.in_ok-push.ensures.items

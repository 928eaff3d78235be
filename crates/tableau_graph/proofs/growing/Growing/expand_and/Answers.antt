use Rattle.std.proofs.Common.{List, subst, sym}
use Rattle.closure_sets.specs.ClosureParts.{count}
use Rattle.tableau_graph.specs.Growing.{AreNextNodes}
use Rattle.tableau_graph.specs.declared.nodes.OrNode.{OrNode}
use Rattle.tableau_graph.proofs.GrowingLaws.{and_grown}
use Rattle.tableau_graph.proofs.growing.Growing.expand_and.Goals as goal

pub returns-clause-rules : goal.returns-clause-rules
returns-clause-rules c =
    let node = c.open_and-node.result in
    and_grown c.args.c.now c.args._a.now c.args._b.now c.args.self.now node c.number_each.new.self c.push.new.self c.deref.result.now c.in_ok-numbers.numbers c.requires.rules c.requires.open c.open_and-node.ensures
    (subst (λ (l : List OrNode). AreNextNodes c.args.c.now node (count c.args.c.now) l) (sym c.deref.ensures.value) c.in_ok-nodes.ensures)
    c.in_ok-numbers.ensures c.tell_apart.ensures c.in_ok-push.ensures.items

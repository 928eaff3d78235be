use Rattle.interconnection.proofs.EdgeTables.{IsEdgeTable-loop, IsEdgeTable-more}
use Rattle.interconnection.proofs.edges.Edges.with.Goals as goal

pub invariant_of-result : goal.invariant_of-result
invariant_of-result c = rw c.in_ok-push.ensures.items (IsEdgeTable-loop _ c.args.edge _ c.push-2.new.self c.if-edge.true c.self.invariant c.in_ok-push-2.ensures.here c.push-2.ensures.elsewhere)

pub invariant_of-result-2 : goal.invariant_of-result-2
invariant_of-result-2 c =
    rw c.in_ok-push.ensures.items
    (IsEdgeTable-more _ c.args.edge _ c.push-2.new.self c.push-3.new.self c.if-edge.false c.self.invariant c.in_ok-push-2.ensures.here c.push-2.ensures.elsewhere c.in_ok-push-3.ensures.here c.push-3.ensures.elsewhere)

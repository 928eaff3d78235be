use Rattle.closure_sets.specs.Row.{set_of}
use Rattle.tableau_graph.proofs.Carried.{carried_added}
use Rattle.tableau_graph.proofs.successors.carried_to.Goals as goal

pub returns-in-Some : goal.returns-in-Some
returns-in-Some c = carried_added c.args.side c.args.part c.args.has (set_of c.args.carried.words) (set_of c.add.new.self.words) c.in-Some.f c.if-not-has.false c.in-Some.ensures c.add.ensures

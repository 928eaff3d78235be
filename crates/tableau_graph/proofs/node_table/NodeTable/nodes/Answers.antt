use Rattle.std.proofs.Common.{subst}
use Rattle.tableau_graph.specs.Rules.{AreApart}
use Rattle.tableau_graph.proofs.NodeTables.{table_apart}
use Rattle.tableau_graph.proofs.node_table.NodeTable.nodes.Goals as goal

pub returns-clause-apart : goal.returns-clause-apart
returns-clause-apart g c = subst AreApart c.self.view_is (table_apart g.N.Ord.cmp c.self.inside.nodes.items c.self.inside.numbers c.self.invariant)

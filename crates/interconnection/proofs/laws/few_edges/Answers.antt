use Rattle.interconnection.proofs.EdgeCount.{few_edges as edge_count}
use Rattle.interconnection.proofs.laws.few_edges.Goals as goal

pub returns : goal.returns
returns c = edge_count

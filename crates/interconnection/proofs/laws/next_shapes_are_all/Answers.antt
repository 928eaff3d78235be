use Rattle.interconnection.proofs.ShapeOrder.{all_shapes}
use Rattle.interconnection.proofs.laws.next_shapes_are_all.Goals as goal

pub returns : goal.returns
returns c = all_shapes

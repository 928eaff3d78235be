use Rattle.std.proofs.Common.{◌∙◌}
use Rattle.std.proofs.lemmas.List.Sorted.{length_permutation}
use Rattle.pair_structure.specs.Lists.{list_at}
use Rattle.interconnection.specs.Shape.{labels_of}
use Rattle.interconnection.proofs.LabelLists.{length-labels_of}
use Rattle.interconnection.proofs.network.Network.labels.Goals as goal

pub returns-clause-same : goal.returns-clause-same
returns-clause-same c = rw (c.list.ensures, ← c.self.view_is) (c.self.invariant.2.same c.args.k (rw (← c.self.view_is) at c.requires))

pub returns-clause-sorted : goal.returns-clause-sorted
returns-clause-sorted c = rw c.list.ensures (c.self.invariant.2.sorted c.args.k (rw (← c.self.view_is) at c.requires))

pub returns-clause-count : goal.returns-clause-count
returns-clause-count c =
    let inside = c.self.inside in
    rw (c.list.ensures, ← c.self.view_is) (length_permutation (labels_of inside.edges.items c.args.k) (list_at inside.labels c.args.k) (c.self.invariant.2.same c.args.k (rw (← c.self.view_is) at c.requires)) ∙ length-labels_of inside.edges.items c.args.k)

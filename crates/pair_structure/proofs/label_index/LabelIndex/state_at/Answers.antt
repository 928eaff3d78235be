use Rattle.pair_structure.proofs.Ordinals.{none_past}
use Rattle.pair_structure.proofs.label_index.LabelIndex.state_at.Goals as goal

pub returns-in-None : goal.returns-in-None
returns-in-None c =
    let past = rw c.list.ensures at c.in-None.ensures.lookup.3 in
    λ s found. none_past c.self.inside.labels.items _ _ c.args.x s (c.self.invariant.lists c.args.a c.args.b) past (rw (← c.self.view_is) at found)

use Rattle.std.proofs.Common.{◌≤◌, length}
use Rattle.ctl_form.specs.Row.{IsAt}
use Rattle.ctl_form.specs.inside.Spread.{AreCursors, IsSpread, Anyhow, SeenBefore}
use Rattle.ctl_form.proofs.SpreadSteps.{left_to_do}
use Rattle.ctl_form.proofs.until_row.until_row.Given as goal

abbrev pub invariant-loop-state : goal.invariant-loop-state
invariant-loop-state l = record {
  spread : IsSpread l.m l.all l.p l.q l.front.row l.front.work.items Anyhow;
  cursors : AreCursors (length l.front.row) l.m.moves l.front.row l.front.cursors.items;
}

abbrev pub decreases-loop-state : goal.decreases-loop-state
decreases-loop-state l = left_to_do l.front.row l.front.work.items

abbrev pub invariant-loop-place : goal.invariant-loop-place
invariant-loop-place l = record {
  spread : IsSpread l.m l.all l.p l.q l.front.row l.front.work.items (SeenBefore l.predecessors.begins.items l.predecessors.sources.items l.state l.place);
  hand : IsAt l.front.row l.state;
  cursors : AreCursors (length l.front.row) l.m.moves l.front.row l.front.cursors.items;
  less : left_to_do l.front.row l.front.work.items ≤ left_to_do l.initial.front.row l.initial.front.work.items;
}

use Rattle.std.proofs.Common.{◌≤◌, length}
use Rattle.ctl_form.specs.inside.Predecessors.{AddsSources, EndsAt}
use Rattle.ctl_form.proofs.predecessors.push_sources.Given as goal

abbrev pub invariant-loop-end : goal.invariant-loop-end
invariant-loop-end l = record {
  added : AddsSources l.moves l.to l.end l.initial.sources.items l.sources.items;
  within : l.end ≤ length l.moves;
  ends : EndsAt l.moves l.to l.end l.end;
}

abbrev pub decreases-loop-end : goal.decreases-loop-end
decreases-loop-end l = l.end

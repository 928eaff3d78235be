use Rattle.std.proofs.Common.{◌≡◌, ◌+◌}
use Rattle.unravel.specs.inside.Joined.{whole_of}
use Rattle.unravel.specs.inside.Joining.{HaveRoots, IsJoined}
use Rattle.unravel.proofs.synthesis.join_row.Given as goal

abbrev pub invariant-loop-other : goal.invariant-loop-other
invariant-loop-other l = record {
  joined : IsJoined l.a l.b l.joining.begun (whole_of l.joining);
  roots : HaveRoots l.form l.joining.begun (whole_of l.joining);
  begun : l.joining.begun ≡ l.initial.joining.begun + l.other-index;
}

use Rattle.std.proofs.Common.{◌≡◌, ◌*◌, length}
use Rattle.unravel.specs.inside.Joined.{whole_of}
use Rattle.unravel.specs.inside.Joining.{HaveRoots, IsJoined}
use Rattle.unravel.proofs.synthesis.synthesize.Given as goal

abbrev pub invariant-loop-start : goal.invariant-loop-start
invariant-loop-start l = record {
  joined : IsJoined l.a l.b l.joining.begun (whole_of l.joining);
  roots : HaveRoots l.form l.joining.begun (whole_of l.joining);
  begun : l.joining.begun ≡ l.start-index * length l.b.starts;
}

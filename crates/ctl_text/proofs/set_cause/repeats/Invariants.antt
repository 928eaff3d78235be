use Rattle.std.proofs.Common.{◌↔◌, map}
use Rattle.ctl_text.specs.Cause.{Repeats}
use Rattle.ctl_text.proofs.MemberLists.{RepeatsFrom}
use Rattle.ctl_text.proofs.set_cause.repeats.Given as goal

abbrev pub invariant-loop-place : goal.invariant-loop-place
invariant-loop-place l = RepeatsFrom (λ w. w.now) l.words l.place ↔ Repeats (map (λ w. w.now) l.words)

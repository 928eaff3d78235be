use Rattle.std.proofs.Common.{length}
use Rattle.text_cause.proofs.Reading.{IsReadTo}
use Rattle.ctl_text.specs.inside.Sound.{IsSoundState}
use Rattle.ctl_text.specs.State.{first_state}
use Rattle.ctl_text.specs.Text.{specifications}
use Rattle.ctl_text.specs.inside.View.{state_of}
use Rattle.ctl_text.proofs.read.read_text.Given as goal

abbrev pub invariant-loop-rest : goal.invariant-loop-rest
invariant-loop-rest l = record {
  read : IsReadTo specifications first_state 1 l.bytes l.rest (state_of l.reader) l.line;
  sound : IsSoundState (state_of l.reader);
}

abbrev pub decreases-loop-rest : goal.decreases-loop-rest
decreases-loop-rest l = length l.rest

use Rattle.std.proofs.Common.{length}
use Rattle.text_cause.proofs.Reading.{IsReadTo}
use Rattle.certificate_text.specs.State.{first_state}
use Rattle.certificate_text.specs.Text.{certificates}
use Rattle.certificate_text.specs.inside.Sound.{IsSound}
use Rattle.certificate_text.specs.inside.View.{state_of}
use Rattle.certificate_text.proofs.read.read_stars.Given as goal

abbrev pub invariant-loop-rest : goal.invariant-loop-rest
invariant-loop-rest l = record {
  read : IsReadTo (certificates l.spec l.system) first_state 1 l.bytes l.rest (state_of l.reader) l.line;
  sound : IsSound l.system (state_of l.reader);
}

abbrev pub decreases-loop-rest : goal.decreases-loop-rest
decreases-loop-rest l = length l.rest

use Rattle.std.proofs.Common.{length, All}
use Rattle.text_cause.proofs.Reading.{IsReadTo}
use Rattle.solution_text.specs.Answers.{HasRoles}
use Rattle.solution_text.specs.State.{first_state}
use Rattle.solution_text.specs.Text.{solutions}
use Rattle.solution_text.specs.inside.View.{state_of}
use Rattle.solution_text.proofs.read.read_structures.Given as goal

abbrev pub invariant-loop-rest : goal.invariant-loop-rest
invariant-loop-rest l = record {
  read : IsReadTo (solutions l.roles) (first_state l.kinds) 1 l.bytes l.rest (state_of l.reader) l.line;
  roles : All (HasRoles (length l.roles)) l.reader.left.now;
}

abbrev pub decreases-loop-rest : goal.decreases-loop-rest
decreases-loop-rest l = length l.rest

use Rattle.solution_text.proofs.Written.{written_is_text}
use Rattle.solution_text.proofs.laws.written_is_text.Goals as goal

pub returns : goal.returns
returns c = written_is_text

use Rattle.solution_text.proofs.Prefix.{no_prefix}
use Rattle.solution_text.proofs.laws.no_prefix.Goals as goal

pub returns : goal.returns
returns c = no_prefix

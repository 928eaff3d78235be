use Rattle.strict_text.proofs.WordLaws.{one_line}
use Rattle.strict_text.proofs.laws.one_line.Goals as goal

pub returns : goal.returns
returns c = one_line

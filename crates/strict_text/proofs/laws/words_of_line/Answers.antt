use Rattle.strict_text.proofs.WordLaws.{words_of_line}
use Rattle.strict_text.proofs.laws.words_of_line.Goals as goal

pub returns : goal.returns
returns c = words_of_line

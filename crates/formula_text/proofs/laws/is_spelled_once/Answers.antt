use Rattle.formula_text.proofs.Spelled.{spelled_once}
use Rattle.formula_text.proofs.laws.is_spelled_once.Goals as goal

pub returns : goal.returns
returns c = spelled_once

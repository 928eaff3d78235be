use Rattle.formula_text.proofs.Canonical.{canonical_is_formula}
use Rattle.formula_text.proofs.laws.canonical_is_formula.Goals as goal

pub returns : goal.returns
returns c = canonical_is_formula

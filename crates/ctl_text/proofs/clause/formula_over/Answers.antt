use Rattle.ctl_text.proofs.Clauses.{unknown_lowest}
use Rattle.ctl_text.proofs.Options.{untrue-false}
use Rattle.ctl_text.proofs.clause.formula_over.Goals as goal

pub returns-in-Err-Unknown-clause-refused : goal.returns-in-Err-Unknown-clause-refused
returns-in-Err-Unknown-clause-refused c = unknown_lowest _ _ _ (untrue-false c.if-is_long.ensures.1) (rw c.in-Err-Unknown.field-0-is at c.in-Err-Unknown.ensures.fault)

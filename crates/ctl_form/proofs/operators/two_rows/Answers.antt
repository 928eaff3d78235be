use Rattle.ctl_form.proofs.operators.two_rows.Goals as goal

pub returns-in-Until : goal.returns-in-Until
returns-in-Until c = λ f g p q. rw c.in-Until.is (c.along_row.ensures f g p q)

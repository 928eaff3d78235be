use Rattle.ctl_form.proofs.operators.one_row.Goals as goal

pub returns-in-Next : goal.returns-in-Next
returns-in-Next c = λ f p. rw c.in-Next.is (c.next_row.ensures f p)

pub returns-in-Always : goal.returns-in-Always
returns-in-Always c = λ f p. rw c.in-Always.is (c.always_row.ensures f p)

pub returns-in-Sometime : goal.returns-in-Sometime
returns-in-Sometime c = λ f p. rw c.in-Sometime.is (c.sometime_row.ensures f p)

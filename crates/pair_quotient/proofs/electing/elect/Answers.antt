use Rattle.std.proofs.Common.{◌∙◌, ap, subst, sym, Contains, slice_index_or, []}
use Rattle.pair_quotient.proofs.electing.elect.Goals as goal

pub returns-in-Some-most-clause-elected : goal.returns-in-Some-most-clause-elected
returns-in-Some-most-clause-elected c = λ s lt e settled.
    let listed = c.requires.blocks.listed s lt in
    let here : Contains c.list.result.now s = subst (λ l. Contains l s) (ap (λ b. slice_index_or c.args.blocks.now.members b []) e ∙ sym c.list.ensures) listed in
    absurd (c.in_default.ensures s here (rw c.deref.ensures.value e) settled)

pub returns-in_default-most-clause-elected : goal.returns-in_default-most-clause-elected
returns-in_default-most-clause-elected c = λ s lt e settled.
    let listed = c.requires.blocks.listed s lt in
    let here : Contains c.list.result.now s = subst (λ l. Contains l s) (ap (λ b. slice_index_or c.args.blocks.now.members b []) e ∙ sym c.list.ensures) listed in
    absurd (c.in_default.ensures s here (rw c.deref.ensures.value e) settled)

use Rattle.interconnection.proofs.Choices.{all_stuck, raised_next}
use Rattle.interconnection.proofs.choice.next_choice.Goals as goal

pub returns-in-Some-clause-next : goal.returns-in-Some-clause-next
returns-in-Some-clause-next c = λ yes. rw c.raise_from.ensures (raised_next c.args.labels.now c.args.leaves.now _ _ c.requires.sorted c.requires.choice c.in-Some.ensures.some)

pub returns-in-None-clause-last : goal.returns-in-None-clause-last
returns-in-None-clause-last c = λ no. all_stuck c.args.labels.now c.args.leaves.now c.in-None.ensures.none

use Rattle.solution_text.proofs.take.with_state.Goals as goal

pub returns-else-is_err-clause-free : goal.returns-else-is_err-clause-free
returns-else-is_err-clause-free c = rw c.in-InKind.is c.in_ok-label-in-InKind.ensures.free

use Rattle.solution_text.proofs.Blocked.{pair_free_along, pair_bad_along}
use Rattle.solution_text.proofs.take.with_ended.Goals as goal

pub returns-in-Err-clause-refused : goal.returns-in-Err-clause-refused
returns-in-Err-clause-refused c = rw c.in-InKind.is (pair_bad_along c.in-InKind.a.now c.in-InKind.b.now _ _ _ _ _ c.deref.ensures.value c.deref-in-InKind.ensures.value c.in-Err.ensures.refused)

pub returns-else-is_err-clause-free : goal.returns-else-is_err-clause-free
returns-else-is_err-clause-free c = rw c.in-InKind.is (pair_free_along c.in-InKind.a.now c.in-InKind.b.now _ _ _ _ c.deref.ensures.value c.deref-in-InKind.ensures.value c.in-Ok.ensures.free)

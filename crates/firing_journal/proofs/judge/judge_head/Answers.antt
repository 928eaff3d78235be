use Rattle.std.proofs.Common.{IsTrue, false, refl}
use Rattle.strict_text.specs.View.{line_of}
use Rattle.firing_journal.proofs.Judged.{head_taken, head_wrong}
use Rattle.firing_journal.proofs.judge.judge_head.Goals as goal

pub returns-then-not-is_head-clause-refused : goal.returns-then-not-is_head-clause-refused
returns-then-not-is_head-clause-refused c = head_wrong c.args.system.now (line_of c.args.line) (c.is_strict.ensures.0 (rw c.if-not-is_strict.false refl)) (λ is. let never : IsTrue false = rw c.if-not-is_head.true at (c.is_head.ensures.1 is) in cc)

pub returns-clause-taken : goal.returns-clause-taken
returns-clause-taken c = head_taken c.args.system.now (line_of c.args.line) (c.is_strict.ensures.0 (rw c.if-not-is_strict.false refl)) (c.is_head.ensures.0 (rw c.if-not-is_head.false refl)) c.if-not-line.false

use Rattle.std.proofs.Common.{refl}
use Rattle.ctl_text.proofs.Options.{untrue-false}
use Rattle.ctl_text.proofs.CauseRows.{begin_elsewhere, begin_free}
use Rattle.ctl_text.proofs.process_cause.begin_cause.Goals as goal

pub returns-then-is_no_start-clause-some : goal.returns-then-is_no_start-clause-some
returns-then-is_no_start-clause-some c = begin_elsewhere c.args.most c.args.role.now _ _ _ (untrue-false c.if-is_unknown_start.ensures.1) c.in_default.ensures.none (c.if-is_no_start.ensures.0 refl)

pub returns-clause-none : goal.returns-clause-none
returns-clause-none c = begin_free c.args.most c.args.role.now _ _ _ (untrue-false c.if-is_unknown_start.ensures.1) c.in_default.ensures.none (untrue-false c.if-is_no_start.ensures.1)

use Rattle.std.proofs.Common.{}
use Rattle.firing_journal.proofs.Words.{if_none, no_entry, not_behind, not_end, not_first, words_stand}
use Rattle.firing_journal.proofs.item.firing.Goals as goal

pub returns-in_err-caller-clause-none : goal.returns-in_err-caller-clause-none
returns-in_err-caller-clause-none c = if_none c.from_residual-in_err-caller.result _ (no_entry _ (not_behind 4 c.in_ok-number.number _ _ c.in_ok-number.ensures.some (not_first 3 _ c.in_err-caller.ensures.none)))

pub returns-in_err-process-clause-none : goal.returns-in_err-process-clause-none
returns-in_err-process-clause-none c = if_none c.from_residual-in_err-process.result _ (no_entry _ (not_behind 4 c.in_ok-number.number _ _ c.in_ok-number.ensures.some (not_behind 3 c.in_ok-caller.caller _ _ c.in_ok-caller.ensures.some (not_first 2 _ c.in_err-process.ensures.none))))

pub returns-in_err-arc-clause-none : goal.returns-in_err-arc-clause-none
returns-in_err-arc-clause-none c = if_none c.from_residual-in_err-arc.result _ (no_entry _ (not_behind 4 c.in_ok-number.number _ _ c.in_ok-number.ensures.some (not_behind 3 c.in_ok-caller.caller _ _ c.in_ok-caller.ensures.some (not_behind 2 c.in_ok-process.process _ _ c.in_ok-process.ensures.some (not_first 1 _ c.in_err-arc.ensures.none)))))

pub returns-in_err-pick-clause-none : goal.returns-in_err-pick-clause-none
returns-in_err-pick-clause-none c = if_none c.from_residual-in_err-pick.result _ (no_entry _ (not_behind 4 c.in_ok-number.number _ _ c.in_ok-number.ensures.some (not_behind 3 c.in_ok-caller.caller _ _ c.in_ok-caller.ensures.some (not_behind 2 c.in_ok-process.process _ _ c.in_ok-process.ensures.some (not_behind 1 c.in_ok-arc.arc _ _ c.in_ok-arc.ensures.some (not_first 0 _ c.in_err-pick.ensures.none))))))

pub returns-in-Some-clause-none : goal.returns-in-Some-clause-none
returns-in-Some-clause-none c = no_entry _ (not_behind 4 c.in_ok-number.number _ _ c.in_ok-number.ensures.some (not_behind 3 c.in_ok-caller.caller _ _ c.in_ok-caller.ensures.some (not_behind 2 c.in_ok-process.process _ _ c.in_ok-process.ensures.some (not_behind 1 c.in_ok-arc.arc _ _ c.in_ok-arc.ensures.some (not_behind 0 c.in_ok-pick.pick _ _ c.in_ok-pick.ensures.some (not_end _ (λ is. words_stand c.in-Some.field-0.now (rw c.in-Some.is at is))))))))

use Rattle.std.proofs.Common.{map, refl, ◌∙◌, ap}
use Rattle.ctl_text.proofs.Judged.{taken_takes, fault_refused}
use Rattle.ctl_text.proofs.Options.{untrue-false}
use Rattle.ctl_text.proofs.take.take_line.Goals as goal

pub returns-in-Ok-clause-taken : goal.returns-in-Ok-clause-taken
returns-in-Ok-clause-taken c =
    taken_takes _ _ _ _ _ (ap (map (λ w. w.now)) c.deref.ensures.value ∙ c.in_ok-words.ensures) (ap (map (λ w. w.now)) c.deref-2.ensures.value ∙ c.in_ok-words.ensures) (c.if-not-is_text.ensures.0 refl)
    (untrue-false c.if-are_passed.ensures.1) c.in-Ok.ensures.taken

pub returns-clause-refused : goal.returns-clause-refused
returns-clause-refused c =
    fault_refused _ _ _ _ _ (ap (map (λ w. w.now)) c.deref.ensures.value ∙ c.in_ok-words.ensures) (ap (map (λ w. w.now)) c.deref-2.ensures.value ∙ c.in_ok-words.ensures) (c.if-not-is_text.ensures.0 refl)
    (untrue-false c.if-are_passed.ensures.1) c.in-Err.ensures.refused

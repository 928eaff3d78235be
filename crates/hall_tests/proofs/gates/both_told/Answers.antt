use Rattle.std.proofs.Common.{◌≡◌, ◌∙◌, subst}
use Rattle.firing_hall.specs.Passes.{IsPassOf}
use Rattle.firing_hall.specs.declared.firing.Hall.{Hall}
use Rattle.hall_tests.proofs.Gated.{hall_kept}
use Rattle.hall_tests.proofs.gates.both_told.Goals as goal

pub with_last-requires-2-clause-pass : goal.with_last-requires-2-clause-pass
with_last-requires-2-clause-pass c =
    let fired = c.try_fire_at-reply in
    let kept : fired.new.gate ≡ c.new-gate.result = hall_kept fired.result c.new-gate.result fired.new.gate fired.ensures.gate fired.ensures.spared in
    subst (λ (h : Hall). IsPassOf h c.pass-second.result.0) (kept ∙ c.new-gate.ensures) c.pass-second.ensures

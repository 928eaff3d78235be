-- A gate after a firing, whatever its reply is.
use Rattle.std.proofs.Common.{◌≡◌}
use Rattle.firing_hall.specs.Gates.{IsAnswered}
use Rattle.firing_hall.specs.declared.firing.Hall.{Hall}
use Rattle.firing_hall.specs.declared.reply.Reply.{Reply}
use Rattle.firing_hall.specs.declared.reply.Reply.TheVariants.{Fired, Away, Blocked, Full, Busy}

-- the gate's hall is the same, whether the gate was called or not
pub hall_kept : (r : Reply) (before now : Hall) → (IsAnswered r → now ≡ before) → ((IsAnswered r → ⊥) → now ≡ before) → now ≡ before
hall_kept (Fired n) before now called spared = called tt
hall_kept (Away local p) before now called spared = called tt
hall_kept (Blocked j p) before now called spared = called tt
hall_kept Full before now called spared = spared (λ none. none)
hall_kept (Busy lock holder) before now called spared = spared (λ none. none)

use Rattle.std.proofs.Common.{◌≡◌, ◌≤◌, ◌+◌, length}
use Rattle.std.specs.Prelude.{All, vec_capacity}
use Rattle.firing_words.specs.Of.{system_of}
use Rattle.firing_words.specs.Hands.{AreHands}
use Rattle.firing_words.specs.inside.Dealing.{AreSeatsFrom, IsSpaceFor}
use Rattle.firing_words.proofs.words.Words.hand_out.Given as goal

abbrev pub invariant-loop-caller : goal.invariant-loop-caller
invariant-loop-caller l =
    AreSeatsFrom l.self l.caller l.seats.items
    × (length l.seats.items + l.caller ≡ l.self.setting.callers)
    × All (IsSpaceFor (system_of l.self) l.most) l.spaces.items
    × (length l.spaces.items + l.caller ≡ l.self.setting.callers)
    × AreHands l.self l.caller l.hands.items
    × (l.self.setting.callers ≤ vec_capacity l.hands)

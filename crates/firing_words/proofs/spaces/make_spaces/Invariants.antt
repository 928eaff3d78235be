use Rattle.std.proofs.Common.{◌≡◌, ◌+◌, ◌≤◌, length}
use Rattle.std.specs.Prelude.{All, vec_capacity}
use Rattle.firing_words.specs.inside.Dealing.{IsSpaceFor}
use Rattle.firing_words.proofs.spaces.make_spaces.Given as goal

abbrev pub invariant-loop : goal.invariant-loop
invariant-loop l = All (IsSpaceFor l.system (l.most + 1)) l.spaces.items × (length l.spaces.items ≡ l.counter) × (l.callers ≤ vec_capacity l.spaces)

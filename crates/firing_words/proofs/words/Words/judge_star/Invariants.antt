use Rattle.std.proofs.Common.{◌≡◌, ◌+◌, length}
use Rattle.std.specs.Prelude.{vec_capacity}
use Rattle.firing_words.specs.Of.{system_of, seat_view}
use Rattle.firing_words.specs.inside.Judging.{IsNextUpTo}
use Rattle.firing_words.proofs.words.Words.judge_star.Given as goal

abbrev pub invariant-loop-i : goal.invariant-loop-i
invariant-loop-i l = IsNextUpTo (system_of l.self) l.i l.wish l.list (seat_view l.seat).known l.readings l.stores.items × (length l.stores.items ≡ l.i + 1) × (vec_capacity l.stores ≡ vec_capacity l.initial.stores)

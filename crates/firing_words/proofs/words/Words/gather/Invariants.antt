use Rattle.std.proofs.Common.{◌≡◌}
use Rattle.std.specs.Prelude.{vec_capacity}
use Rattle.firing_words.specs.Of.{seat_view}
use Rattle.firing_words.specs.inside.Judging.{IsStarUpTo}
use Rattle.firing_words.proofs.words.Words.gather.Given as goal

abbrev pub invariant-loop-i : goal.invariant-loop-i
invariant-loop-i l = IsStarUpTo l.i l.process l.list (seat_view l.seat).known l.star.items × (vec_capacity l.star ≡ vec_capacity l.initial.star)

use Rattle.std.proofs.Common.{ℕ, ◌≡◌}
use Rattle.firing_words.specs.inside.Judging.{no_reading}
use Rattle.firing_words.proofs.Stars.{nothing_left, reading_here, reading_later}
use Rattle.firing_words.proofs.judging.find.Goals as goal

pub loop-i-preserved : goal.loop-i-preserved
loop-i-preserved c = reading_later c.args.known.now c.loop-i.i _ c.args.cell c.loop-i-test.true (λ e. let yes = c.is_same.ensures.1 e in let no = c.if-is_same.false in absurd (cc)) c.loop-i.invariant

pub unreachable-requires : goal.unreachable-requires
unreachable-requires c = nothing_left c.args.known.now c.loop-i.i c.args.cell c.loop-i-test.false c.loop-i.invariant

pub returns-then-is_same : goal.returns-then-is_same
returns-then-is_same c = (reading_here c.args.known.now c.loop-i.i _ c.loop-i-test.true, c.is_same.ensures.0 c.if-is_same.true)

use Rattle.std.proofs.Common.{◌≡◌, ℕ, length, take, drop}
use Rattle.std.specs.Io.KnownBytes.{Appends}
use Rattle.edge_io.proofs.out_sink.write_whole.Given as goal

-- the first n bytes were appended, and the others are left
abbrev pub invariant-loop-left : goal.invariant-loop-left
invariant-loop-left g l =
    (n : ℕ) × (l.left ≡ drop n l.bytes) × Appends (g.W.Write.contents l.initial.out) (g.W.Write.contents l.out) (take n l.bytes)

abbrev pub decreases-loop-left : goal.decreases-loop-left
decreases-loop-left g l = length l.left

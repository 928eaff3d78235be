-- Counts of faults: they never fall, and stop at the end of a `u64`.
use Rattle.std.specs.Prelude.{ℕ, ◌+◌, ◌-◌, ◌^◌, ◌≤◌, min, Result, Ok, Err}
use Rattle.edge_io.specs.declared.counts.ShelfCounts.{ShelfCounts}
use Rattle.edge_io.specs.declared.shelf.ShelfFault.{ShelfFault}
use Rattle.edge_io.specs.declared.shelf.ShelfFault.TheVariants.{Failed, Long, Memory}

-- a count that rose once; at the end of a `u64` it stays
abbrev pub next_count : ℕ → ℕ
next_count n = min (n + 1) (2 ^ 64 - 1)

-- the count rose; one that stands at its end counts as risen
abbrev pub Rose : ℕ → ℕ → Type 0
Rose before now = next_count before ≤ now

-- the counts of a new shelf
abbrev pub no_counts : ShelfCounts
no_counts = record { faults = 0; longs = 0 }

-- the counts after a call with this answer
abbrev pub counts_after : ShelfCounts → Result (Unit {0}) ShelfFault → ShelfCounts
counts_after counts (Ok _) = counts
counts_after counts (Err Failed) = record counts { faults = next_count counts.faults }
counts_after counts (Err Long) = record counts { longs = next_count counts.longs }
counts_after counts (Err Memory) = counts

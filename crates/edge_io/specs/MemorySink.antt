-- What a sink in memory has, and when its next put fails.
use Rattle.std.specs.Prelude.{ℕ, ◌+◌, ◌<◌, ◌⊎◌, ◌++◌, List, length, Contains}
use Rattle.edge_io.specs.Counts.{next_count}

-- the bytes so far and for how many there is room, which puts fail by their number, how many were
-- made, and how many of those failed
pub record SinkState : Type 0 where
  pub bytes : List ℕ
  pub room : ℕ
  pub failing : List ℕ
  pub puts : ℕ
  pub faults : ℕ

-- the next put of this piece fails: its number is a failing one, or the piece would go past the room
abbrev pub Refuses : SinkState → List ℕ → Type 0
Refuses sink piece = Contains sink.failing sink.puts ⊎ (sink.room < length sink.bytes + length piece)

-- the sink after it took this piece
abbrev pub after_taken : SinkState → List ℕ → SinkState
after_taken sink piece = record sink { bytes = sink.bytes ++ piece; puts = next_count sink.puts }

-- the sink after it refused a piece
abbrev pub after_refused : SinkState → SinkState
after_refused sink = record sink { puts = next_count sink.puts; faults = next_count sink.faults }

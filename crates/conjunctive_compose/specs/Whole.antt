-- Whole states.
use Rattle.std.specs.Prelude.{ℕ, ◌≡◌, ◌<◌, ◌+◌, ◌*◌, ◌==◌, List, length, map, replicate, slice_index}
use Rattle.std.specs.List.{position_or_len, range_with_len}
use Rattle.pair_structure.specs.Ordinal.{IsStateAt}
use Rattle.interconnection.specs.Network.{process_at}
use Rattle.conjunctive_compose.specs.System.{SystemParts, edge_at, edge_count, process_count, role_of, structure_at}

-- a local state for each process, and a shared value for each edge
pub record WholeParts : Type 0 where
  pub locals : List ℕ
  pub shared : List ℕ

abbrev pub local_at : WholeParts → ℕ → ℕ
local_at w k = slice_index w.locals k

abbrev pub value_at : WholeParts → ℕ → ℕ
value_at w e = slice_index w.shared e

-- the local states of an edge's two processes
abbrev pub label_on : SystemParts → WholeParts → ℕ → ℕ × ℕ
label_on sys w e = (local_at w (edge_at sys e).a, local_at w (edge_at sys e).b)

-- the pair state of edge e is s
abbrev pub HasPair : SystemParts → WholeParts → ℕ → ℕ → Type 0
HasPair sys w e s = IsStateAt (structure_at sys e).states (label_on sys w e) (value_at w e) s

-- as many local states and values as the system has processes and edges
pub record HasSizes (sys : SystemParts) (w : WholeParts) : Type 0 where
  pub locals : length w.locals ≡ process_count sys
  pub values : length w.shared ≡ edge_count sys

-- a local state of its role for each process, a value for each edge, and a pair state of each edge
pub record IsProper (sys : SystemParts) (w : WholeParts) : Type 0 where
  pub locals : length w.locals ≡ process_count sys
  pub values : length w.shared ≡ edge_count sys
  pub within : (k : ℕ) → k < process_count sys → local_at w k < length (role_of sys k).locals
  pub pairs : (e : ℕ) → e < edge_count sys → (s : ℕ) × HasPair sys w e s

-- the local state where a process starts
abbrev pub start_local : SystemParts → ℕ → ℕ
start_local sys k = (process_at sys.network.processes k).start

-- the place of a start among the starts of a role
abbrev pub place_among : List ℕ → ℕ → ℕ
place_among starts start = position_or_len (λ other. other == start) starts

-- the place of a process's start
abbrev pub start_place : SystemParts → ℕ → ℕ
start_place sys k = place_among (role_of sys k).starts (start_local sys k)

-- the pair state in which an edge starts: where the role on side b has n starts, it is i n + j for places i and j of the starts of its two
-- processes
abbrev pub start_state : SystemParts → ℕ → ℕ
start_state sys e = start_place sys (edge_at sys e).a * length (role_of sys (edge_at sys e).b).starts + start_place sys (edge_at sys e).b

-- each process in its own start, and the value 0 on each edge
abbrev pub start_of : SystemParts → WholeParts
start_of sys = record {
  locals = map (start_local sys) (range_with_len 0 (process_count sys));
  shared = replicate (edge_count sys) 0;
}

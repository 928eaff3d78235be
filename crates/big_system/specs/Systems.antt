-- The systems of `big`: philosophers on a grid or a ring, whose edges are of two kinds by words that are drawn.
use Rattle.std.specs.Prelude.{ℕ, ◌≡◌, ◌%◌, ◌++◌, List, [], ◌∷◌, map, codes, decimal}
use Rattle.std.specs.List.{range_with_len}
use Rattle.interconnection.specs.declared.parts.Edge.{Edge}
use Rattle.interconnection.specs.declared.parts.Process.{Process}
use Rattle.interconnection.specs.Network.{NetworkParts}
use Rattle.conjunctive_compose.specs.System.{IsSystem, SystemParts}
use Rattle.firing_crew.specs.Draws.{first_state, next_word}
use Rattle.big_system.specs.declared.philosopher.TheConstants.{NONCRITICAL}
use Rattle.big_system.specs.Graphs.{ArePairs}
use Rattle.big_system.specs.Philosophers.{first_goes, last_goes, philosopher}

-- p0, p1 and so on
abbrev pub name_of : ℕ → List ℕ
name_of k = codes "p" ++ decimal k

abbrev pub process_of : ℕ → Process
process_of k = record { name = name_of k; role = 0; start = NONCRITICAL }

abbrev pub processes_of : ℕ → List Process
processes_of count = map process_of (range_with_len 0 count)

-- an edge of the kind that the word says: of kind 0 the one that came first goes, of kind 1 the one that came last
abbrev pub edge_by : ℕ → ℕ × ℕ → Edge
edge_by word pair = record { a = pair.0; b = pair.1; kind = word % 2 }

-- a word is drawn for each pair in order
abbrev pub edges_from : ℕ → List (ℕ × ℕ) → List Edge
edges_from word [] = []
edges_from word (pair ∷ pairs) = edge_by (next_word word) pair ∷ edges_from (next_word word) pairs

-- the words are those of caller 0
abbrev pub edges_of : ℕ → List (ℕ × ℕ) → List Edge
edges_of seed pairs = edges_from (first_state seed 0) pairs

pub record IsBigNetwork (count seed : ℕ) (net : NetworkParts) : Type 0 where
  pub roles : net.roles ≡ philosopher ∷ []
  pub kinds : net.ends ≡ (0, 0) ∷ (0, 0) ∷ []
  pub processes : net.processes ≡ processes_of count
  pub edges : (pairs : List (ℕ × ℕ)) × ArePairs count pairs × (net.edges ≡ edges_of seed pairs)

pub record IsBigSystem (count seed : ℕ) (sys : SystemParts) : Type 0 where
  pub network : IsBigNetwork count seed sys.network
  pub structures : sys.structures ≡ first_goes ∷ last_goes ∷ []
  pub system : IsSystem sys

-- The philosopher, and two pair structures of philosophers in which no two are ever in their critical sections together.
use Rattle.std.specs.Prelude.{ℕ, List, [], ◌∷◌, codes, true, false}
use Rattle.pair_structure.specs.declared.side.LocalArc.{LocalArc}
use Rattle.pair_structure.specs.declared.side.Move.{Move}
use Rattle.pair_structure.specs.declared.side.Side.TheVariants.{A, B}
use Rattle.pair_structure.specs.Role.{RoleParts}
use Rattle.pair_structure.specs.Structure.{Structure}
use Rattle.big_system.specs.declared.philosopher.TheConstants.{CRITICAL, NONCRITICAL, TRYING}

-- its arcs: it begins to try and leaves its critical section when it likes
abbrev pub philosopher_arcs : List LocalArc
philosopher_arcs =
    record { from = NONCRITICAL; to = TRYING; free = true }
    ∷ record { from = TRYING; to = CRITICAL; free = false }
    ∷ record { from = CRITICAL; to = NONCRITICAL; free = true }
    ∷ []

abbrev pub philosopher : RoleParts
philosopher = record {
  name = codes "phil";
  locals = codes "N" ∷ codes "T" ∷ codes "C" ∷ [];
  starts = NONCRITICAL ∷ [];
  arcs = philosopher_arcs;
}

-- the states of a pair; two have both trying: state 4 where side a came first, state 5 where side b did
abbrev pub pair_states : List (ℕ × ℕ)
pair_states =
    (NONCRITICAL, NONCRITICAL)
    ∷ (TRYING, NONCRITICAL)
    ∷ (NONCRITICAL, TRYING)
    ∷ (CRITICAL, NONCRITICAL)
    ∷ (TRYING, TRYING)
    ∷ (TRYING, TRYING)
    ∷ (NONCRITICAL, CRITICAL)
    ∷ (CRITICAL, TRYING)
    ∷ (TRYING, CRITICAL)
    ∷ []

abbrev pub by_a : ℕ → ℕ → Move
by_a from to = record { from = from; side = A; to = to }

abbrev pub by_b : ℕ → ℕ → Move
by_b from to = record { from = from; side = B; to = to }

-- of two that try, the one that came first goes
abbrev pub first_goes : Structure
first_goes = record {
  states = pair_states;
  moves = by_a 0 1 ∷ by_b 0 2 ∷ by_a 1 3 ∷ by_b 1 4 ∷ by_a 2 5 ∷ by_b 2 6 ∷ by_a 3 0 ∷ by_b 3 7 ∷ by_a 4 7 ∷ by_b 5 8 ∷ by_a 6 8 ∷ by_b 6 0 ∷ by_a 7 2 ∷ by_b 8 1 ∷ [];
}

-- of two that try, the one that came last goes
abbrev pub last_goes : Structure
last_goes = record {
  states = pair_states;
  moves = by_a 0 1 ∷ by_b 0 2 ∷ by_a 1 3 ∷ by_b 1 4 ∷ by_a 2 5 ∷ by_b 2 6 ∷ by_a 3 0 ∷ by_b 3 7 ∷ by_b 4 8 ∷ by_a 5 7 ∷ by_a 6 8 ∷ by_b 6 0 ∷ by_a 7 2 ∷ by_b 8 1 ∷ [];
}

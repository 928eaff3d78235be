-- The local states that firings of philosophers leave.
use Rattle.std.specs.Prelude.{ℕ, ◌<◌, List, [], ◌∷◌, slice_set}
use Rattle.pair_structure.specs.Parts.{arc_at}
use Rattle.conjunctive_compose.specs.declared.wish.Wish.{Wish}
use Rattle.firing_journal.specs.declared.journal.Entry.{Entry}
use Rattle.big_system.specs.Philosophers.{philosopher_arcs}

-- where an arc of the philosopher leads
abbrev pub goal_of : ℕ → ℕ
goal_of arc = (arc_at philosopher_arcs arc).to

abbrev pub moved : List ℕ → Wish → List ℕ
moved locals wish = slice_set locals wish.process (goal_of wish.arc)

abbrev pub locals_after : List ℕ → List Wish → List ℕ
locals_after locals [] = locals
locals_after locals (wish ∷ later) = locals_after (moved locals wish) later

-- the wish is one of so many philosophers
pub record IsPhilosophers (count : ℕ) (entry : Entry) : Type 0 where
  pub process_in : entry.wish.process < count
  pub arc_in : entry.wish.arc < 3

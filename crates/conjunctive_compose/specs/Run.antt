-- Runs.
use Rattle.std.specs.Prelude.{◌≡◌, List, [], ◌∷◌}
use Rattle.conjunctive_compose.specs.declared.wish.Wish.{Wish}
use Rattle.conjunctive_compose.specs.System.{SystemParts}
use Rattle.conjunctive_compose.specs.Whole.{WholeParts, start_of}
use Rattle.conjunctive_compose.specs.Firing.{Moves, fired}

-- the whole state that the wishes leave, fired one after another
abbrev pub whole_after : SystemParts → WholeParts → List Wish → WholeParts
whole_after sys w [] = w
whole_after sys w (wish ∷ later) = whole_after sys (fired sys w wish) later

-- each wish moves in what the ones before it leave
abbrev pub IsRun : SystemParts → WholeParts → List Wish → Type 0
IsRun sys w [] = Unit {0}
IsRun sys w (wish ∷ later) = Moves sys w wish × IsRun sys (fired sys w wish) later

-- some run from the start ends in w
abbrev pub Reaches : SystemParts → WholeParts → Type 0
Reaches sys w = (wishes : List Wish) × IsRun sys (start_of sys) wishes × (whole_after sys (start_of sys) wishes ≡ w)

-- What is joined, as a structure.
use Rattle.pair_structure.specs.Structure.{Structure}
use Rattle.unravel.specs.declared.joining.Joining.{Joining}

abbrev pub whole_of : Joining → Structure
whole_of j = record { states = j.states.items; moves = j.moves.items }

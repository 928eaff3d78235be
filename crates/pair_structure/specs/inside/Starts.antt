-- How a role keeps its starts.
use Rattle.std.specs.Prelude.{ℕ, List}
use Rattle.pair_structure.specs.declared.starts.Starts.{Starts}
use Rattle.pair_structure.specs.declared.starts.Starts.TheVariants.{One, Several}

abbrev pub starts_of : Starts → List ℕ
starts_of (One start) = start
starts_of (Several starts) = starts.items

-- The canonical text of a formula, over the names of each side's local states.
use Rattle.std.specs.Prelude.{ℕ, Bool, true, false, Option, Some, None, List, [], ◌∷◌, ◌++◌, codes}
pub use Rattle.pair_structure.specs.Parts.{Names, name_at}
use Rattle.pair_structure.specs.declared.side.Side.{Side}
use Rattle.pair_structure.specs.declared.side.Side.TheVariants.{A, B}
use Rattle.ctl_form.specs.Form.{Form, truth, falsity, at, neg, both, either, implies, next, always, sometime, until}

abbrev pub atom_text : Names → Names → Side → ℕ → List ℕ
atom_text a b A p = codes "a." ++ name_at a p
atom_text a b B p = codes "b." ++ name_at b p

abbrev pub path_letter : Bool → ℕ
path_letter true = 65
path_letter false = 69

abbrev pub until_letter : Bool → ℕ
until_letter true = 87
until_letter false = 85

abbrev pub side_letters : Option Side → List ℕ
side_letters None = []
side_letters (Some A) = codes "a"
side_letters (Some B) = codes "b"

abbrev pub formula_text : Names → Names → Form → List ℕ
formula_text a b truth = codes "true"
formula_text a b falsity = codes "false"
formula_text a b (at side p) = atom_text a b side p
formula_text a b (neg f) = codes "!" ++ formula_text a b f
formula_text a b (both f g) = codes "(" ++ formula_text a b f ++ codes " & " ++ formula_text a b g ++ codes ")"
formula_text a b (either f g) = codes "(" ++ formula_text a b f ++ codes " | " ++ formula_text a b g ++ codes ")"
formula_text a b (implies f g) = codes "(" ++ formula_text a b f ++ codes " -> " ++ formula_text a b g ++ codes ")"
formula_text a b (next all side f) = path_letter all ∷ codes "X" ++ side_letters side ++ codes " " ++ formula_text a b f
formula_text a b (always all f) = path_letter all ∷ codes "G " ++ formula_text a b f
formula_text a b (sometime all f) = path_letter all ∷ codes "F " ++ formula_text a b f
formula_text a b (until all weak f g) = path_letter all ∷ codes "[" ++ formula_text a b f ++ codes " " ++ until_letter weak ∷ codes " " ++ formula_text a b g ++ codes "]"

-- What the canonical text of a formula is promised to be: a spelling of it.
use Rattle.std.specs.Prelude.{ℕ, ◌≡◌, ◌<◌, Some, length, true}
use Rattle.pair_structure.specs.Name.{is_name}
use Rattle.pair_structure.specs.Parts.{Names, name_at}
use Rattle.pair_structure.specs.declared.side.Side.TheVariants.{A, B}
use Rattle.ctl_form.specs.Form.{Form, truth, falsity, at, neg, both, either, implies, next, always, sometime, until}
use Rattle.formula_text.specs.FormulaText.{formula_text}
use Rattle.formula_text.specs.Sets.{plain}
use Rattle.formula_text.specs.Sign.{number_of}
use Rattle.formula_text.specs.Token.{tokens_of}
use Rattle.formula_text.specs.Tree.{IsFormulaOf}

-- each of these is a name, and none of them stands twice
pub record AreNames (names : Names) : Type 0 where
  pub each_name : (p : ℕ) → p < length names → is_name (name_at names p) ≡ true
  pub each_once : (p : ℕ) → p < length names → number_of names (name_at names p) ≡ Some p

-- each local state in it is one of its side's role
abbrev pub IsOver : Names → Names → Form → Type 0
IsOver a b truth = Unit {0}
IsOver a b falsity = Unit {0}
IsOver a b (at A p) = p < length a
IsOver a b (at B p) = p < length b
IsOver a b (neg f) = IsOver a b f
IsOver a b (both f g) = IsOver a b f × IsOver a b g
IsOver a b (either f g) = IsOver a b f × IsOver a b g
IsOver a b (implies f g) = IsOver a b f × IsOver a b g
IsOver a b (next all side f) = IsOver a b f
IsOver a b (always all f) = IsOver a b f
IsOver a b (sometime all f) = IsOver a b f
IsOver a b (until all weak f g) = IsOver a b f × IsOver a b g

-- the canonical text of a formula over two roles' names is a spelling of it
abbrev pub CanonicalIsFormula : Type 0
CanonicalIsFormula = (a b : Names) (f : Form) → AreNames a → AreNames b → IsOver a b f → IsFormulaOf (plain a) (plain b) (tokens_of (formula_text a b f)) f

-- The grammar of formulas: what is spelled, by which signs, and where each spelling may stand.
use Rattle.std.specs.Prelude.{ℕ, ◌≡◌, ◌≤◌, Bool, true, false, None, List, [], ◌∷◌, ◌++◌}
use Rattle.ctl_form.specs.Form.{Form, truth, falsity, at, neg, both, either, implies, next, always, sometime, until}
use Rattle.std.specs.List.{list_all}
use Rattle.std.specs.Option.{unwrap_or}
use Rattle.formula_text.specs.Sets.{Atoms, signs_over}
use Rattle.formula_text.specs.declared.formula_fault.FormulaFault.{FormulaFault}
use Rattle.formula_text.specs.declared.formula_fault.FormulaFault.TheVariants.{Outside, Unknown, Memory}
use Rattle.formula_text.specs.declared.sign.Leaf.{Leaf}
use Rattle.formula_text.specs.declared.sign.Leaf.TheVariants.{Yes, No, At}
use Rattle.formula_text.specs.declared.sign.Mark.TheVariants.{And, Or, Arrow, Close, Left, Right}
use Rattle.formula_text.specs.declared.sign.Prefix.{Prefix}
use Rattle.formula_text.specs.declared.sign.Prefix.TheVariants.{Not, Next, Always, Sometime}
use Rattle.formula_text.specs.declared.sign.Sign.{Sign}
use Rattle.formula_text.specs.declared.sign.Sign.TheVariants.{Alone, Before, Open, Behind, Path, Until}

-- a spelling of a formula, with the round parentheses that stand in it
pub data Tree : Type 0 where
  leaf : Leaf → Tree
  prefixed : Prefix → Tree → Tree
  grouped : Tree → Tree
  conjunction : Tree → Tree → Tree
  disjunction : Tree → Tree → Tree
  implication : Tree → Tree → Tree
  waits : Bool → Bool → Tree → Tree → Tree

-- the signs that spell it
abbrev pub signs : Tree → List Sign
signs (leaf l) = Alone l ∷ []
signs (prefixed p f) = Before p ∷ signs f
signs (grouped f) = Open ∷ (signs f ++ (Behind Close ∷ []))
signs (conjunction f g) = signs f ++ (Behind And ∷ signs g)
signs (disjunction f g) = signs f ++ (Behind Or ∷ signs g)
signs (implication f g) = signs f ++ (Behind Arrow ∷ signs g)
signs (waits all weak f g) = Path all ∷ Behind Left ∷ (signs f ++ (Until weak ∷ (signs g ++ (Behind Right ∷ []))))

-- the spelling may stand where the grammar has: 0 a formula, 1 an or, 2 an and, 3 a unary
abbrev pub Fits : ℕ → Tree → Type 0
Fits n (leaf l) = Unit {0}
Fits n (prefixed p f) = Fits 3 f
Fits n (grouped f) = Fits 0 f
Fits n (conjunction f g) = (n ≤ 2) × Fits 2 f × Fits 3 g
Fits n (disjunction f g) = (n ≤ 1) × Fits 1 f × Fits 2 g
Fits n (implication f g) = (n ≤ 0) × Fits 1 f × Fits 0 g
Fits n (waits all weak f g) = Fits 0 f × Fits 0 g

-- a name that the role does not have counts as the local state 0 here
abbrev pub leaf_form : Leaf → Form
leaf_form Yes = truth
leaf_form No = falsity
leaf_form (At side local) = at side (unwrap_or local 0)

abbrev pub prefix_form : Prefix → Form → Form
prefix_form Not f = neg f
prefix_form (Next all side) f = next all side f
prefix_form (Always all) f = always all f
prefix_form (Sometime all) f = sometime all f

-- the formula that is spelled: parentheses are left out
abbrev pub tree_form : Tree → Form
tree_form (leaf l) = leaf_form l
tree_form (prefixed p f) = prefix_form p (tree_form f)
tree_form (grouped f) = tree_form f
tree_form (conjunction f g) = both (tree_form f) (tree_form g)
tree_form (disjunction f g) = either (tree_form f) (tree_form g)
tree_form (implication f g) = implies (tree_form f) (tree_form g)
tree_form (waits all weak f g) = until all weak (tree_form f) (tree_form g)

-- the signs are a spelling of the formula: some tree that may stand as a formula is spelled by them
pub record Spells (ss : List Sign) (f : Form) : Type 0 where
  pub tree : Tree
  pub spells : ss ≡ signs tree
  pub fits : Fits 0 tree
  pub means : tree_form tree ≡ f

-- a name is one of its side's role
abbrev pub is_known_leaf : Leaf → Bool
is_known_leaf (At side None) = false
is_known_leaf _ = true

abbrev pub is_known : Sign → Bool
is_known (Alone l) = is_known_leaf l
is_known _ = true

abbrev pub AreKnown : List Sign → Type 0
AreKnown ss = list_all is_known ss ≡ true

-- the tokens are a spelling of the formula, and each name in them is known
pub record IsFormulaOf (a b : Atoms) (tokens : List (List ℕ)) (f : Form) : Type 0 where
  pub spelled : Spells (signs_over a b tokens) f
  pub known : AreKnown (signs_over a b tokens)

-- why tokens are no formula: they spell none, or one in which a name is unknown
abbrev pub FaultStands : Atoms → Atoms → List (List ℕ) → FormulaFault → Type 0
FaultStands a b tokens Outside = (f : Form) → Spells (signs_over a b tokens) f → ⊥
FaultStands a b tokens Unknown = ((f : Form) × Spells (signs_over a b tokens) f) × (AreKnown (signs_over a b tokens) → ⊥)
FaultStands a b tokens Memory = Unit {0}

-- signs spell one formula at most
abbrev pub IsSpelledOnce : Type 0
IsSpelledOnce = (ss : List Sign) (f g : Form) → Spells ss f → Spells ss g → f ≡ g

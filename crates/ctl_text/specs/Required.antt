-- What the words behind `require` spell.
use Rattle.std.specs.Prelude.{ℕ, List}
use Rattle.std.specs.List.{flat_map}
use Rattle.pair_structure.specs.Role.{RoleParts}
use Rattle.ctl_form.specs.Form.{Form}
use Rattle.ctl_form.specs.Kind.{whole_forms}
use Rattle.ctl_form.specs.Numbered.{IsTooLarge}
use Rattle.formula_text.specs.Token.{tokens_of}
use Rattle.formula_text.specs.Sets.{Atoms, signs_over}
use Rattle.formula_text.specs.Tree.{Spells, AreKnown}

-- the tokens of the words, in their order
abbrev pub tokens_in : List (List ℕ) → List (List ℕ)
tokens_in words = flat_map tokens_of words

-- tokens spell the formula over what the atoms of the two sides may name; unknown names count as the local state 0
abbrev pub SpellsOver : Atoms → Atoms → List (List ℕ) → Form → Type 0
SpellsOver a b tokens form = Spells (signs_over a b tokens) form

-- each name in the tokens is one that its side's atoms may name
abbrev pub AreKnownOver : Atoms → Atoms → List (List ℕ) → Type 0
AreKnownOver a b tokens = AreKnown (signs_over a b tokens)

-- the tokens spell no formula
abbrev pub IsUnspelled : Atoms → Atoms → List (List ℕ) → Type 0
IsUnspelled a b tokens = (form : Form) → SpellsOver a b tokens form → ⊥

-- the closure of a kind over these roles with these clauses has more than MAX_MEMBERS members
abbrev pub IsClosureOver : RoleParts → RoleParts → List Form → Type 0
IsClosureOver a b clauses = IsTooLarge (whole_forms a b clauses)

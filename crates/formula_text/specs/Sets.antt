-- Sets of local states, and what an atom of one stands for.
use Rattle.std.specs.Prelude.{ℕ, Option, Some, None, List, [], ◌∷◌, ◌++◌, if◌then◌else◌}
use Rattle.std.specs.List.{flat_map}
use Rattle.std.specs.Str.{bytes_eq}
use Rattle.pair_structure.specs.Parts.{Names}
use Rattle.pair_structure.specs.declared.side.Side.{Side}
use Rattle.pair_structure.specs.declared.side.Side.TheVariants.{A, B}
use Rattle.formula_text.specs.declared.sign.Mark.TheVariants.{Or, Close}
use Rattle.formula_text.specs.declared.sign.Sign.{Sign}
use Rattle.formula_text.specs.declared.sign.Sign.TheVariants.{Open, Behind}
use Rattle.formula_text.specs.Sign.{atom_sign, behind_dot, sign_of}

-- a set: its name, and the names of its members in their order
pub record SetParts : Type 0 where
  pub name : List ℕ
  pub members : List (List ℕ)

-- what the atoms of a side may name: the local states of its role, and the role's sets
pub record Atoms : Type 0 where
  pub locals : Names
  pub sets : List SetParts

-- local states without sets
abbrev pub plain : Names → Atoms
plain names = record { locals = names; sets = [] }

-- the members of the set of this name
abbrev pub members_of : List SetParts → List ℕ → Option (List (List ℕ))
members_of [] name = None
members_of (set ∷ sets) name = if bytes_eq set.name name then Some set.members else members_of sets name

abbrev pub members_named : List SetParts → Option (List ℕ) → Option (List (List ℕ))
members_named sets None = None
members_named sets (Some name) = members_of sets name

-- the members of the set that the token names behind this letter and a dot
abbrev pub members_at : ℕ → List SetParts → List ℕ → Option (List (List ℕ))
members_at letter sets token = members_named sets (behind_dot letter token)

-- the atoms of members that stand behind another, each with its `|`
abbrev pub joined_signs : Side → Names → List (List ℕ) → List Sign
joined_signs side names members = flat_map (λ member. Behind Or ∷ atom_sign side names member ∷ []) members

-- the atoms of the members in their order, with a `|` between two
abbrev pub member_signs : Side → Names → List (List ℕ) → List Sign
member_signs side names [] = []
member_signs side names (member ∷ members) = atom_sign side names member ∷ joined_signs side names members

-- the disjunction of the members' atoms, in round parentheses; the grammar groups it to the left
abbrev pub set_signs : Side → Names → List (List ℕ) → List Sign
set_signs side names members = Open ∷ (member_signs side names members ++ (Behind Close ∷ []))

abbrev pub set_or : Side → Names → Option (List (List ℕ)) → List Sign → List Sign
set_or side names None otherwise = otherwise
set_or side names (Some members) otherwise = set_signs side names members

-- what a token says: an atom of a set the disjunction of its members' atoms, another token its one sign; 97 is 'a', 98 is 'b'
abbrev pub token_signs : Atoms → Atoms → List ℕ → List Sign
token_signs a b token = set_or A a.locals (members_at 97 a.sets token) (set_or B b.locals (members_at 98 b.sets token) (sign_of a.locals b.locals token ∷ []))

-- what tokens say over what the atoms of two sides may name
abbrev pub signs_over : Atoms → Atoms → List (List ℕ) → List Sign
signs_over a b tokens = flat_map (token_signs a b) tokens

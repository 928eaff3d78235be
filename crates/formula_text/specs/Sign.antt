-- What a token says in a formula over the names of two roles' local states.
use Rattle.std.specs.Prelude.{ℕ, Bool, true, false, Option, Some, None, List, [], ◌∷◌, ◌==◌, ◌&&◌, codes, map, position, if◌then◌else◌}
use Rattle.std.specs.Str.{bytes_eq}
use Rattle.pair_structure.specs.Name.{is_name}
pub use Rattle.pair_structure.specs.Parts.{Names}
use Rattle.pair_structure.specs.declared.side.Side.{Side}
use Rattle.pair_structure.specs.declared.side.Side.TheVariants.{A, B}
use Rattle.formula_text.specs.declared.sign.Leaf.TheVariants.{Yes, No, At}
use Rattle.formula_text.specs.declared.sign.Mark.TheVariants.{And, Or, Arrow, Close, Left, Right}
use Rattle.formula_text.specs.declared.sign.Prefix.TheVariants.{Not, Next, Always, Sometime}
use Rattle.formula_text.specs.declared.sign.Sign.{Sign}
use Rattle.formula_text.specs.declared.sign.Sign.TheVariants.{Alone, Before, Open, Behind, Path, Until, Other}

-- the tokens that say the same whatever the names are
abbrev pub path_words : Bool → List (List ℕ × Sign)
path_words all =
    (codes "", Path all) ∷
    (codes "X", Before (Next all None)) ∷
    (codes "Xa", Before (Next all (Some A))) ∷
    (codes "Xb", Before (Next all (Some B))) ∷
    (codes "G", Before (Always all)) ∷
    (codes "F", Before (Sometime all)) ∷
    []

abbrev pub words : List (List ℕ × Sign)
words =
    (codes "true", Alone Yes) ∷
    (codes "false", Alone No) ∷
    (codes "!", Before Not) ∷
    (codes "(", Open) ∷
    (codes "U", Until false) ∷
    (codes "W", Until true) ∷
    []

abbrev pub marks : List (List ℕ × Sign)
marks =
    (codes "&", Behind And) ∷
    (codes "|", Behind Or) ∷
    (codes "->", Behind Arrow) ∷
    (codes ")", Behind Close) ∷
    (codes "[", Behind Left) ∷
    (codes "]", Behind Right) ∷
    []

-- the sign that stands beside the token there, or else the other
abbrev pub said_in : List (List ℕ × Sign) → Sign → List ℕ → Sign
said_in [] otherwise token = otherwise
said_in (row ∷ rows) otherwise token = if bytes_eq token row.0 then row.1 else said_in rows otherwise token

-- 65 is 'A', 69 is 'E'
abbrev pub word_sign : List ℕ → Sign
word_sign [] = Other
word_sign (first ∷ rest) =
    if first == 65 then said_in (path_words true) Other rest
    else if first == 69 then said_in (path_words false) Other rest
    else said_in words (said_in marks Other (first ∷ rest)) (first ∷ rest)

-- the number of a name among these
abbrev pub number_of : Names → List ℕ → Option ℕ
number_of names name = position (λ x. bytes_eq x name) names

-- what stands behind this letter and a dot (46)
abbrev pub behind_dot : ℕ → List ℕ → Option (List ℕ)
behind_dot letter [] = None
behind_dot letter (first ∷ []) = None
behind_dot letter (first ∷ dot ∷ name) = if first == letter && dot == 46 then Some name else None

abbrev pub atom_sign : Side → Names → List ℕ → Sign
atom_sign side names name = if is_name name then Alone (At side (number_of names name)) else Other

abbrev pub atom_or : Side → Names → Option (List ℕ) → Sign → Sign
atom_or side names None otherwise = otherwise
atom_or side names (Some name) otherwise = atom_sign side names name

-- 97 is 'a', 98 is 'b'
abbrev pub sign_of : Names → Names → List ℕ → Sign
sign_of a b token = atom_or A a (behind_dot 97 token) (atom_or B b (behind_dot 98 token) (word_sign token))

-- what tokens say where no atom names a set
abbrev pub signs_of : Names → Names → List (List ℕ) → List Sign
signs_of a b tokens = map (sign_of a b) tokens

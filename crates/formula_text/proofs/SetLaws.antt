-- What tokens say and count where their atoms may name sets.
use Rattle.std.proofs.Common.{ℕ, zero, suc, ◌≡◌, ◌<◌, ◌+◌, cond, Option, Some, None, List, [], ◌∷◌, ◌++◌, length, get_or, drop, map, refl, ap, ◌∙◌, arith}
use Rattle.std.proofs.lemmas.List.Sums.{sum_by-cons}
use Rattle.std.specs.List.{sum_by}
use Rattle.std.specs.Str.{bytes_eq}
use Rattle.pair_structure.specs.Parts.{Names}
use Rattle.pair_structure.specs.declared.side.Side.{Side}
use Rattle.pair_structure.specs.declared.side.Side.TheVariants.{A, B}
use Rattle.formula_text.specs.declared.sign.Mark.TheVariants.{Or, Close}
use Rattle.formula_text.specs.declared.sign.Sign.{Sign}
use Rattle.formula_text.specs.declared.sign.Sign.TheVariants.{Open, Behind}
use Rattle.formula_text.specs.Long.{weight_of}
use Rattle.formula_text.specs.Sets.{SetParts, plain, members_named, members_of, joined_signs, member_signs, set_or, signs_over, token_signs}
use Rattle.formula_text.specs.Sign.{atom_sign, behind_dot, sign_of, signs_of}

-- the first set that is left has the name, or those behind it are looked through
pub members_next : (sets : List SetParts) (i : ℕ) (d : SetParts) (name : List ℕ) → i < length sets → members_of (drop i sets) name ≡ cond (bytes_eq (get_or sets i d).name name) (Some (get_or sets i d).members) (members_of (drop (i + 1) sets) name)
members_next [] i d name lt = absurd (omega arith)
members_next (s ∷ sets) zero d name lt = refl
members_next (s ∷ sets) (suc i) d name lt = let next : suc i + 1 ≡ suc (i + 1) = omega arith in rw next (members_next sets i d name (omega arith))

none_named : (name : Option (List ℕ)) → members_named [] name ≡ None
none_named None = refl
none_named (Some name) = refl

-- where no set is, a token says its one sign
plain_token : (a b : Names) (token : List ℕ) → token_signs (plain a) (plain b) token ≡ sign_of a b token ∷ []
plain_token a b token =
    let first = none_named (behind_dot 97 token) in
    let second = none_named (behind_dot 98 token) in
    ap (λ found. set_or A a found (set_or B b (members_named [] (behind_dot 98 token)) (sign_of a b token ∷ []))) first ∙ ap (λ found. set_or B b found (sign_of a b token ∷ [])) second

pub plain_signs : (a b : Names) (tokens : List (List ℕ)) → signs_over (plain a) (plain b) tokens ≡ signs_of a b tokens
plain_signs a b [] = refl
plain_signs a b (t ∷ ts) = ap (λ ss. ss ++ signs_over (plain a) (plain b) ts) (plain_token a b t) ∙ ap (λ ss. sign_of a b t ∷ ss) (plain_signs a b ts)

pub weight_next : {X : Type 0} (a b : List SetParts) (f : X → List ℕ) (xs : List X) (i : ℕ) (d : X) → i < length xs → sum_by (weight_of a b) (drop i (map f xs)) ≡ weight_of a b (f (get_or xs i d)) + sum_by (weight_of a b) (drop (i + 1) (map f xs))
weight_next a b f [] i d lt = absurd (omega arith)
weight_next a b f (x ∷ xs) zero d lt = sum_by-cons (weight_of a b) (f x) (map f xs)
weight_next a b f (x ∷ xs) (suc i) d lt = let next : suc i + 1 ≡ suc (i + 1) = omega arith in rw next (weight_next a b f xs i d (omega arith))

-- it is true of each sign
abbrev pub Each : (Sign → Type 0) → List Sign → Type 0
Each P [] = Unit {0}
Each P (s ∷ ss) = P s × Each P ss

pub each_append : (P : Sign → Type 0) (ss ts : List Sign) → Each P ss → Each P ts → Each P (ss ++ ts)
each_append P [] ts one two = two
each_append P (s ∷ ss) ts one two = (one.0, each_append P ss ts one.1 two)

joined_each : (P : Sign → Type 0) (side : Side) (names : Names) (members : List (List ℕ)) → P (Behind Or) → ((m : List ℕ) → P (atom_sign side names m)) → Each P (joined_signs side names members)
joined_each P side names [] bar atom = tt
joined_each P side names (m ∷ ms) bar atom = (bar, (atom m, joined_each P side names ms bar atom))

member_each : (P : Sign → Type 0) (side : Side) (names : Names) (members : List (List ℕ)) → P (Behind Or) → ((m : List ℕ) → P (atom_sign side names m)) → Each P (member_signs side names members)
member_each P side names [] bar atom = tt
member_each P side names (m ∷ ms) bar atom = (atom m, joined_each P side names ms bar atom)

-- what is true of round parentheses, of `|` and of atoms is true of all that a set's atom says
pub set_or_each : (P : Sign → Type 0) (side : Side) (names : Names) (found : Option (List (List ℕ))) (otherwise : List Sign) → P Open → P (Behind Close) → P (Behind Or) → ((m : List ℕ) → P (atom_sign side names m)) → Each P otherwise → Each P (set_or side names found otherwise)
set_or_each P side names None otherwise left right bar atom rest = rest
set_or_each P side names (Some members) otherwise left right bar atom rest = (left, each_append P (member_signs side names members) (Behind Close ∷ []) (member_each P side names members bar atom) (right, tt))

-- What the sign of a token keeps, whatever the token is.
use Rattle.std.proofs.Common.{ℕ, ◌≡◌, ◌<◌, Bool, true, false, cond, ◌==◌, Option, Some, None, List, [], ◌∷◌, length, refl}
use Rattle.std.proofs.lemmas.List.Quantifiers.{position-Some}
use Rattle.std.specs.Str.{bytes_eq}
use Rattle.pair_structure.specs.Name.{is_name}
use Rattle.pair_structure.specs.Parts.{Names}
use Rattle.pair_structure.specs.declared.side.Side.{Side}
use Rattle.formula_text.specs.declared.sign.Leaf.TheVariants.{At}
use Rattle.formula_text.specs.declared.sign.Sign.{Sign}
use Rattle.formula_text.specs.declared.sign.Sign.TheVariants.{Alone, Other}
use Rattle.formula_text.specs.Sign.{path_words, words, marks, said_in, word_sign, number_of, atom_sign, atom_or}

-- where the token is that of a row, the row's sign keeps it
abbrev pub RowsKeep : (Sign → Type 0) → List ℕ → List (List ℕ × Sign) → Type 0
RowsKeep P token [] = Unit {0}
RowsKeep P token (row ∷ rows) = (bytes_eq token row.0 ≡ true → P row.1) × RowsKeep P token rows

chosen : (P : Sign → Type 0) (b : Bool) (s t : Sign) → (b ≡ true → P s) → P t → P (cond b s t)
chosen P true s t held other = held refl
chosen P false s t held other = other

said_kept : (P : Sign → Type 0) (token : List ℕ) (rows : List (List ℕ × Sign)) (otherwise : Sign) → RowsKeep P token rows → P otherwise → P (said_in rows otherwise token)
said_kept P token [] otherwise rows_keep other = other
said_kept P token (row ∷ rows) otherwise rows_keep other = chosen P (bytes_eq token row.0) row.1 (said_in rows otherwise token) rows_keep.0 (said_kept P token rows otherwise rows_keep.1 other)

pub word_kept : (P : Sign → Type 0) (token : List ℕ) → P Other → ((all : Bool) (rest : List ℕ) → RowsKeep P rest (path_words all)) → RowsKeep P token words → RowsKeep P token marks → P (word_sign token)
word_kept P [] other of_path of_words of_marks = other
word_kept P (first ∷ rest) other of_path of_words of_marks =
    chosen P (first == 65) (said_in (path_words true) Other rest) (cond (first == 69) (said_in (path_words false) Other rest) (said_in words (said_in marks Other (first ∷ rest)) (first ∷ rest)))
    (λ e. said_kept P rest (path_words true) Other (of_path true rest) other)
    (chosen P (first == 69) (said_in (path_words false) Other rest) (said_in words (said_in marks Other (first ∷ rest)) (first ∷ rest)) (λ e. said_kept P rest (path_words false) Other (of_path false rest) other)
    (said_kept P (first ∷ rest) words (said_in marks Other (first ∷ rest)) of_words (said_kept P (first ∷ rest) marks Other of_marks other)))

pub number_below : (names : Names) (name : List ℕ) (n : ℕ) → number_of names name ≡ Some n → n < length names
number_below names name n e = (position-Some (λ x. bytes_eq x name) names n [] e).0

pub atom_kept : (P : Sign → Type 0) (side : Side) (names : Names) (name : List ℕ) → P Other → P (Alone (At side (number_of names name))) → P (atom_sign side names name)
atom_kept P side names name other atom = chosen P (is_name name) (Alone (At side (number_of names name))) Other (λ e. atom) other

pub atom_or_kept : (P : Sign → Type 0) (side : Side) (names : Names) (found : Option (List ℕ)) (otherwise : Sign) → P Other → ((name : List ℕ) → P (Alone (At side (number_of names name)))) → P otherwise → P (atom_or side names found otherwise)
atom_or_kept P side names None otherwise other atom rest = rest
atom_or_kept P side names (Some name) otherwise other atom rest = atom_kept P side names name other (atom name)

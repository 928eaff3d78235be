-- What a line of a certificate says.
use Rattle.std.specs.Prelude.{ℕ, ◌≡◌, ◌<◌, ◌≤◌, ◌^◌, List, [], ◌∷◌, ◌++◌, All, codes, decimal, length, map}
use Rattle.pair_structure.specs.Name.{IsName}
use Rattle.pair_structure.specs.declared.side.Side.{Side}
use Rattle.pair_structure.specs.declared.side.Side.TheVariants.{A, B}

-- a label by name: the name of a kind, and the centre's side
abbrev pub NamedLabel : Type 0
NamedLabel = List ℕ × Side

-- the kinds of lines
pub data Said : Type 0 where
  head_line : Said
  star_line : List ℕ → List NamedLabel → Said
  member_line : List ℕ → Said
  end_line : Said
  done_line : Said

-- behind the kind's name stand a dot and the side
abbrev pub side_text : Side → List ℕ
side_text A = codes ".a"
side_text B = codes ".b"

abbrev pub label_text : NamedLabel → List ℕ
label_text label = label.0 ++ side_text label.1

-- the words that say it
abbrev pub words_for : Said → List (List ℕ)
words_for head_line = codes "certificate" ∷ codes "1" ∷ []
words_for (star_line role labels) = codes "star" ∷ role ∷ map label_text labels
words_for (member_line states) = codes "member" ∷ map decimal states
words_for end_line = codes "end" ∷ []
words_for done_line = codes "done" ∷ []

-- the kind is spelled as a name
abbrev pub IsSpelledLabel : NamedLabel → Type 0
IsSpelledLabel label = IsName label.0

-- names are spelled as such, and there are 1 to 32 labels
pub record IsSpelledStar (role : List ℕ) (labels : List NamedLabel) : Type 0 where
  pub name : IsName role
  pub some : 0 < length labels
  pub few : length labels ≤ 32
  pub kinds : All IsSpelledLabel labels

-- a number that a text may have
abbrev pub IsShort : ℕ → Type 0
IsShort n = n < 2 ^ 64

-- each name of it is spelled as a name, and each number may stand in a text
abbrev pub IsSpelled : Said → Type 0
IsSpelled (star_line role labels) = IsSpelledStar role labels
IsSpelled (member_line states) = All IsShort states
IsSpelled item = Unit {0}

-- the words say it
pub record Says (words : List (List ℕ)) (item : Said) : Type 0 where
  pub words_are : words ≡ words_for item
  pub spelled : IsSpelled item

-- What a line of a solution says.
use Rattle.std.specs.Prelude.{ℕ, ◌≡◌, ◌<◌, ◌^◌, List, [], ◌∷◌, codes, decimal}
use Rattle.pair_structure.specs.Name.{IsName}
use Rattle.pair_structure.specs.declared.side.Side.{Side}
use Rattle.pair_structure.specs.declared.side.Side.TheVariants.{A, B}
use Rattle.pair_structure.specs.declared.side.Move.{Move}

-- the kinds of lines
pub data Said : Type 0 where
  head_line : Said
  kind_line : List ℕ → Said
  state_line : List ℕ → List ℕ → Said
  move_line : Move → Said
  end_line : Said
  done_line : Said

abbrev pub side_word : Side → List ℕ
side_word A = codes "a"
side_word B = codes "b"

-- the words that say it
abbrev pub words_for : Said → List (List ℕ)
words_for head_line = codes "solution" ∷ codes "1" ∷ []
words_for (kind_line name) = codes "kind" ∷ name ∷ []
words_for (state_line p q) = codes "state" ∷ p ∷ q ∷ []
words_for (move_line move) = codes "move" ∷ decimal move.from ∷ side_word move.side ∷ decimal move.to ∷ []
words_for end_line = codes "end" ∷ []
words_for done_line = codes "done" ∷ []

-- both ends of the move are numbers that a text may have
pub record IsShort (move : Move) : Type 0 where
  pub from : move.from < 2 ^ 64
  pub to : move.to < 2 ^ 64

-- the words are the text of this move
pub record IsMoveText (from side to : List ℕ) (move : Move) : Type 0 where
  pub from_is : from ≡ decimal move.from
  pub side_is : side ≡ side_word move.side
  pub to_is : to ≡ decimal move.to
  pub short : IsShort move

-- each name of it is spelled as a name, and each number may stand in a text
abbrev pub IsSpelled : Said → Type 0
IsSpelled (kind_line name) = IsName name
IsSpelled (state_line p q) = IsName p × IsName q
IsSpelled (move_line move) = IsShort move
IsSpelled item = Unit {0}

-- the words say it
pub record Says (words : List (List ℕ)) (item : Said) : Type 0 where
  pub words_are : words ≡ words_for item
  pub spelled : IsSpelled item

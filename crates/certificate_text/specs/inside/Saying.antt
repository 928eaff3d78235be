-- What a line of the program says, and what words write.
use Rattle.std.specs.Prelude.{ℕ, ◌≡◌, ◌≤◌, Option, List, All, MatchOption, decimal, length, map}
use Rattle.certificate_text.specs.declared.item.Item.{Item}
use Rattle.certificate_text.specs.declared.item.Item.TheVariants.{Head, Star, Member, End, Done}
use Rattle.certificate_text.specs.declared.item.Label.{Label}
use Rattle.certificate_text.specs.Item.{IsShort, IsSpelledLabel, NamedLabel, Said, head_line, star_line, member_line, end_line, done_line, label_text, Says}

abbrev pub named : Label → NamedLabel
named label = (label.kind.now, label.side)

abbrev pub names_of : List Label → List NamedLabel
names_of labels = map named labels

abbrev pub said : Item → Said
said Head = head_line
said (Star role labels) = star_line role.now (names_of labels.items)
said (Member states) = member_line states.items
said End = end_line
said Done = done_line

-- what the words say, if they say something
abbrev pub IsSaid : List (List ℕ) → Option Item → Type 0
IsSaid words item = MatchOption item ((x : Said) → Says words x → ⊥) (λ item. Says words (said item))

-- the words write these numbers
pub record AreNumbers (words : List (List ℕ)) (ns : List ℕ) : Type 0 where
  pub words_are : words ≡ map decimal ns
  pub short : All IsShort ns

-- the word writes this label
pub record IsLabelWord (word : List ℕ) (label : NamedLabel) : Type 0 where
  pub word_is : word ≡ label_text label
  pub spelled : IsSpelledLabel label

-- the words write these labels
pub record AreLabels (words : List (List ℕ)) (labels : List NamedLabel) : Type 0 where
  pub words_are : words ≡ map label_text labels
  pub few : length labels ≤ 32
  pub spelled : All IsSpelledLabel labels

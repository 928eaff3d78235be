-- What a line of a specification says.
use Rattle.std.specs.Prelude.{ℕ, ◌≡◌, Bool, true, false, Option, Some, None, IfSome, List, [], ◌∷◌, codes, ◌<◌, length, All}
use Rattle.pair_structure.specs.Name.{IsName}
use Rattle.ctl_form.specs.Form.{Form}
use Rattle.ctl_text.specs.declared.format.Format.{Format}
use Rattle.ctl_text.specs.Format.{format_number}

-- the kinds of lines; a clause that is required comes with the words behind `require`, a process with the local state where it begins, if
-- that is named
pub data Said : Type 0 where
  head_line : Format → Said
  role_line : List ℕ → Said
  local_line : List ℕ → Said
  start_line : List ℕ → Said
  set_line : List ℕ → List (List ℕ) → Said
  arc_line : List ℕ → List ℕ → Bool → Said
  kind_line : List ℕ → List ℕ → List ℕ → Said
  require_line : List (List ℕ) → Form → Said
  end_line : Said
  process_line : List ℕ → List ℕ → Option (List ℕ) → Said
  edge_line : List ℕ → List ℕ → List ℕ → Said
  done_line : Said

-- the words that say it
abbrev pub words_for : Said → List (List ℕ)
words_for (head_line format) = codes "pairs" ∷ format_number format ∷ []
words_for (role_line name) = codes "role" ∷ name ∷ []
words_for (local_line name) = codes "local" ∷ name ∷ []
words_for (start_line name) = codes "start" ∷ name ∷ []
words_for (set_line name members) = codes "set" ∷ name ∷ members
words_for (arc_line from to false) = codes "arc" ∷ from ∷ to ∷ []
words_for (arc_line from to true) = codes "arc" ∷ from ∷ to ∷ codes "free" ∷ []
words_for (kind_line name a b) = codes "kind" ∷ name ∷ a ∷ b ∷ []
words_for (require_line words form) = codes "require" ∷ words
words_for end_line = codes "end" ∷ []
words_for (process_line name r None) = codes "process" ∷ name ∷ r ∷ []
words_for (process_line name r (Some start)) = codes "process" ∷ name ∷ r ∷ start ∷ []
words_for (edge_line p q kind) = codes "edge" ∷ p ∷ q ∷ kind ∷ []
words_for done_line = codes "done" ∷ []

-- each name of it is spelled as a name, and a set has a member
abbrev pub IsSpelled : Said → Type 0
IsSpelled (role_line name) = IsName name
IsSpelled (local_line name) = IsName name
IsSpelled (start_line name) = IsName name
IsSpelled (set_line name members) = IsName name × (0 < length members) × All IsName members
IsSpelled (arc_line from to free) = IsName from × IsName to
IsSpelled (kind_line name a b) = IsName name × IsName a × IsName b
IsSpelled (process_line name r start) = IsName name × IsName r × IfSome start IsName
IsSpelled (edge_line p q kind) = IsName p × IsName q × IsName kind
IsSpelled item = Unit {0}

-- the words say it
pub record Says (words : List (List ℕ)) (item : Said) : Type 0 where
  pub words_are : words ≡ words_for item
  pub spelled : IsSpelled item

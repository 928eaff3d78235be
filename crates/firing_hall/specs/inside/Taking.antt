-- Passes that are handed back, one after another.
use Rattle.std.specs.Prelude.{ℕ, ◌≡◌, ◌≤◌, ◌+◌, List, [], ◌∷◌, length, map, vec_capacity}
use Rattle.conjunctive_compose.specs.System.{SystemParts}
use Rattle.firing_words.specs.declared.view.Track.{Track}
use Rattle.firing_words.specs.declared.view.View.{View}
use Rattle.firing_words.specs.Lists.{Has}
use Rattle.firing_words.specs.Telling.{AreTold}
use Rattle.firing_words.specs.Views.{callers_of}
use Rattle.firing_journal.specs.Report.{list_by, told_of}
use Rattle.firing_journal.specs.declared.asked.Asked.{Asked}
use Rattle.firing_hall.specs.declared.pass.Pass.{Pass}
use Rattle.firing_hall.specs.declared.blank.Blank.{Blank}

-- the lists of the view's callers are told of their tracks
abbrev pub AreTaken : SystemParts → View → List (List Asked) → Type 0
AreTaken sys v lists = (c : ℕ) → Has c (callers_of v) → (t : Track) × Has t v.tracks × (t.caller ≡ c) × AreTold sys t.items (map told_of (list_by lists c))

-- the pass is one of these callers', and its list stands at its caller's number
abbrev pub IsListed : List ℕ → List (List Asked) → Pass → Type 0
IsListed callers lists pass = Has pass.caller callers × (list_by lists pass.caller ≡ pass.asked.items)

-- how many replies stand in the lists
abbrev pub total : List (List Asked) → ℕ
total [] = 0
total (l ∷ ls) = length l + total ls

-- how many replies the passes keep
abbrev pub kept_in : List Pass → ℕ
kept_in [] = 0
kept_in (p ∷ ps) = length p.asked.items + kept_in ps

-- the memory of a report of so many callers with nothing in it, and room for n entries
pub record IsBlank (callers n : ℕ) (blank : Blank) : Type 0 where
  pub size : length blank.lists.items ≡ callers
  pub nothing : total (map (λ v. v.items) blank.lists.items) ≡ 0
  pub no_entries : blank.entries.items ≡ []
  pub space : n ≤ vec_capacity blank.entries

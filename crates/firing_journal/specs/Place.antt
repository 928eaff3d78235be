-- How far a journal's text has come, and which line may stand there.
use Rattle.std.specs.Prelude.{◌≡◌, ◌∷◌, ◌++◌, List, [], length}
use Rattle.firing_journal.specs.declared.journal.Entry.{Entry}
use Rattle.firing_journal.specs.Said.{Said, head_line, entry_line, done_line}

-- before the head; below these entries; after `done`, with all entries
pub data Place : Type 0 where
  before_head : Place
  among_entries : List Entry → Place
  after_done : List Entry → Place

-- the head, then entries numbered from 0, then `done`
abbrev pub MayStand : Place → Said → Type 0
MayStand before_head head_line = Unit {0}
MayStand (among_entries entries) (entry_line entry) = entry.number ≡ length entries
MayStand (among_entries entries) done_line = Unit {0}
MayStand place said = ⊥

-- where a line that may stand there leaves the text
abbrev pub after_line : Place → Said → Place
after_line before_head head_line = among_entries []
after_line (among_entries entries) (entry_line entry) = among_entries (entries ++ entry ∷ [])
after_line (among_entries entries) done_line = after_done entries
after_line place said = place

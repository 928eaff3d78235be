-- Why a line of a journal is refused: each cause with the rule that the line breaks.
use Rattle.std.specs.Prelude.{◌≡◌, ◌≢◌}
use Rattle.conjunctive_compose.specs.System.{SystemParts}
use Rattle.text_cause.specs.declared.cause.TextCause.{TextCause}
use Rattle.text_cause.specs.declared.cause.TextCause.TheVariants.{UnknownName}
use Rattle.text_cause.specs.Cause.{IsFree, Row, LineStands}
use Rattle.strict_text.specs.Lines.{Line, IsStrict}
use Rattle.strict_text.specs.Words.{words_of}
use Rattle.firing_journal.specs.Journal.{EntryFits}
use Rattle.firing_journal.specs.Said.{Said, Says, head_line, entry_line, done_line, words_for}
use Rattle.firing_journal.specs.Place.{Place, MayStand, after_line, before_head, among_entries, after_done}

-- the line says something that may stand there
pub record MaySay (place : Place) (line : Line) (said : Said) : Type 0 where
  pub says : Says line said
  pub may : MayStand place said

-- an entry names a caller above 63, a process that does not exist, or an arc that its role does not have
abbrev pub IsUnknown : SystemParts → Said → Type 0
IsUnknown sys head_line = ⊥
IsUnknown sys (entry_line entry) = EntryFits sys entry → ⊥
IsUnknown sys done_line = ⊥

-- what stands against a line that may stand there
abbrev pub BarsLine : SystemParts → Said → TextCause → Type 0
BarsLine sys said cause = Row UnknownName (IsUnknown sys said) cause

abbrev pub LacksHead : Place → Line → Type 0
LacksHead place line = (place ≡ before_head) × (words_of line.bytes ≢ words_for head_line)

-- what stands against a line that is read there
abbrev pub ReadStands : SystemParts → Place → Line → TextCause → Type 0
ReadStands sys place line = LineStands (IsStrict line.bytes → ⊥) (LacksHead place line) (MaySay place line) (BarsLine sys)

-- what stands against a line there: below `done`, nothing
abbrev pub Stands : SystemParts → Place → Line → TextCause → Type 0
Stands sys before_head line cause = ReadStands sys before_head line cause
Stands sys (among_entries entries) line cause = ReadStands sys (among_entries entries) line cause
Stands sys (after_done entries) line cause = ⊥

-- the line says what leaves the text there
pub record Leaves (place : Place) (line : Line) (said : Said) (next : Place) : Type 0 where
  pub may : MaySay place line said
  pub next_is : next ≡ after_line place said

-- nothing stands against the line, and it leaves the text there
pub record IsRead (sys : SystemParts) (place : Place) (line : Line) (next : Place) : Type 0 where
  pub free : IsFree (ReadStands sys place line)
  pub said : Said
  pub leaves : Leaves place line said next

-- where a line leaves the text that is taken; below `done` each line is taken, and none is read
abbrev pub Takes : SystemParts → Place → Line → Place → Type 0
Takes sys before_head line next = IsRead sys before_head line next
Takes sys (among_entries entries) line next = IsRead sys (among_entries entries) line next
Takes sys (after_done entries) line next = next ≡ after_done entries

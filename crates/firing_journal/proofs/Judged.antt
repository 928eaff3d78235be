-- How a line is judged: before the head, and below entries.
use Rattle.std.proofs.Common.{ℕ, ◌≡◌, ◌∷◌, ◌++◌, List, [], length, refl, subst, true}
use Rattle.std.specs.Prelude.{Some, None, codes}
use Rattle.text_cause.specs.declared.cause.TextCause.TheVariants.{NotText, BadHead, BadLine, UnknownName}
use Rattle.text_cause.specs.Cause.{IsLowest}
use Rattle.text_cause.proofs.Lowest.{row_lowest, row_free}
use Rattle.text_cause.proofs.Rows.{not_text_lowest, bad_head_lowest, bad_line_lowest, blocked_lowest, line_free}
use Rattle.strict_text.specs.Lines.{Line, IsStrict}
use Rattle.strict_text.specs.Words.{words_of}
use Rattle.conjunctive_compose.specs.declared.wish.Wish.{Wish}
use Rattle.conjunctive_compose.specs.System.{SystemParts}
use Rattle.firing_journal.specs.declared.journal.Entry.{Entry}
use Rattle.firing_journal.specs.Journal.{EntryFits}
use Rattle.firing_journal.specs.Said.{Said, Says, head_line, entry_line, done_line, words_for}
use Rattle.firing_journal.specs.Place.{Place, MayStand, after_line, before_head, among_entries}
use Rattle.firing_journal.specs.Cause.{IsUnknown, MaySay, LacksHead, BarsLine, ReadStands, IsRead, Stands, Takes}
use Rattle.firing_journal.specs.inside.View.{IsKnown, place_after, wish_of_numbers}
use Rattle.firing_journal.proofs.Words.{bytes_of_words, says_head, says_once}

abbrev NotStrict : Line → Type 0
NotStrict line = IsStrict line.bytes → ⊥

says_one : (place : Place) (line : Line) (x y : Said) → MaySay place line x → MaySay place line y → x ≡ y
says_one place line x y a b = says_once line x y a.says b.says

pub line_not_text : (sys : SystemParts) (place : Place) (line : Line) → (IsStrict line.bytes → ⊥) → IsLowest (ReadStands sys place line) NotText
line_not_text sys place line bad = not_text_lowest (NotStrict line) (LacksHead place line) (MaySay place line) (BarsLine sys) bad

head_alone : (said : Said) → MayStand before_head said → said ≡ head_line
head_alone head_line may = refl
head_alone (entry_line entry) may = absurd may
head_alone done_line may = absurd may

not_head : (line : Line) → (line.bytes ≡ codes "journal 1" → ⊥) → words_of line.bytes ≡ words_for head_line → ⊥
not_head line other is = other (bytes_of_words line.bytes (words_for head_line) is)

pub head_wrong : (sys : SystemParts) (line : Line) → IsStrict line.bytes → (line.bytes ≡ codes "journal 1" → ⊥) → IsLowest (Stands sys before_head line) BadHead
head_wrong sys line strict other =
    bad_head_lowest (NotStrict line) (LacksHead before_head line) (MaySay before_head line) (BarsLine sys) (λ bad. bad strict) (λ said may. not_head line other (subst (λ x. words_of line.bytes ≡ words_for x) (head_alone said may.may) may.says.words.words_are)) (refl, not_head line other)

pub head_not_ended : (sys : SystemParts) (line : Line) → IsStrict line.bytes → line.bytes ≡ codes "journal 1" → (line.is_ended ≡ true → ⊥) → IsLowest (Stands sys before_head line) BadLine
head_not_ended sys line strict is open' =
    bad_line_lowest (NotStrict line) (LacksHead before_head line) (MaySay before_head line) (BarsLine sys) (λ bad. bad strict) (λ no. no.1 (says_head line.bytes is).words_are) (λ said may. open' may.says.ended)

-- the line says what may stand there, and nothing in it is unknown
read_taken : (sys : SystemParts) (place : Place) (line : Line) (said : Said) → IsStrict line.bytes → (LacksHead place line → ⊥) → MaySay place line said → (IsUnknown sys said → ⊥) → IsRead sys place line (after_line place said)
read_taken sys place line said strict has may known = record {
  free = line_free (NotStrict line) (LacksHead place line) (MaySay place line) (BarsLine sys) (says_one place line) said may (λ bad. bad strict) has (row_free UnknownName (IsUnknown sys said) known);
  said = said;
  leaves = record { may = may; next_is = refl };
}

pub head_taken : (sys : SystemParts) (line : Line) → IsStrict line.bytes → line.bytes ≡ codes "journal 1" → line.is_ended ≡ true → Takes sys before_head line (among_entries [])
head_taken sys line strict is ended =
    let says : Says line head_line = record { ended = ended; words = says_head line.bytes is } in
    read_taken sys before_head line head_line strict (λ no. no.1 says.words.words_are) (record { says = says; may = tt }) (λ none. none)

has_head : (entries : List Entry) (line : Line) → LacksHead (among_entries entries) line → ⊥
has_head entries line lacks = let is = lacks.0 in cc

pub nothing_said : (sys : SystemParts) (entries : List Entry) (line : Line) → IsStrict line.bytes → ((said : Said) → Says line said → ⊥) → IsLowest (Stands sys (among_entries entries) line) BadLine
nothing_said sys entries line strict none = bad_line_lowest (NotStrict line) (LacksHead (among_entries entries) line) (MaySay (among_entries entries) line) (BarsLine sys) (λ bad. bad strict) (has_head entries line) (λ said may. none said may.says)

-- the line says what may not stand there
pub misplaced_is_bad_line : (sys : SystemParts) (entries : List Entry) (line : Line) (said : Said) → IsStrict line.bytes → Says line said → (MayStand (among_entries entries) said → ⊥) → IsLowest (Stands sys (among_entries entries) line) BadLine
misplaced_is_bad_line sys entries line said strict says not =
    bad_line_lowest (NotStrict line) (LacksHead (among_entries entries) line) (MaySay (among_entries entries) line) (BarsLine sys) (λ bad. bad strict) (has_head entries line) (λ other may. not (subst (MayStand (among_entries entries)) (says_once line other said may.says says) may.may))

-- the line says an entry that may stand there, but not for this system
pub unknown_is_lowest : (sys : SystemParts) (entries : List Entry) (line : Line) (entry : Entry) → IsStrict line.bytes → Says line (entry_line entry) → entry.number ≡ length entries → (EntryFits sys entry → ⊥) → IsLowest (Stands sys (among_entries entries) line) UnknownName
unknown_is_lowest sys entries line entry strict says place not =
    let may : MaySay (among_entries entries) line (entry_line entry) = record { says = says; may = place } in
    blocked_lowest (NotStrict line) (LacksHead (among_entries entries) line) (MaySay (among_entries entries) line) (BarsLine sys) (says_one (among_entries entries) line) (entry_line entry) may (λ bad. bad strict) (has_head entries line) UnknownName (row_lowest UnknownName (IsUnknown sys (entry_line entry)) not)

pub known_is_taken : (sys : SystemParts) (entries : List Entry) (line : Line) (said : Said) → IsStrict line.bytes → Says line said → MayStand (among_entries entries) said → (IsUnknown sys said → ⊥) → Takes sys (among_entries entries) line (after_line (among_entries entries) said)
known_is_taken sys entries line said strict says stands known = read_taken sys (among_entries entries) line said strict (has_head entries line) (record { says = says; may = stands }) known

pub done_taken : (sys : SystemParts) (entries : List Entry) (line : Line) → IsStrict line.bytes → Says line done_line → Takes sys (among_entries entries) line (place_after entries None)
done_taken sys entries line strict says = known_is_taken sys entries line done_line strict says tt (λ none. none)

-- an entry of numbers that the system knows
pub entry_fits : (sys : SystemParts) (number caller process arc pick : ℕ) → IsKnown sys caller process arc → EntryFits sys (record { number = number; caller = caller; wish = wish_of_numbers process arc pick })
entry_fits sys number caller process arc pick known = record { wish = known.fits; caller = known.caller_in }

pub entry_known : (sys : SystemParts) (number caller process arc pick : ℕ) → EntryFits sys (record { number = number; caller = caller; wish = wish_of_numbers process arc pick }) → IsKnown sys caller process arc
entry_known sys number caller process arc pick fits = record { caller_in = fits.caller; fits = fits.wish }

pub entry_taken : (sys : SystemParts) (entries : List Entry) (line : Line) (number caller process arc pick : ℕ) (next : ℕ × Wish) → IsStrict line.bytes → Says line (entry_line (record { number = number; caller = caller; wish = wish_of_numbers process arc pick }))
    → number ≡ length entries → next.0 ≡ caller → next.1 ≡ wish_of_numbers process arc pick → IsKnown sys caller process arc → Takes sys (among_entries entries) line (place_after entries (Some next))
entry_taken sys entries line number caller process arc pick next strict says place c w known =
    let e : Entry = record { number = number; caller = caller; wish = wish_of_numbers process arc pick } in
    let there : ◌≡◌ {A = Entry} e (record { number = length entries; caller = next.0; wish = next.1 }) = cc in
    subst (λ (x : Entry). Takes sys (among_entries entries) line (among_entries (entries ++ x ∷ []))) there (known_is_taken sys entries line (entry_line e) strict says place (λ not. not (entry_fits sys number caller process arc pick known)))

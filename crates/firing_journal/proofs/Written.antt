-- What is written of a journal is read again.
use Rattle.std.proofs.Common.{ℕ, suc, ◌≡◌, ◌<◌, ◌+◌, List, [], ◌∷◌, ◌++◌, length, get_or, All, arith, refl, sym, ◌∙◌, ap, true}
use Rattle.std.specs.Prelude.{codes}
use Rattle.std.specs.List.{flat_map}
use Rattle.std.proofs.lemmas.List.{append_assoc, append-nil, length-append}
use Rattle.std.proofs.lemmas.List.Elements.{All-tail}
use Rattle.text_cause.specs.Grammar.{StandsFor}
use Rattle.text_cause.proofs.Reading.{line_stands}
use Rattle.strict_text.specs.Lines.{Line, IsStrict, lines_of}
use Rattle.strict_text.specs.Spaced.{AreWords, IsWord, spaced}
use Rattle.strict_text.proofs.NumberLaws.{decimal_word}
use Rattle.strict_text.proofs.WordLaws.{line_of_words, strict_words, words_of_line}
use Rattle.conjunctive_compose.specs.System.{SystemParts}
use Rattle.firing_journal.specs.declared.journal.Entry.{Entry}
use Rattle.firing_journal.specs.Journal.{EntryFits, JournalFits}
use Rattle.firing_journal.specs.JournalText.{ReadBack, entry_text, journal_text, said_text}
use Rattle.firing_journal.specs.Said.{Said, HasNumbers, HasSmallNumbers, Says, head_line, entry_line, done_line, words_for}
use Rattle.firing_journal.specs.Place.{MayStand, among_entries, after_line, after_done, before_head}
use Rattle.firing_journal.specs.Cause.{IsUnknown, Takes}
use Rattle.firing_journal.specs.Text.{journals}
use Rattle.firing_journal.proofs.Judged.{head_taken, known_is_taken}
use Rattle.firing_journal.proofs.Numbered.{number_at}
use Rattle.firing_journal.proofs.Texts.{done_stands}

journal_word : IsWord (codes "journal")
journal_word = (omega arith, omega arith, (omega arith, omega arith, (omega arith, omega arith, (omega arith, omega arith, (omega arith, omega arith, (omega arith, omega arith, (omega arith, omega arith, tt)))))))

one_word : IsWord (codes "1")
one_word = (omega arith, omega arith, tt)

entry_word : IsWord (codes "entry")
entry_word = (omega arith, omega arith, (omega arith, omega arith, (omega arith, omega arith, (omega arith, omega arith, (omega arith, omega arith, tt)))))

done_word : IsWord (codes "done")
done_word = (omega arith, omega arith, (omega arith, omega arith, (omega arith, omega arith, (omega arith, omega arith, tt))))

words_are : (said : Said) → HasNumbers said → AreWords (words_for said)
words_are head_line small = (journal_word, one_word)
words_are (entry_line e) small = (entry_word, (decimal_word e.number (small 0 0 (omega arith)), (decimal_word e.caller (small 1 0 (omega arith)), (decimal_word e.wish.process (small 2 0 (omega arith)), (decimal_word e.wish.arc (small 3 0 (omega arith)), decimal_word e.wish.pick (small 4 0 (omega arith)))))))
words_are done_line small = done_word

-- the line that is written
written : Said → Line
written said = record { bytes = spaced (words_for said); is_ended = true }

line_written : (said : Said) (rest : List ℕ) → HasNumbers said → lines_of (said_text said ++ rest) ≡ written said ∷ lines_of rest
unfolding written
line_written said rest small = line_of_words (words_for said) rest (words_are said small)

says_written : (said : Said) → HasNumbers said → Says (written said) said
unfolding written
says_written said small = record { ended = refl; words = record { words_are = words_of_line (words_for said) (words_are said small); numbers = small } }

strict_written : (said : Said) → HasNumbers said → IsStrict (written said).bytes
unfolding written
strict_written said small = strict_words (words_for said) (words_are said small)

takes_written : (sys : SystemParts) (before : List Entry) (said : Said) → HasNumbers said → MayStand (among_entries before) said → (IsUnknown sys said → ⊥) → Takes sys (among_entries before) (written said) (after_line (among_entries before) said)
takes_written sys before said small may known = known_is_taken sys before (written said) said (strict_written said small) (says_written said small) may known

-- numbered from n
abbrev IsNumberedFrom : ℕ → List Entry → Type 0
IsNumberedFrom n entries = (i : ℕ) (d : Entry) → i < length entries → (get_or entries i d).number ≡ n + i

abbrev text_below : List Entry → List ℕ → List ℕ
text_below entries rest = flat_map entry_text entries ++ (said_text done_line ++ rest)

done_below : (sys : SystemParts) (before : List Entry) (rest : List ℕ) → StandsFor (journals sys) (among_entries before) (lines_of (said_text done_line ++ rest)) before
done_below sys before rest = line_stands (journals sys) (among_entries before) (after_done before) (lines_of (said_text done_line ++ rest)) (lines_of rest) (written done_line) before (line_written done_line rest tt) (takes_written sys before done_line tt tt (λ none. none)) (done_stands sys before (lines_of rest))

entries_below : (sys : SystemParts) (before entries all : List Entry) (rest : List ℕ) → IsNumberedFrom (length before) entries → All HasSmallNumbers entries → JournalFits sys entries → all ≡ before ++ entries → StandsFor (journals sys) (among_entries before) (lines_of (text_below entries rest)) all
entries_below sys before [] all rest numbered small fits is = rw (is, append-nil) (done_below sys before rest)
entries_below sys before (e ∷ entries) all rest numbered small fits is =
    let here = takes_written sys before (entry_line e) (small 0 e (omega arith)) (numbered 0 e (omega arith) ∙ omega arith) (λ not. not (fits 0 e (omega arith))) in
    let size = length-append before (e ∷ []) in
    let next = entries_below sys (before ++ e ∷ []) entries all rest (λ i d lt. numbered (suc i) d (omega (arith, lt)) ∙ omega (arith, size)) (All-tail HasSmallNumbers e entries small) (All-tail (EntryFits sys) e entries fits) (is ∙ sym (append_assoc before (e ∷ []) entries)) in
    let cut = ap lines_of (append_assoc (entry_text e) (flat_map entry_text entries) (said_text done_line ++ rest)) ∙ line_written (entry_line e) (text_below entries rest) (small 0 e (omega arith)) in
    line_stands (journals sys) (among_entries before) (among_entries (before ++ e ∷ [])) (lines_of (text_below (e ∷ entries) rest)) (lines_of (text_below entries rest)) (written (entry_line e)) all cut here next

pub read_back : ReadBack
unfolding written
read_back sys entries rest numbered small fits =
    let below = entries_below sys [] entries entries rest (λ i d lt. number_at entries i d numbered lt ∙ omega arith) small fits refl in
    let head = head_taken sys (written head_line) (strict_written head_line tt) refl refl in
    let cut = ap lines_of (append_assoc (said_text head_line ++ flat_map entry_text entries) (said_text done_line) rest ∙ append_assoc (said_text head_line) (flat_map entry_text entries) (said_text done_line ++ rest)) ∙ line_written head_line (text_below entries rest) tt in
    line_stands (journals sys) before_head (among_entries []) (lines_of (journal_text entries ++ rest)) (lines_of (text_below entries rest)) (written head_line) entries cut head below

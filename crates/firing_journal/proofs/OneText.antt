-- A text of a journal begins with its one text.
use Rattle.std.proofs.Common.{ℕ, ◌≡◌, ◌∷◌, ◌++◌, List, [], sym, ◌∙◌, ap, subst}
use Rattle.std.specs.Prelude.{Bool, if◌then◌else◌}
use Rattle.std.specs.List.{flat_map}
use Rattle.std.proofs.lemmas.List.{append_assoc, append-nil}
use Rattle.text_cause.specs.Grammar.{StandsFor}
use Rattle.strict_text.specs.Lines.{Line, lines_of, text_of}
use Rattle.strict_text.specs.Spaced.{spaced}
use Rattle.strict_text.proofs.LineLaws.{text_of_lines}
use Rattle.conjunctive_compose.specs.System.{SystemParts}
use Rattle.firing_journal.specs.declared.journal.Entry.{Entry}
use Rattle.firing_journal.specs.JournalText.{OneText, entry_text, journal_text, said_text}
use Rattle.firing_journal.specs.Said.{Said, Says, head_line, entry_line, done_line, words_for}
use Rattle.firing_journal.specs.Place.{Place, among_entries, after_done, before_head}
use Rattle.firing_journal.specs.Cause.{Leaves}
use Rattle.firing_journal.specs.Text.{journals}
use Rattle.firing_journal.proofs.Words.{bytes_of_words}

-- the text of a line that says this, before that of the lines below it
line_text_of : (line : Line) (lines : List Line) (said : Said) → Says line said → text_of (line ∷ lines) ≡ said_text said ++ text_of lines
line_text_of line lines said says = ap (λ (b : Bool). line.bytes ++ (if b then 10 ∷ text_of lines else text_of lines)) says.ended ∙ ap (λ (bytes : List ℕ). bytes ++ 10 ∷ text_of lines) (bytes_of_words line.bytes (words_for said) says.words.words_are) ∙ sym (append_assoc (spaced (words_for said)) (10 ∷ []) (text_of lines))

-- what stands below `done` leaves what stood above it
done_gives : (sys : SystemParts) (entries : List Entry) (lines : List Line) (v : List Entry) → StandsFor (journals sys) (after_done entries) lines v → v ≡ entries
done_gives sys entries [] v below = below
done_gives sys entries (line ∷ lines) v (next, is, below) = done_gives sys entries lines v (subst (λ (p : Place). StandsFor (journals sys) p lines v) is below)

-- these entries are appended to those above, and the lines are their text with `done`
record IsBelow (before : List Entry) (lines : List Line) (v : List Entry) : Type 0 where
  later : List Entry
  rest : List ℕ
  entries_are : v ≡ before ++ later
  text_is : text_of lines ≡ flat_map entry_text later ++ (said_text done_line ++ rest)

one_below : (sys : SystemParts) (before : List Entry) (lines : List Line) (v : List Entry) → StandsFor (journals sys) (among_entries before) lines v → IsBelow before lines v
one_below sys before [] v below = absurd below
one_below sys before (line ∷ lines) v (next, takes, below) = by takes.said takes.leaves (λ (e : Entry) (later : StandsFor (journals sys) (among_entries (before ++ e ∷ [])) lines v). one_below sys (before ++ e ∷ []) lines v later)
  where
    by : (said : Said) → Leaves (among_entries before) line said next → ((e : Entry) → StandsFor (journals sys) (among_entries (before ++ e ∷ [])) lines v → IsBelow (before ++ e ∷ []) lines v) → IsBelow before (line ∷ lines) v
    by head_line leaves again = absurd leaves.may.may
    by (entry_line e) leaves again =
        let more = again e (subst (λ (p : Place). StandsFor (journals sys) p lines v) leaves.next_is below) in
        record {
          later = e ∷ more.later;
          rest = more.rest;
          entries_are = more.entries_are ∙ append_assoc before (e ∷ []) more.later;
          text_is = line_text_of line lines (entry_line e) leaves.may.says ∙ ap (λ (l : List ℕ). entry_text e ++ l) more.text_is ∙ sym (append_assoc (entry_text e) (flat_map entry_text more.later) (said_text done_line ++ more.rest));
        }
    by done_line leaves again = record {
      later = [];
      rest = text_of lines;
      entries_are = done_gives sys before lines v (subst (λ (p : Place). StandsFor (journals sys) p lines v) leaves.next_is below) ∙ sym (append-nil before);
      text_is = line_text_of line lines done_line leaves.may.says;
    }

below_head : (sys : SystemParts) (lines : List Line) (v : List Entry) → StandsFor (journals sys) before_head lines v → (rest : List ℕ) × (text_of lines ≡ journal_text v ++ rest)
below_head sys [] v below = absurd below
below_head sys (line ∷ lines) v (next, takes, below) = by takes.said takes.leaves
  where
    by : (said : Said) → Leaves before_head line said next → (rest : List ℕ) × (text_of (line ∷ lines) ≡ journal_text v ++ rest)
    by head_line leaves =
        let more = one_below sys [] lines v (subst (λ (p : Place). StandsFor (journals sys) p lines v) leaves.next_is below) in
        let text = line_text_of line lines head_line leaves.may.says ∙ ap (λ (l : List ℕ). said_text head_line ++ l) (more.text_is ∙ ap (λ (entries : List Entry). flat_map entry_text entries ++ (said_text done_line ++ more.rest)) (sym more.entries_are)) in
        (more.rest, text ∙ sym (append_assoc (said_text head_line ++ flat_map entry_text v) (said_text done_line) more.rest ∙ append_assoc (said_text head_line) (flat_map entry_text v) (said_text done_line ++ more.rest)))
    by (entry_line e) leaves = absurd leaves.may.may
    by done_line leaves = absurd leaves.may.may

pub one_text : OneText
one_text sys bytes v text = let found = below_head sys (lines_of bytes) v text in (found.0, sym (text_of_lines bytes) ∙ found.1)

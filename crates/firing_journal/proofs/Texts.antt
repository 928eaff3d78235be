-- The grammar of journals is lawful, and is read line by line as far as `done`.
use Rattle.std.proofs.Common.{ℕ, ◌≡◌, ◌<◌, ◌+◌, arith, length, List, [], ◌∷◌, sym, ap, ◌∙◌, subst, refl}
use Rattle.std.specs.Prelude.{Option, None, Some}
use Rattle.std.proofs.lemmas.List.Elements.{All-push}
use Rattle.text_cause.specs.declared.cause.TextCause.{TextCause}
use Rattle.text_cause.specs.declared.cause.TextCause.TheVariants.{UnknownName}
use Rattle.text_cause.specs.Cause.{IsLowest}
use Rattle.text_cause.specs.Grammar.{StandsFor}
use Rattle.text_cause.specs.inside.Laws.{IsLawful}
use Rattle.text_cause.proofs.Lowest.{from_row, one_each_row}
use Rattle.text_cause.proofs.Reading.{IsReadTo, read_line}
use Rattle.text_cause.proofs.Rows.{line_once}
use Rattle.strict_text.specs.Lines.{IsStrict, Line, lines_of}
use Rattle.conjunctive_compose.specs.declared.wish.Wish.{Wish}
use Rattle.conjunctive_compose.specs.System.{SystemParts}
use Rattle.firing_journal.specs.declared.journal.Entry.{Entry}
use Rattle.firing_journal.specs.Journal.{EntryFits, JournalFits}
use Rattle.firing_journal.specs.inside.View.{IsFitting, grown, place_after}
use Rattle.firing_journal.specs.Place.{Place, after_line, before_head, among_entries, after_done}
use Rattle.firing_journal.specs.Cause.{BarsLine, IsRead, IsUnknown, LacksHead, MaySay, ReadStands, Stands, Takes}
use Rattle.firing_journal.specs.Text.{EndStands, Gives, journals}
use Rattle.firing_journal.proofs.Words.{says_once}

read_once : (sys : SystemParts) (place : Place) (line : Line) (s t : Place) → IsRead sys place line s → IsRead sys place line t → s ≡ t
read_once sys place line s t a b = a.leaves.next_is ∙ ap (after_line place) (says_once line a.said b.said a.leaves.may.says b.leaves.may.says) ∙ sym b.leaves.next_is

takes_once : (sys : SystemParts) (place : Place) (line : Line) (s t : Place) → Takes sys place line s → Takes sys place line t → s ≡ t
takes_once sys before_head line s t a b = read_once sys before_head line s t a b
takes_once sys (among_entries entries) line s t a b = read_once sys (among_entries entries) line s t a b
takes_once sys (after_done entries) line s t a b = a ∙ sym b

takes_free : (sys : SystemParts) (place : Place) (line : Line) (t : Place) (cause : TextCause) → Takes sys place line t → Stands sys place line cause → ⊥
takes_free sys before_head line t cause a h = a.free.free cause h
takes_free sys (among_entries entries) line t cause a h = a.free.free cause h
takes_free sys (after_done entries) line t cause a h = h

gives_once : (place : Place) (v w : List Entry) → Gives place v → Gives place w → v ≡ w
gives_once before_head v w a b = absurd a
gives_once (among_entries entries) v w a b = absurd a
gives_once (after_done entries) v w a b = a ∙ sym b

gives_free : (place : Place) (v : List Entry) (cause : TextCause) → Gives place v → EndStands place cause → ⊥
gives_free before_head v cause a b = a
gives_free (among_entries entries) v cause a b = a
gives_free (after_done entries) v cause a b = b

ends_once : (place : Place) (c d : TextCause) → EndStands place c → EndStands place d → c ≡ d
ends_once before_head c d a b = a ∙ sym b
ends_once (among_entries entries) c d a b = a ∙ sym b
ends_once (after_done entries) c d a b = absurd a

read_refused_once : (sys : SystemParts) (place : Place) (line : Line) (c d : TextCause) → IsLowest (ReadStands sys place line) c → IsLowest (ReadStands sys place line) d → c ≡ d
read_refused_once sys place line c d a b =
    line_once (IsStrict line.bytes → ⊥) (LacksHead place line) (MaySay place line) (BarsLine sys) (λ x y p q. says_once line x y p.says q.says) (λ said. from_row 5 UnknownName (IsUnknown sys said) (omega arith)) (λ said. one_each_row UnknownName (IsUnknown sys said)) c d a b

refused_once : (sys : SystemParts) (place : Place) (line : Line) (c d : TextCause) → IsLowest (Stands sys place line) c → IsLowest (Stands sys place line) d → c ≡ d
refused_once sys before_head line c d a b = read_refused_once sys before_head line c d a b
refused_once sys (among_entries entries) line c d a b = read_refused_once sys (among_entries entries) line c d a b
refused_once sys (after_done entries) line c d a b = absurd a.stands

pub journals_lawful : (sys : SystemParts) → IsLawful (journals sys)
journals_lawful sys = record { taken_once = takes_once sys; taken_free = takes_free sys; refused_once = refused_once sys; given_once = gives_once; given_free = gives_free; ended_once = ends_once }

-- what stands behind `done` is not read
pub done_stands : (sys : SystemParts) (entries : List Entry) (lines : List Line) → StandsFor (journals sys) (after_done entries) lines entries
done_stands sys entries [] = refl
done_stands sys entries (line ∷ lines) = (after_done entries, refl, done_stands sys entries lines)

-- the text is read to this rest, with these entries
pub record IsReadWith (sys : SystemParts) (bytes rest : List ℕ) (journal : List Entry) (n : ℕ) : Type 0 where
  pub read : IsReadTo (journals sys) (among_entries []) 2 bytes rest (among_entries journal) n
  pub fits : JournalFits sys journal

pub read_done : (sys : SystemParts) (bytes rest behind : List ℕ) (journal : List Entry) (n : ℕ) (line : Line) (said : Option (ℕ × Wish)) → IsReadWith sys bytes rest journal n → lines_of rest ≡ line ∷ lines_of behind → said ≡ None → Takes sys (among_entries journal) line (place_after journal said)
    → StandsFor (journals sys) (among_entries []) (lines_of bytes) journal
read_done sys bytes rest behind journal n line said so cut is takes =
    let takes' : Takes sys (among_entries journal) line (after_done journal) = subst (λ (o : Option (ℕ × Wish)). Takes sys (among_entries journal) line (place_after journal o)) is takes in
    so.read.stands journal (rw cut (after_done journal, takes', done_stands sys journal (lines_of behind)))

pub read_more : (sys : SystemParts) (bytes rest behind : List ℕ) (journal more : List Entry) (n : ℕ) (line : Line) (said : Option (ℕ × Wish)) (next : ℕ × Wish) → IsReadWith sys bytes rest journal n → lines_of rest ≡ line ∷ lines_of behind → length behind < length rest
    → said ≡ Some next → IsFitting sys said → Takes sys (among_entries journal) line (place_after journal said) → more ≡ grown journal next → IsReadWith sys bytes behind more (n + 1)
read_more sys bytes rest behind journal more n line said next so cut shorter said_is fits takes is =
    let fits' : IsFitting sys (Some next) = subst (IsFitting sys) said_is fits in
    let takes' : Takes sys (among_entries journal) line (among_entries (grown journal next)) = subst (λ (o : Option (ℕ × Wish)). Takes sys (among_entries journal) line (place_after journal o)) said_is takes in
    subst (λ (m : List Entry). IsReadWith sys bytes behind m (n + 1)) (sym is) (record {
      read = read_line (journals sys) (among_entries []) 2 bytes rest behind (among_entries journal) (among_entries (grown journal next)) n line so.read cut shorter takes';
      fits = All-push (EntryFits sys) journal (record { number = length journal; caller = next.0; wish = next.1 }) so.fits (record { wish = fits'.fits; caller = fits'.caller_in });
    })

-- What the words of a line say.
use Rattle.std.proofs.Common.{ℕ, ◌≡◌, ◌<◌, ◌^◌, ◌+◌, Option, Some, None, List, [], ◌∷◌, length, get_or, map, All, arith, refl, sym, ◌∙◌, ap, true}
use Rattle.std.specs.Prelude.{codes, decimal, Bool, false, IfNone, ◌==◌, if◌then◌else◌}
use Rattle.std.proofs.lemmas.Fmt.{decimal_injective}
use Rattle.std.proofs.lemmas.List.Elements.{All-tail}
use Rattle.strict_text.specs.Lines.{Line}
use Rattle.strict_text.specs.Spaced.{spaced}
use Rattle.strict_text.specs.Pieces.{before_first}
use Rattle.strict_text.specs.Words.{words_of}
use Rattle.strict_text.proofs.WordLaws.{one_line}
use Rattle.firing_journal.specs.declared.journal.Entry.{Entry}
use Rattle.firing_journal.specs.Said.{Said, head_line, entry_line, done_line, HasNumbers, IsWordNumber, Says, SaysWords, numbers_of, words_for}

-- the first byte of the first word
abbrev first_byte : List (List ℕ) → ℕ
first_byte words = get_or (get_or words 0 []) 0 0

-- the lines begin with different words
differ : (x y : Said) → words_for x ≡ words_for y → first_byte (words_for x) ≡ first_byte (words_for y)
differ x y is = ap {B = ℕ} first_byte is

-- lists of numbers are told by their decimal texts
pub same_numbers : (xs ys : List ℕ) → All IsWordNumber xs → All IsWordNumber ys → map decimal xs ≡ map decimal ys → xs ≡ ys
same_numbers [] [] a b is = refl
same_numbers [] (y ∷ ys) a b is = cc
same_numbers (x ∷ xs) [] a b is = cc
same_numbers (x ∷ xs) (y ∷ ys) a b is =
    let first : decimal x ≡ decimal y = cc in
    let rest : map decimal xs ≡ map decimal ys = cc in
    let e : x ≡ y = decimal_injective x y (a 0 0 (omega arith)) (b 0 0 (omega arith)) first in
    let more : xs ≡ ys = same_numbers xs ys (All-tail IsWordNumber x xs a) (All-tail IsWordNumber y ys b) rest in
    cc

entry_of : List ℕ → Entry
entry_of ns = record { number = get_or ns 0 0; caller = get_or ns 1 0; wish = record { process = get_or ns 2 0; arc = get_or ns 3 0; pick = get_or ns 4 0 } }

-- an entry is told by its numbers
entry_told : (x y : Entry) → numbers_of x ≡ numbers_of y → x ≡ y
unfolding entry_of
entry_told x y is = ap {B = Entry} entry_of is

both_said : (x y : Said) → words_for x ≡ words_for y → HasNumbers x → HasNumbers y → x ≡ y
both_said head_line head_line is a b = refl
both_said head_line (entry_line y) is a b = let h : ◌≡◌ {A = ℕ} 106 101 = differ head_line (entry_line y) is in absurd (omega arith)
both_said head_line done_line is a b = let h : ◌≡◌ {A = ℕ} 106 100 = differ head_line done_line is in absurd (omega arith)
both_said (entry_line x) head_line is a b = let h : ◌≡◌ {A = ℕ} 101 106 = differ (entry_line x) head_line is in absurd (omega arith)
both_said (entry_line x) (entry_line y) is a b = let same : map decimal (numbers_of x) ≡ map decimal (numbers_of y) = cc in ap entry_line (entry_told x y (same_numbers (numbers_of x) (numbers_of y) a b same))
both_said (entry_line x) done_line is a b = let h : ◌≡◌ {A = ℕ} 101 100 = differ (entry_line x) done_line is in absurd (omega arith)
both_said done_line head_line is a b = let h : ◌≡◌ {A = ℕ} 100 106 = differ done_line head_line is in absurd (omega arith)
both_said done_line (entry_line y) is a b = let h : ◌≡◌ {A = ℕ} 100 101 = differ done_line (entry_line y) is in absurd (omega arith)
both_said done_line done_line is a b = refl

-- words say one thing at most
pub words_once : (words : List (List ℕ)) (x y : Said) → SaysWords words x → SaysWords words y → x ≡ y
words_once words x y a b = both_said x y (sym a.words_are ∙ b.words_are) a.numbers b.numbers

pub says_once : (line : Line) (x y : Said) → Says line x → Says line y → x ≡ y
says_once line x y a b = words_once (words_of line.bytes) x y a.words b.words

-- the words of these bytes are these exactly where the bytes are these words
pub bytes_of_words : (bytes : List ℕ) (words : List (List ℕ)) → words_of bytes ≡ words → bytes ≡ spaced words
bytes_of_words bytes words is = sym (one_line bytes) ∙ ap spaced is

pub says_head : (bytes : List ℕ) → bytes ≡ codes "journal 1" → SaysWords (words_of bytes) head_line
says_head bytes is = record { words_are = ap words_of is; numbers = tt }

pub says_done : (bytes : List ℕ) → bytes ≡ codes "done" → SaysWords (words_of bytes) done_line
says_done bytes is = record { words_are = ap words_of is; numbers = tt }

-- no number is the first of these words
abbrev pub NoNumber : List (List ℕ) → Type 0
NoNumber words = (n : ℕ) (more : List (List ℕ)) → n < 2 ^ 64 → words ≡ decimal n ∷ more → ⊥

-- the words are not those of this many numbers
abbrev pub NotNumbers : ℕ → List (List ℕ) → Type 0
NotNumbers k words = (ns : List ℕ) → length ns ≡ k → All IsWordNumber ns → words ≡ map decimal ns → ⊥

pub not_first : (k : ℕ) (words : List (List ℕ)) → NoNumber words → NotNumbers (k + 1) words
not_first k words none [] len all is = omega arith
not_first k words none (n ∷ ns) len all is = none n (map decimal ns) (all 0 0 (omega arith)) is

pub not_behind : (k n : ℕ) (words more : List (List ℕ)) → words ≡ decimal n ∷ more → NotNumbers k more → NotNumbers (k + 1) words
not_behind k n words more first none [] len all is = omega arith
not_behind k n words more first none (m ∷ ns) len all is =
    let both : decimal n ∷ more ≡ decimal m ∷ map decimal ns = sym first ∙ is in
    let rest : more ≡ map decimal ns = cc in
    none ns (omega arith) (All-tail IsWordNumber m ns all) rest

pub not_end : (words : List (List ℕ)) → (words ≡ [] → ⊥) → NotNumbers 0 words
not_end words some [] len all is = some is
not_end words some (n ∷ ns) len all is = omega arith

-- the words behind `entry` are no five numbers
pub no_entry : (words : List (List ℕ)) → NotNumbers 5 words → (x : Said) → SaysWords (codes "entry" ∷ words) x → ⊥
no_entry words none head_line says = let h : ◌≡◌ {A = ℕ} 101 106 = ap {B = ℕ} first_byte says.words_are in omega arith
no_entry words none (entry_line e) says =
    let both = says.words_are in
    let rest : words ≡ map decimal (numbers_of e) = cc in
    none (numbers_of e) refl says.numbers rest
no_entry words none done_line says = let h : ◌≡◌ {A = ℕ} 101 100 = ap {B = ℕ} first_byte says.words_are in omega arith

-- bytes that are neither `done` nor the head, and whose first word is not `entry`, say nothing
pub says_nothing : (bytes word : List ℕ) (more : List (List ℕ)) → words_of bytes ≡ word ∷ more → (bytes ≡ codes "done" → ⊥) → (bytes ≡ codes "journal 1" → ⊥) → (word ≡ codes "entry" → ⊥) → (x : Said) → SaysWords (words_of bytes) x → ⊥
says_nothing bytes word more first done head entry head_line says = head (bytes_of_words bytes (words_for head_line) says.words_are)
says_nothing bytes word more first done head entry (entry_line e) says =
    let both : word ∷ more ≡ codes "entry" ∷ map decimal (numbers_of e) = sym first ∙ says.words_are in
    let is : word ≡ codes "entry" = cc in
    entry is
says_nothing bytes word more first done head entry done_line says = done (bytes_of_words bytes (words_for done_line) says.words_are)

pub if_none : {X : Type 0} (r : Option X) (P : Type 0) → P → IfNone r P
if_none None P p = p
if_none (Some x) P p = tt

-- words stand behind a space
pub words_stand : (bytes : List ℕ) → words_of bytes ≡ [] → ⊥
words_stand [] is = cc
words_stand (b ∷ bytes) is = by (b == 32) is
  where
    never : (words : List (List ℕ)) → before_first b words ≡ [] → ⊥
    never [] is = cc
    never (word ∷ words) is = cc

    by : (test : Bool) → (if test then [] ∷ words_of bytes else before_first b (words_of bytes)) ≡ [] → ⊥
    by true is = cc
    by false is = never (words_of bytes) is

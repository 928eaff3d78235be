-- A canonical line is cut into its words again, and a canonical formula into its tokens.
use Rattle.std.proofs.Common.{ℕ, zero, suc, ◌≡◌, ◌<◌, Bool, true, false, not, ◌&&◌, ◌==◌, nat_le, Option, Some, None, List, [], ◌∷◌, ◌++◌, codes, length, get_or, map, refl, sym, ap, ◌∙◌, arith, append_assoc, All}
use Rattle.std.proofs.lemmas.Bool.Decides.{nat_tests}
use Rattle.std.proofs.lemmas.List.Folds.{list_all-append}
use Rattle.std.specs.Char.{is_ascii_alphabetic}
use Rattle.std.specs.List.{AllPass, list_all}
use Rattle.pair_structure.specs.Parts.{Names, name_at}
use Rattle.pair_structure.specs.Name.{IsName, is_name_byte}
use Rattle.pair_structure.specs.declared.side.Side.{Side}
use Rattle.pair_structure.specs.declared.side.Side.TheVariants.{A, B}
use Rattle.ctl_form.specs.Form.{Form, truth, falsity, at, neg, both, either, implies, next, always, sometime, until}
use Rattle.formula_text.specs.FormulaText.{formula_text, path_letter, side_letters, until_letter}
use Rattle.formula_text.specs.Canonical.{IsOver}
use Rattle.ctl_text.specs.declared.format.Format.TheVariants.{First, Second}
use Rattle.ctl_text.specs.Item.{Said, head_line, role_line, local_line, start_line, set_line, arc_line, kind_line, require_line, end_line, process_line, edge_line, done_line, words_for, IsSpelled}
use Rattle.ctl_text.specs.Lines.{lines_of, is_text_byte, IsText, ArePassed, IsRequire}
use Rattle.ctl_text.specs.Required.{tokens_in}
use Rattle.ctl_text.specs.SpecText.{spaced, ended, line_for}
use Rattle.strict_text.specs.Lines.{Line}
use Rattle.strict_text.specs.Pieces.{is_space, before_first, joins, loose_words_of}
use Rattle.strict_text.proofs.LineLaws.{line_then}
use Rattle.formula_text.specs.Token.{tokens_of, are_joined}
use Rattle.strict_text.proofs.Positions.{both_true}

-- a byte that is seen: no space and no control
abbrev pub is_seen : ℕ → Bool
is_seen b = nat_le 33 b && nat_le b 126

abbrev pub all_seen : List ℕ → Bool
all_seen [] = true
all_seen (b ∷ word) = is_seen b && all_seen word

-- what a canonical line is made of: no line feed and no tab
abbrev pub is_plain : ℕ → Bool
is_plain b = nat_le 32 b && nat_le b 126

abbrev pub IsPlain : List ℕ → Type 0
IsPlain line = list_all is_plain line ≡ true

seen_no_space : (b : ℕ) → is_seen b ≡ true → is_space b ≡ false
seen_no_space b e = grind (arith, nat_tests)

name_byte_seen : (b : ℕ) → is_name_byte b ≡ true → is_seen b ≡ true
name_byte_seen b e = grind (arith, nat_tests)

letter_seen : (b : ℕ) → is_ascii_alphabetic b ≡ true → is_seen b ≡ true
letter_seen b e = grind (arith, nat_tests)

seen_plain : (b : ℕ) → is_seen b ≡ true → is_plain b ≡ true
seen_plain b e = grind (arith, nat_tests)

plain_no_feed : (b : ℕ) → is_plain b ≡ true → (b == 10) ≡ false
plain_no_feed b e = grind (arith, nat_tests)

plain_text_byte : (b : ℕ) → is_plain b ≡ true → is_text_byte b ≡ true
plain_text_byte b e = grind (arith, nat_tests)

bytes_seen : (bytes : List ℕ) → AllPass is_name_byte bytes → all_seen bytes ≡ true
bytes_seen [] all = refl
bytes_seen (b ∷ bytes) all =
    let first = name_byte_seen b (all 0 0 (omega arith)) in
    rw first (bytes_seen bytes (λ k d lt. all (suc k) d (omega arith)))

name_seen : (name : List ℕ) → IsName name → all_seen name ≡ true
name_seen [] h = absurd h
name_seen (b ∷ name) h = let first = letter_seen b h.0 in rw first (bytes_seen name h.2)

name_some : (name : List ℕ) → IsName name → 0 < length name
name_some [] h = absurd h
name_some (b ∷ name) h = omega arith

seen_are_plain : (word : List ℕ) → all_seen word ≡ true → IsPlain word
seen_are_plain [] e = refl
seen_are_plain (b ∷ word) e =
    let h = both_true (is_seen b) (all_seen word) e in
    let first = seen_plain b h.0 in rw first (seen_are_plain word h.1)

name_plain : (name : List ℕ) → IsName name → IsPlain name
name_plain name h = seen_are_plain name (name_seen name h)

pub plain_append : (a b : List ℕ) → IsPlain a → IsPlain b → IsPlain (a ++ b)
plain_append a b ha hb = list_all-append is_plain a b ∙ rw (ha, hb) refl

plain_at : (bytes : List ℕ) → IsPlain bytes → (k d : ℕ) → k < length bytes → is_plain (get_or bytes k d) ≡ true
plain_at [] plain k d lt = absurd (omega arith)
plain_at (b ∷ bytes) plain zero d lt = (both_true (is_plain b) (list_all is_plain bytes) plain).0
plain_at (b ∷ bytes) plain (suc k) d lt = plain_at bytes (both_true (is_plain b) (list_all is_plain bytes) plain).1 k d (omega arith)

-- a line with a line feed is cut off again
pub ended_again : (line rest : List ℕ) → IsPlain line → lines_of (ended line ++ rest) ≡ line ∷ lines_of rest
ended_again line rest plain =
    let again = line_then line rest (λ k lt. plain_no_feed (get_or line k 0) (plain_at line plain k 0 lt)) in
    ap lines_of (append_assoc line (10 ∷ []) rest) ∙ ap (λ lines. map (λ (l : Line). l.bytes) lines) again

pub plain_text : (line : List ℕ) → IsPlain line → IsText line
plain_text line plain = λ k d lt. plain_text_byte (get_or line k d) (plain_at line plain k d lt)

word_again : (b : ℕ) (word rest : List ℕ) → all_seen (b ∷ word) ≡ true → loose_words_of ((b ∷ word) ++ (32 ∷ rest)) ≡ (b ∷ word) ∷ loose_words_of rest
word_again b [] rest seen = let first = seen_no_space b (both_true (is_seen b) true seen).0 in rw first refl
word_again b (c ∷ word) rest seen =
    let h = both_true (is_seen b) (all_seen (c ∷ word)) seen in
    let first = seen_no_space b h.0 in
    let second = seen_no_space c (both_true (is_seen c) (all_seen word) h.1).0 in
    let more = word_again c word rest h.1 in
    rw (first, more, second) refl

last_again : (b : ℕ) (word : List ℕ) → all_seen (b ∷ word) ≡ true → loose_words_of (b ∷ word) ≡ (b ∷ word) ∷ []
last_again b [] seen = let first = seen_no_space b (both_true (is_seen b) true seen).0 in rw first refl
last_again b (c ∷ word) seen =
    let h = both_true (is_seen b) (all_seen (c ∷ word)) seen in
    let first = seen_no_space b h.0 in
    let second = seen_no_space c (both_true (is_seen c) (all_seen word) h.1).0 in
    let more = last_again c word h.1 in
    rw (first, more, second) refl

-- each is a word
abbrev pub AreWords : List (List ℕ) → Type 0
AreWords [] = Unit {0}
AreWords (word ∷ words) = (0 < length word) × (all_seen word ≡ true) × AreWords words

words_again : (words : List (List ℕ)) → AreWords words → loose_words_of (spaced words) ≡ words
words_again [] are = refl
words_again ([] ∷ []) are = absurd (omega arith)
words_again ((b ∷ word) ∷ []) are = last_again b word are.1
words_again ([] ∷ other ∷ words) are = absurd (omega arith)
words_again ((b ∷ word) ∷ other ∷ words) are = word_again b word (spaced (other ∷ words)) are.1 ∙ ap (λ ws. (b ∷ word) ∷ ws) (words_again (other ∷ words) are.2)

spaced_plain : (words : List (List ℕ)) → AreWords words → IsPlain (spaced words)
spaced_plain [] are = refl
spaced_plain (word ∷ []) are = seen_are_plain word are.1
spaced_plain (word ∷ other ∷ words) are = plain_append word (32 ∷ spaced (other ∷ words)) (seen_are_plain word are.1) (spaced_plain (other ∷ words) are.2)

-- the item requires no clause
abbrev pub IsOther : Said → Type 0
IsOther (require_line words form) = ⊥
IsOther item = Unit {0}

names_words : (names : List (List ℕ)) → All IsName names → AreWords names
names_words [] each = tt
names_words (n ∷ names) each = let first = each 0 n (omega arith) in (name_some n first, name_seen n first, names_words names (λ k d lt. each (suc k) d (omega arith)))

item_words : (item : Said) → IsOther item → IsSpelled item → AreWords (words_for item)
item_words (head_line First) other is = (omega arith, refl, (omega arith, refl, tt))
item_words (head_line Second) other is = (omega arith, refl, (omega arith, refl, tt))
item_words (role_line n) other is = (omega arith, refl, (name_some n is, name_seen n is, tt))
item_words (local_line n) other is = (omega arith, refl, (name_some n is, name_seen n is, tt))
item_words (start_line n) other is = (omega arith, refl, (name_some n is, name_seen n is, tt))
item_words (set_line n members) other is = (omega arith, refl, (name_some n is.0, name_seen n is.0, names_words members is.2))
item_words (arc_line p q false) other is = (omega arith, refl, (name_some p is.0, name_seen p is.0, (name_some q is.1, name_seen q is.1, tt)))
item_words (arc_line p q true) other is = (omega arith, refl, (name_some p is.0, name_seen p is.0, (name_some q is.1, name_seen q is.1, (omega arith, refl, tt))))
item_words (kind_line n a b) other is = (omega arith, refl, (name_some n is.0, name_seen n is.0, (name_some a is.1, name_seen a is.1, (name_some b is.2, name_seen b is.2, tt))))
item_words (require_line words form) other is = absurd other
item_words end_line other is = (omega arith, refl, tt)
item_words (process_line n r None) other is = (omega arith, refl, (name_some n is.0, name_seen n is.0, (name_some r is.1, name_seen r is.1, tt)))
item_words (process_line n r (Some s)) other is = (omega arith, refl, (name_some n is.0, name_seen n is.0, (name_some r is.1, name_seen r is.1, (name_some s is.2, name_seen s is.2, tt))))
item_words (edge_line p q k) other is = (omega arith, refl, (name_some p is.0, name_seen p is.0, (name_some q is.1, name_seen q is.1, (name_some k is.2, name_seen k is.2, tt))))
item_words done_line other is = (omega arith, refl, tt)

pub item_plain : (item : Said) → IsOther item → IsSpelled item → IsPlain (line_for item)
item_plain item other is = spaced_plain (words_for item) (item_words item other is)

pub item_again : (item : Said) → IsOther item → IsSpelled item → loose_words_of (line_for item) ≡ words_for item
item_again item other is = words_again (words_for item) (item_words item other is)

pub item_not_passed : (item : Said) → ArePassed (words_for item) → ⊥
item_not_passed (head_line format) h = omega (arith, h)
item_not_passed (role_line n) h = omega (arith, h)
item_not_passed (local_line n) h = omega (arith, h)
item_not_passed (start_line n) h = omega (arith, h)
item_not_passed (set_line n members) h = omega (arith, h)
item_not_passed (arc_line p q false) h = omega (arith, h)
item_not_passed (arc_line p q true) h = omega (arith, h)
item_not_passed (kind_line n a b) h = omega (arith, h)
item_not_passed (require_line words form) h = omega (arith, h)
item_not_passed end_line h = omega (arith, h)
item_not_passed (process_line n r None) h = omega (arith, h)
item_not_passed (process_line n r (Some s)) h = omega (arith, h)
item_not_passed (edge_line p q k) h = omega (arith, h)
item_not_passed done_line h = omega (arith, h)

pub item_no_clause : (item : Said) → IsOther item → IsRequire (words_for item) → ⊥
item_no_clause (head_line format) other h = cc
item_no_clause (role_line n) other h = cc
item_no_clause (local_line n) other h = cc
item_no_clause (start_line n) other h = cc
item_no_clause (set_line n members) other h = cc
item_no_clause (arc_line p q false) other h = cc
item_no_clause (arc_line p q true) other h = cc
item_no_clause (kind_line n a b) other h = cc
item_no_clause (require_line words form) other h = other
item_no_clause end_line other h = cc
item_no_clause (process_line n r None) other h = let e = ap (λ w. get_or w 1 0) h in omega (arith, e)
item_no_clause (process_line n r (Some s)) other h = let e = ap (λ w. get_or w 1 0) h in omega (arith, e)
item_no_clause (edge_line p q k) other h = cc
item_no_clause done_line other h = cc

-- the canonical text of a formula is of one line
two_plain : (o F m G c : List ℕ) → IsPlain o → IsPlain F → IsPlain m → IsPlain G → IsPlain c → IsPlain ((((o ++ F) ++ m) ++ G) ++ c)
two_plain o F m G c ho hf hm hg hc = plain_append (((o ++ F) ++ m) ++ G) c (plain_append ((o ++ F) ++ m) G (plain_append (o ++ F) m (plain_append o F ho hf) hm) hg) hc

next_plain : (all : Bool) (side : Option Side) → IsPlain (((path_letter all ∷ codes "X") ++ side_letters side) ++ codes " ")
next_plain true None = refl
next_plain true (Some A) = refl
next_plain true (Some B) = refl
next_plain false None = refl
next_plain false (Some A) = refl
next_plain false (Some B) = refl

path_plain : (all : Bool) (c : ℕ) → is_plain c ≡ true → IsPlain (path_letter all ∷ c ∷ [])
path_plain true c e = rw e refl
path_plain false c e = rw e refl

path_plain_space : (all : Bool) (c : ℕ) → is_plain c ≡ true → IsPlain (path_letter all ∷ c ∷ 32 ∷ [])
path_plain_space true c e = rw e refl
path_plain_space false c e = rw e refl

until_plain : (weak : Bool) → IsPlain (until_letter weak ∷ codes " ")
until_plain true = refl
until_plain false = refl

abbrev pub AllNames : Names → Type 0
AllNames names = (p : ℕ) → p < length names → IsName (name_at names p)

pub formula_plain : (a b : Names) (f : Form) → AllNames a → AllNames b → IsOver a b f → IsPlain (formula_text a b f)
formula_plain a b truth na nb over = refl
formula_plain a b falsity na nb over = refl
formula_plain a b (at A p) na nb over = plain_append (codes "a.") (name_at a p) refl (name_plain (name_at a p) (na p over))
formula_plain a b (at B p) na nb over = plain_append (codes "b.") (name_at b p) refl (name_plain (name_at b p) (nb p over))
formula_plain a b (neg f) na nb over = plain_append (codes "!") (formula_text a b f) refl (formula_plain a b f na nb over)
formula_plain a b (both f g) na nb over = two_plain (codes "(") (formula_text a b f) (codes " & ") (formula_text a b g) (codes ")") refl (formula_plain a b f na nb over.0) refl (formula_plain a b g na nb over.1) refl
formula_plain a b (either f g) na nb over = two_plain (codes "(") (formula_text a b f) (codes " | ") (formula_text a b g) (codes ")") refl (formula_plain a b f na nb over.0) refl (formula_plain a b g na nb over.1) refl
formula_plain a b (implies f g) na nb over = two_plain (codes "(") (formula_text a b f) (codes " -> ") (formula_text a b g) (codes ")") refl (formula_plain a b f na nb over.0) refl (formula_plain a b g na nb over.1) refl
formula_plain a b (next all side f) na nb over = plain_append (((path_letter all ∷ codes "X") ++ side_letters side) ++ codes " ") (formula_text a b f) (next_plain all side) (formula_plain a b f na nb over)
formula_plain a b (always all f) na nb over = plain_append (path_letter all ∷ codes "G ") (formula_text a b f) (path_plain_space all 71 refl) (formula_plain a b f na nb over)
formula_plain a b (sometime all f) na nb over = plain_append (path_letter all ∷ codes "F ") (formula_text a b f) (path_plain_space all 70 refl) (formula_plain a b f na nb over)
formula_plain a b (until all weak f g) na nb over =
    two_plain ((path_letter all ∷ codes "[") ++ formula_text a b f) (codes " ") (until_letter weak ∷ codes " ") (formula_text a b g) (codes "]") (plain_append (path_letter all ∷ codes "[") (formula_text a b f) (path_plain all 91 refl) (formula_plain a b f na nb over.0)) refl (until_plain weak) (formula_plain a b g na nb over.1) refl

-- the tokens of a text are those of its words
gap_ends : (b c : ℕ) → is_space b ≡ false → is_space c ≡ true → are_joined b c ≡ false
gap_ends b c hb hc = grind (arith, nat_tests)

abbrev FirstWord : ℕ → List ℕ → Type 0
FirstWord c t = (w : List ℕ) × (ws : List (List ℕ)) × (loose_words_of (c ∷ t) ≡ (c ∷ w) ∷ ws)

unspaced : (b : Bool) → not b ≡ true → b ≡ false
unspaced true e = cc
unspaced false e = refl

first_step : (c d : ℕ) (t : List ℕ) (g : Bool) → is_space c ≡ false → not (is_space d) ≡ g → (is_space d ≡ false → FirstWord d t) → FirstWord c (d ∷ t)
first_step c d t false e h more = ([], loose_words_of (d ∷ t), rw (e, h) refl)
first_step c d t true e h more = let next = more (unspaced (is_space d) h) in (d ∷ next.0, next.1, rw (e, h) (ap (before_first c) next.2))

first_word : (c : ℕ) (t : List ℕ) → is_space c ≡ false → FirstWord c t
first_word c [] e = ([], [], rw e refl)
first_word c (d ∷ t) e = first_step c d t (not (is_space d)) e refl (first_word d t)

token_first : (b : ℕ) (xs ys : List (List ℕ)) → 0 < length xs → before_first b xs ++ ys ≡ before_first b (xs ++ ys)
token_first b [] ys some = absurd (omega arith)
token_first b (x ∷ xs) ys some = refl

pushed_some : (b : ℕ) (xs : List (List ℕ)) → 0 < length (before_first b xs)
pushed_some b [] = omega arith
pushed_some b (x ∷ xs) = omega arith

some_tokens : (c : ℕ) (w : List ℕ) → is_space c ≡ false → 0 < length (tokens_of (c ∷ w))
some_tokens c w e = by (joins are_joined c w) refl
  where
    by : (g : Bool) → joins are_joined c w ≡ g → 0 < length (tokens_of (c ∷ w))
    by true h = rw (e, h) (pushed_some c (tokens_of w))
    by false h = rw (e, h) (omega arith)

lone_token : (b : ℕ) → is_space b ≡ false → tokens_of (b ∷ []) ≡ (b ∷ []) ∷ []
lone_token b e = rw e refl

lone_word : (b : ℕ) → is_space b ≡ false → loose_words_of (b ∷ []) ≡ (b ∷ []) ∷ []
lone_word b e = rw e refl

apart_words : (b c : ℕ) (t : List ℕ) → is_space b ≡ false → is_space c ≡ true → loose_words_of (b ∷ c ∷ t) ≡ (b ∷ []) ∷ loose_words_of (c ∷ t)
apart_words b c t e h = rw (e, h) refl

apart_tokens : (b c : ℕ) (t : List ℕ) → is_space b ≡ false → are_joined b c ≡ false → tokens_of (b ∷ c ∷ t) ≡ (b ∷ []) ∷ tokens_of (c ∷ t)
apart_tokens b c t e h = rw (e, h) refl

joined_tokens : (b c : ℕ) (t : List ℕ) → is_space b ≡ false → are_joined b c ≡ true → tokens_of (b ∷ c ∷ t) ≡ before_first b (tokens_of (c ∷ t))
joined_tokens b c t e h = rw (e, h) refl

joined_words : (b c : ℕ) (t : List ℕ) → is_space b ≡ false → is_space c ≡ false → loose_words_of (b ∷ c ∷ t) ≡ before_first b (loose_words_of (c ∷ t))
joined_words b c t e h = rw (e, h) refl

-- where both bytes are of one word
within_word : (b c : ℕ) (t w : List ℕ) (ws : List (List ℕ)) (g : Bool) → is_space b ≡ false → is_space c ≡ false → are_joined b c ≡ g → tokens_of (c ∷ w) ++ tokens_in ws ≡ tokens_of (c ∷ t)
    → tokens_of (b ∷ c ∷ w) ++ tokens_in ws ≡ tokens_of (b ∷ c ∷ t)
within_word b c t w ws true e h j more =
    ap (λ ts. ts ++ tokens_in ws) (joined_tokens b c w e j) ∙ token_first b (tokens_of (c ∷ w)) (tokens_in ws) (some_tokens c w h) ∙ ap (before_first b) more ∙ sym (joined_tokens b c t e j)
within_word b c t w ws false e h j more =
    ap (λ ts. ts ++ tokens_in ws) (apart_tokens b c w e j) ∙ ap (λ ts. (b ∷ []) ∷ ts) more ∙ sym (apart_tokens b c t e j)

tokens_step : (b c : ℕ) (t : List ℕ) (g : Bool) → is_space b ≡ false → is_space c ≡ g → tokens_in (loose_words_of (c ∷ t)) ≡ tokens_of (c ∷ t) → tokens_in (loose_words_of (b ∷ c ∷ t)) ≡ tokens_of (b ∷ c ∷ t)
tokens_step b c t true e h more =
    ap tokens_in (apart_words b c t e h) ∙ ap (λ ts. ts ++ tokens_in (loose_words_of (c ∷ t))) (lone_token b e) ∙ ap (λ ts. (b ∷ []) ∷ ts) more ∙ sym (apart_tokens b c t e (gap_ends b c e h))
tokens_step b c t false e h more =
    let first = first_word c t h in
    ap tokens_in (joined_words b c t e h ∙ ap (before_first b) first.2) ∙ within_word b c t first.0 first.1 (are_joined b c) e h refl (sym (ap tokens_in first.2) ∙ more)

tokens_next : (b c : ℕ) (t : List ℕ) (g : Bool) → is_space b ≡ g → tokens_in (loose_words_of (c ∷ t)) ≡ tokens_of (c ∷ t) → tokens_in (loose_words_of (b ∷ c ∷ t)) ≡ tokens_of (b ∷ c ∷ t)
tokens_next b c t true e more = rw e more
tokens_next b c t false e more = tokens_step b c t (is_space c) e refl more

tokens_last : (b : ℕ) (g : Bool) → is_space b ≡ g → tokens_in (loose_words_of (b ∷ [])) ≡ tokens_of (b ∷ [])
tokens_last b true e = rw e refl
tokens_last b false e = ap tokens_in (lone_word b e) ∙ ap (λ ts. ts ++ []) (lone_token b e) ∙ sym (lone_token b e)

pub tokens_again : (t : List ℕ) → tokens_in (loose_words_of t) ≡ tokens_of t
tokens_again [] = refl
tokens_again (b ∷ []) = tokens_last b (is_space b) refl
tokens_again (b ∷ c ∷ t) = tokens_next b c t (is_space b) refl (tokens_again (c ∷ t))

-- the words of a clause's line
pub clause_words : (t : List ℕ) → loose_words_of (codes "require " ++ t) ≡ codes "require" ∷ loose_words_of t
clause_words t = refl

-- The canonical text of a formula, cut into tokens, says the signs of its canonical tree.
use Rattle.std.proofs.Common.{ℕ, ◌≡◌, ◌<◌, Bool, true, false, ◌&&◌, ◌==◌, nat_le, Option, Some, None, List, [], ◌∷◌, ◌++◌, map, length, codes, refl, ap, ◌∙◌, arith, append_assoc}
use Rattle.std.proofs.lemmas.Bool.Decides.{nat_tests}
use Rattle.std.specs.Char.{is_ascii_alphabetic}
use Rattle.std.specs.List.{list_all}
use Rattle.pair_structure.specs.Parts.{Names, name_at}
use Rattle.pair_structure.specs.Name.{is_name_byte, is_name}
use Rattle.pair_structure.specs.declared.side.Side.{Side}
use Rattle.pair_structure.specs.declared.side.Side.TheVariants.{A, B}
use Rattle.ctl_form.specs.Form.{Form, truth, falsity, at, neg, both, either, implies, next, always, sometime, until}
use Rattle.formula_text.specs.declared.sign.Leaf.TheVariants.{Yes, No, At}
use Rattle.formula_text.specs.declared.sign.Mark.TheVariants.{And, Or, Arrow, Close, Left, Right}
use Rattle.formula_text.specs.declared.sign.Prefix.{Prefix}
use Rattle.formula_text.specs.declared.sign.Prefix.TheVariants.{Not, Next, Always, Sometime}
use Rattle.formula_text.specs.declared.sign.Sign.{Sign}
use Rattle.formula_text.specs.declared.sign.Sign.TheVariants.{Alone, Before, Open, Behind, Path, Until}
use Rattle.formula_text.specs.Canonical.{AreNames, IsOver}
use Rattle.formula_text.specs.FormulaText.{formula_text, path_letter, side_letters, until_letter}
use Rattle.formula_text.specs.Sign.{sign_of, signs_of}
use Rattle.strict_text.specs.Pieces.{is_space}
use Rattle.formula_text.specs.Token.{tokens_of, is_word_byte, are_joined}
use Rattle.formula_text.specs.Tree.{Tree, leaf, prefixed, grouped, conjunction, disjunction, implication, waits, signs}
use Rattle.strict_text.proofs.Positions.{both_true}

-- the spelling that the canonical text is
abbrev pub tree_of : Form → Tree
tree_of truth = leaf Yes
tree_of falsity = leaf No
tree_of (at side p) = leaf (At side (Some p))
tree_of (neg f) = prefixed Not (tree_of f)
tree_of (both f g) = grouped (conjunction (tree_of f) (tree_of g))
tree_of (either f g) = grouped (disjunction (tree_of f) (tree_of g))
tree_of (implies f g) = grouped (implication (tree_of f) (tree_of g))
tree_of (next all side f) = prefixed (Next all side) (tree_of f)
tree_of (always all f) = prefixed (Always all) (tree_of f)
tree_of (sometime all f) = prefixed (Sometime all) (tree_of f)
tree_of (until all weak f g) = waits all weak (tree_of f) (tree_of g)

-- the signs of what a text says
abbrev said : Names → Names → List ℕ → List Sign
said a b bytes = signs_of a b (tokens_of bytes)

abbrev AreWords : List ℕ → Type 0
AreWords [] = Unit {0}
AreWords (b ∷ w) = (is_word_byte b ≡ true) × AreWords w

-- no word goes on there
abbrev IsApart : List ℕ → Type 0
IsApart [] = Unit {0}
IsApart (c ∷ rest) = is_word_byte c ≡ false

word_no_gap : (b : ℕ) → is_word_byte b ≡ true → is_space b ≡ false
word_no_gap b e = grind (arith, nat_tests)

words_join : (b c : ℕ) → is_word_byte b ≡ true → is_word_byte c ≡ true → are_joined b c ≡ true
words_join b c e f = rw (e, f) refl

word_no_dash : (b : ℕ) → is_word_byte b ≡ true → (b == 45) ≡ false
word_no_dash b e = grind (arith, nat_tests)

apart_joins : (b c : ℕ) → is_word_byte b ≡ true → is_word_byte c ≡ false → are_joined b c ≡ false
apart_joins b c e f = let d = word_no_dash b e in rw (e, f, d) refl

word_token : (b : ℕ) (w rest : List ℕ) → AreWords (b ∷ w) → IsApart rest → tokens_of ((b ∷ w) ++ rest) ≡ (b ∷ w) ∷ tokens_of rest
word_token b [] [] words apart = let gap = word_no_gap b words.0 in rw gap refl
word_token b [] (c ∷ rest) words apart = let gap = word_no_gap b words.0 in let joined = apart_joins b c words.0 apart in rw (gap, joined) refl
word_token b (c ∷ w) rest words apart =
    let gap = word_no_gap b words.0 in
    let joined = words_join b c words.0 words.1.0 in
    let more = word_token c w rest words.1 apart in rw (gap, joined, more) refl

said_word : (a b : Names) (x : ℕ) (w rest : List ℕ) → AreWords (x ∷ w) → IsApart rest → said a b ((x ∷ w) ++ rest) ≡ sign_of a b (x ∷ w) ∷ said a b rest
said_word a b x w rest words apart = ap (map (sign_of a b)) (word_token x w rest words apart)

-- a byte that joins nothing is a token
lone : (a b : Names) (c : ℕ) (rest : List ℕ) → is_space c ≡ false → ((d : ℕ) → are_joined c d ≡ false) → said a b (c ∷ rest) ≡ sign_of a b (c ∷ []) ∷ said a b rest
lone a b c [] gap apart = rw gap refl
lone a b c (d ∷ rest) gap apart = let joined = apart d in rw (gap, joined) refl

letter_word : (b : ℕ) → is_ascii_alphabetic b ≡ true → is_word_byte b ≡ true
letter_word b e = grind (arith, nat_tests)

name_byte_word : (b : ℕ) → is_name_byte b ≡ true → is_word_byte b ≡ true
name_byte_word b e = grind (arith, nat_tests)

name_bytes_words : (w : List ℕ) → list_all is_name_byte w ≡ true → AreWords w
name_bytes_words [] e = tt
name_bytes_words (b ∷ w) e = let h = both_true (is_name_byte b) (list_all is_name_byte w) e in (name_byte_word b h.0, name_bytes_words w h.1)

name_words : (name : List ℕ) → is_name name ≡ true → AreWords name
name_words [] e = cc
name_words (first ∷ rest) e =
    let h = both_true (is_ascii_alphabetic first && nat_le (length rest) 15) (list_all is_name_byte rest) e in
    let k = both_true (is_ascii_alphabetic first) (nat_le (length rest) 15) h.0 in
    (letter_word first k.0, name_bytes_words rest h.1)

-- what a text says wherever a token ends behind it
abbrev Says : Names → Names → List ℕ → List Sign → Type 0
Says a b text ss = (rest : List ℕ) → IsApart rest → said a b (text ++ rest) ≡ ss ++ said a b rest

prefix_says : (a b : Names) (p : Prefix) (front text : List ℕ) (ss : List Sign) → ((r : List ℕ) → said a b (front ++ r) ≡ Before p ∷ said a b r) → Says a b text ss → Says a b (front ++ text) (Before p ∷ ss)
prefix_says a b p front text ss first more rest apart =
    ap (said a b) (append_assoc front text rest) ∙ first (text ++ rest) ∙ ap (λ r. Before p ∷ r) (more rest apart)

text_shape : (c : ℕ) (F mid G end rest : List ℕ) → ((((((c ∷ []) ++ F) ++ mid) ++ G) ++ end) ++ rest) ≡ c ∷ (F ++ (mid ++ (G ++ (end ++ rest))))
text_shape c F mid G end rest = simp append_assoc

group_shape : (sf sg R : List Sign) (o m e : Sign) → o ∷ (sf ++ (m ∷ (sg ++ (e ∷ R)))) ≡ (o ∷ ((sf ++ (m ∷ sg)) ++ (e ∷ []))) ++ R
group_shape sf sg R o m e = simp append_assoc

-- two texts in round parentheses, with a mark between them
group_says : (a b : Names) (F G mid : List ℕ) (sf sg : List Sign) (m : Sign) → Says a b F sf → Says a b G sg → ((r : List ℕ) → said a b (mid ++ r) ≡ m ∷ said a b r) → ((r : List ℕ) → IsApart (mid ++ r))
    → Says a b (((((40 ∷ []) ++ F) ++ mid) ++ G) ++ (41 ∷ [])) (Open ∷ ((sf ++ (m ∷ sg)) ++ (Behind Close ∷ [])))
group_says a b F G mid sf sg m first second middle apart rest end =
    let ends = lone a b 41 rest refl (λ d. refl) in
    let tail = second (41 ∷ rest) refl ∙ ap (λ r. sg ++ r) ends in
    let more = first (mid ++ (G ++ (41 ∷ rest))) (apart (G ++ (41 ∷ rest))) ∙ ap (λ r. sf ++ r) (middle (G ++ (41 ∷ rest)) ∙ ap (λ r. m ∷ r) tail) in
    ap (said a b) (text_shape 40 F mid G (41 ∷ []) rest) ∙ lone a b 40 (F ++ (mid ++ (G ++ (41 ∷ rest)))) refl (λ d. refl) ∙ ap (λ r. Open ∷ r) more ∙ group_shape sf sg (said a b rest) Open m (Behind Close)

and_says : (a b : Names) (r : List ℕ) → said a b (codes " & " ++ r) ≡ Behind And ∷ said a b r
and_says a b r = lone a b 38 (32 ∷ r) refl (λ d. refl)

or_says : (a b : Names) (r : List ℕ) → said a b (codes " | " ++ r) ≡ Behind Or ∷ said a b r
or_says a b r = lone a b 124 (32 ∷ r) refl (λ d. refl)

arrow_says : (a b : Names) (r : List ℕ) → said a b (codes " -> " ++ r) ≡ Behind Arrow ∷ said a b r
arrow_says a b r = refl

wait_shape : (c : ℕ) (F mid G end rest : List ℕ) → ((((((c ∷ 91 ∷ []) ++ F) ++ (32 ∷ [])) ++ mid) ++ G) ++ end) ++ rest ≡ c ∷ 91 ∷ (F ++ (32 ∷ (mid ++ (G ++ (end ++ rest)))))
wait_shape c F mid G end rest = simp append_assoc

wait_signs : (sf sg R : List Sign) (o l m e : Sign) → o ∷ l ∷ (sf ++ (m ∷ (sg ++ (e ∷ R)))) ≡ (o ∷ l ∷ (sf ++ (m ∷ (sg ++ (e ∷ []))))) ++ R
wait_signs sf sg R o l m e = simp append_assoc

path_says : (a b : Names) (all : Bool) (r : List ℕ) → said a b (path_letter all ∷ 91 ∷ r) ≡ Path all ∷ Behind Left ∷ said a b r
path_says a b true r = said_word a b 65 [] (91 ∷ r) (refl, tt) refl ∙ ap (λ s. Path true ∷ s) (lone a b 91 r refl (λ d. refl))
path_says a b false r = said_word a b 69 [] (91 ∷ r) (refl, tt) refl ∙ ap (λ s. Path false ∷ s) (lone a b 91 r refl (λ d. refl))

until_says : (a b : Names) (weak : Bool) (r : List ℕ) → said a b (32 ∷ ((until_letter weak ∷ codes " ") ++ r)) ≡ Until weak ∷ said a b r
until_says a b true r = said_word a b 87 [] (32 ∷ r) (refl, tt) refl
until_says a b false r = said_word a b 85 [] (32 ∷ r) (refl, tt) refl

wait_says : (a b : Names) (all weak : Bool) (F G : List ℕ) (sf sg : List Sign) → Says a b F sf → Says a b G sg
    → Says a b (((((path_letter all ∷ codes "[") ++ F) ++ codes " ") ++ (until_letter weak ∷ codes " ")) ++ G ++ codes "]") (Path all ∷ Behind Left ∷ (sf ++ (Until weak ∷ (sg ++ (Behind Right ∷ [])))))
wait_says a b all weak F G sf sg first second rest end =
    let ends = lone a b 93 rest refl (λ d. refl) in
    let tail = second (93 ∷ rest) refl ∙ ap (λ r. sg ++ r) ends in
    let mid : List ℕ = until_letter weak ∷ codes " " in
    let more = first (32 ∷ ((until_letter weak ∷ codes " ") ++ (G ++ (93 ∷ rest)))) refl ∙ ap (λ r. sf ++ r) (until_says a b weak (G ++ (93 ∷ rest)) ∙ ap (λ r. Until weak ∷ r) tail) in
    ap (said a b) (wait_shape (path_letter all) F (until_letter weak ∷ codes " ") G (93 ∷ []) rest) ∙ path_says a b all (F ++ (32 ∷ ((until_letter weak ∷ codes " ") ++ (G ++ (93 ∷ rest))))) ∙ ap (λ r. Path all ∷ Behind Left ∷ r) more
    ∙ wait_signs sf sg (said a b rest) (Path all) (Behind Left) (Until weak) (Behind Right)

next_says : (a b : Names) (all : Bool) (side : Option Side) (r : List ℕ) → said a b ((((path_letter all ∷ codes "X") ++ side_letters side) ++ codes " ") ++ r) ≡ Before (Next all side) ∷ said a b r
next_says a b true None r = said_word a b 65 (88 ∷ []) (32 ∷ r) (refl, (refl, tt)) refl
next_says a b false None r = said_word a b 69 (88 ∷ []) (32 ∷ r) (refl, (refl, tt)) refl
next_says a b true (Some A) r = said_word a b 65 (88 ∷ 97 ∷ []) (32 ∷ r) (refl, (refl, (refl, tt))) refl
next_says a b false (Some A) r = said_word a b 69 (88 ∷ 97 ∷ []) (32 ∷ r) (refl, (refl, (refl, tt))) refl
next_says a b true (Some B) r = said_word a b 65 (88 ∷ 98 ∷ []) (32 ∷ r) (refl, (refl, (refl, tt))) refl
next_says a b false (Some B) r = said_word a b 69 (88 ∷ 98 ∷ []) (32 ∷ r) (refl, (refl, (refl, tt))) refl

always_says : (a b : Names) (all : Bool) (r : List ℕ) → said a b ((path_letter all ∷ codes "G ") ++ r) ≡ Before (Always all) ∷ said a b r
always_says a b true r = said_word a b 65 (71 ∷ []) (32 ∷ r) (refl, (refl, tt)) refl
always_says a b false r = said_word a b 69 (71 ∷ []) (32 ∷ r) (refl, (refl, tt)) refl

sometime_says : (a b : Names) (all : Bool) (r : List ℕ) → said a b ((path_letter all ∷ codes "F ") ++ r) ≡ Before (Sometime all) ∷ said a b r
sometime_says a b true r = said_word a b 65 (70 ∷ []) (32 ∷ r) (refl, (refl, tt)) refl
sometime_says a b false r = said_word a b 69 (70 ∷ []) (32 ∷ r) (refl, (refl, tt)) refl

atom_a_says : (a b : Names) (p : ℕ) → AreNames a → p < length a → Says a b (codes "a." ++ name_at a p) (Alone (At A (Some p)) ∷ [])
atom_a_says a b p names lt rest apart =
    let name = names.each_name p lt in let once = names.each_once p lt in
    let sign : sign_of a b (97 ∷ 46 ∷ name_at a p) ≡ Alone (At A (Some p)) = rw (name, once) refl in
    said_word a b 97 (46 ∷ name_at a p) rest (refl, (refl, name_words (name_at a p) name)) apart ∙ ap (λ s. s ∷ said a b rest) sign

atom_b_says : (a b : Names) (p : ℕ) → AreNames b → p < length b → Says a b (codes "b." ++ name_at b p) (Alone (At B (Some p)) ∷ [])
atom_b_says a b p names lt rest apart =
    let name = names.each_name p lt in let once = names.each_once p lt in
    let sign : sign_of a b (98 ∷ 46 ∷ name_at b p) ≡ Alone (At B (Some p)) = rw (name, once) refl in
    said_word a b 98 (46 ∷ name_at b p) rest (refl, (refl, name_words (name_at b p) name)) apart ∙ ap (λ s. s ∷ said a b rest) sign

pub text_says : (a b : Names) (f : Form) → AreNames a → AreNames b → IsOver a b f → Says a b (formula_text a b f) (signs (tree_of f))
text_says a b truth na nb over = λ rest apart. said_word a b 116 (114 ∷ 117 ∷ 101 ∷ []) rest (refl, (refl, (refl, (refl, tt)))) apart
text_says a b falsity na nb over = λ rest apart. said_word a b 102 (97 ∷ 108 ∷ 115 ∷ 101 ∷ []) rest (refl, (refl, (refl, (refl, (refl, tt))))) apart
text_says a b (at A p) na nb over = atom_a_says a b p na over
text_says a b (at B p) na nb over = atom_b_says a b p nb over
text_says a b (neg f) na nb over = prefix_says a b Not (33 ∷ []) (formula_text a b f) (signs (tree_of f)) (λ r. lone a b 33 r refl (λ d. refl)) (text_says a b f na nb over)
text_says a b (both f g) na nb over =
    group_says a b (formula_text a b f) (formula_text a b g) (codes " & ") (signs (tree_of f)) (signs (tree_of g)) (Behind And) (text_says a b f na nb over.0) (text_says a b g na nb over.1) (and_says a b) (λ r. refl)
text_says a b (either f g) na nb over =
    group_says a b (formula_text a b f) (formula_text a b g) (codes " | ") (signs (tree_of f)) (signs (tree_of g)) (Behind Or) (text_says a b f na nb over.0) (text_says a b g na nb over.1) (or_says a b) (λ r. refl)
text_says a b (implies f g) na nb over =
    group_says a b (formula_text a b f) (formula_text a b g) (codes " -> ") (signs (tree_of f)) (signs (tree_of g)) (Behind Arrow) (text_says a b f na nb over.0) (text_says a b g na nb over.1) (arrow_says a b) (λ r. refl)
text_says a b (next all side f) na nb over =
    prefix_says a b (Next all side) (((path_letter all ∷ codes "X") ++ side_letters side) ++ codes " ") (formula_text a b f) (signs (tree_of f)) (next_says a b all side) (text_says a b f na nb over)
text_says a b (always all f) na nb over = prefix_says a b (Always all) (path_letter all ∷ codes "G ") (formula_text a b f) (signs (tree_of f)) (always_says a b all) (text_says a b f na nb over)
text_says a b (sometime all f) na nb over = prefix_says a b (Sometime all) (path_letter all ∷ codes "F ") (formula_text a b f) (signs (tree_of f)) (sometime_says a b all) (text_says a b f na nb over)
text_says a b (until all weak f g) na nb over =
    wait_says a b all weak (formula_text a b f) (formula_text a b g) (signs (tree_of f)) (signs (tree_of g)) (text_says a b f na nb over.0) (text_says a b g na nb over.1)

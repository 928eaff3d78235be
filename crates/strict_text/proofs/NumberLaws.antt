-- Which words are the decimal text of a number.
use Rattle.std.proofs.Common.{ℕ, zero, suc, ◌≡◌, ◌≢◌, ◌<◌, ◌≤◌, ◌^◌, true, false, List, [], ◌∷◌, Result, Ok, Err, length, get_or, refl, arith, sym, decimal, ◌∙◌}
use Rattle.std.proofs.lemmas.Bool.Decides.{nat_tests}
use Rattle.std.proofs.lemmas.Fmt.{decimal_digit, first_decimal, decimal_nonempty, digits_decimal, decimal-digits_value, parse-decimal, IsAscii-decimal}
use Rattle.std.proofs.lemmas.Str.Parse.{IsNumeralModel, numerals_by_value, tells_digits, digit_at, parse_plain}
use Rattle.std.proofs.lemmas.Str.{IsUtf8-from_ascii}
use Rattle.std.specs.Str.{IsUtf8}
use Rattle.std.specs.Str.Parse.{AllDigits, digits_value, ParsesUnsigned}
use Rattle.strict_text.specs.inside.Number.{begins_plainly}
use Rattle.strict_text.specs.Spaced.{IsWord}

own : IsNumeralModel (AllDigits 10) (digits_value 10)
own = numerals_by_value (AllDigits 10) tells_digits

pub decimal_digits : (n : ℕ) → n < 2 ^ 64 → AllDigits 10 (decimal n)
decimal_digits n small = digits_decimal own n small

leads : (ds : List ℕ) → 0 < length ds → 48 < get_or ds 0 0 → get_or ds 0 0 ≤ 57 → begins_plainly ds ≡ true
leads [] some low high = absurd (omega arith)
leads (b ∷ []) some low high = grind (arith, nat_tests)
leads (b ∷ c ∷ ds) some low high = grind (arith, nat_tests)

-- the decimal text of a number is the digit 0, or begins with another digit
pub decimal_plain : (n : ℕ) → n < 2 ^ 64 → begins_plainly (decimal n) ≡ true
decimal_plain zero small = rw (decimal_digit 0 (omega arith)) refl
decimal_plain (suc n) small =
    let some = decimal_nonempty (suc n) small in
    let low = first_decimal (suc n) (omega arith) small in
    let range = digit_at (decimal (suc n)) 0 (decimal_digits (suc n) small) some in
    leads (decimal (suc n)) some low (omega arith)

pub not_plain : (word : List ℕ) → begins_plainly word ≡ false → (n : ℕ) → n < 2 ^ 64 → word ≡ decimal n → ⊥
not_plain word e n small is = let plain = decimal_plain n small in let same = rw is at e in cc

no_plus : (word : List ℕ) → begins_plainly word ≡ true → get_or word 0 0 ≢ 43
no_plus [] e is = cc
no_plus (b ∷ []) e is = grind (arith, nat_tests)
no_plus (b ∷ c ∷ word) e is = grind (arith, nat_tests)

alone : (word : List ℕ) → begins_plainly word ≡ true → get_or word 0 0 ≡ 48 → length word ≡ 1
alone [] e is = cc
alone (b ∷ []) e is = refl
alone (b ∷ c ∷ word) e is = grind (arith, nat_tests)

parsed_value : {E : Type 0} (word : List ℕ) (n : ℕ) (r : Result ℕ E) → begins_plainly word ≡ true → ParsesUnsigned 64 10 word r → r ≡ Ok n → word ≡ decimal n
parsed_value word n r plain h is =
    let p = parse_plain own 64 word r h (no_plus word plain) in
    let q = rw is at p in
    let text = decimal-digits_value own word q.0.0 q.0.1 (alone word plain) q.0.2 in
    rw (sym q.1) at (sym text)

-- a text that begins plainly and is parsed is the decimal text of what it gives
pub parsed_is_decimal : {E : Type 0} (text word : List ℕ) (n : ℕ) (r : Result ℕ E) → text ≡ word → begins_plainly word ≡ true → ParsesUnsigned 64 10 text r → r ≡ Ok n → word ≡ decimal n
parsed_is_decimal text word n r same plain h is = parsed_value word n r plain (rw same at h) is

pub unparsed_is_none : {E : Type 0} (text word : List ℕ) (e : E) (r : Result ℕ E) → text ≡ word → ParsesUnsigned 64 10 text r → r ≡ Err e → (n : ℕ) → n < 2 ^ 64 → word ≡ decimal n → ⊥
unparsed_is_none text word e r same h is n small number = let given = parse-decimal 64 n text r small small (same ∙ number) h in cc

pub number_utf8 : (word : List ℕ) (n : ℕ) → n < 2 ^ 64 → word ≡ decimal n → IsUtf8 word
number_utf8 word n small is = rw is (IsUtf8-from_ascii (decimal n) (IsAscii-decimal n small))

digits_word : (ds : List ℕ) → AllDigits 10 ds → IsWord ds
digits_word [] h = tt
digits_word (c ∷ cs) h = let p = tells_digits.parts c cs h in (omega arith, omega arith, digits_word cs p.1)

-- the decimal text of a number is a word
pub decimal_word : (n : ℕ) → n < 2 ^ 64 → IsWord (decimal n)
decimal_word n small = digits_word (decimal n) (decimal_digits n small)

-- A word writes a number where it is the decimal text of it.
use Rattle.std.proofs.Common.{ℕ, zero, suc, ◌≡◌, ◌<◌, ◌≤◌, ◌^◌, ◌∙◌, Bool, true, false, Option, Some, None, List, [], ◌∷◌, length, get_or, refl, sym, ap, arith, decimal}
use Rattle.std.specs.Prelude.{IfSome, IfNone, nat_lt, if◌then◌else◌, ◌&&◌}
use Rattle.std.proofs.lemmas.Bool.{and_parts}
use Rattle.std.proofs.lemmas.Bool.Decides.{nat_tests}
use Rattle.std.proofs.lemmas.Fmt.{decimal_digit, first_decimal, decimal_nonempty, digits_decimal, digits_value-decimal, decimal-digits_value}
use Rattle.std.proofs.lemmas.Str.Parse.{IsNumeralModel, numerals_by_value, tells_all_ascii_digits}
use Rattle.std.specs.Char.{is_ascii_digit}
use Rattle.std.specs.Str.{all_ascii_digits}
use Rattle.std.specs.Str.Parse.{AllDigits, digits_value}
use Rattle.skeleton_tool.specs.Command.{begins_with_dash}
use Rattle.skeleton_tool.specs.Number.{is_numeral, number_of}

own : IsNumeralModel (λ ds. all_ascii_digits ds ≡ true) (digits_value 10)
own = numerals_by_value (λ ds. all_ascii_digits ds ≡ true) tells_all_ascii_digits

leads : (ds : List ℕ) → all_ascii_digits ds ≡ true → 0 < length ds → 48 < get_or ds 0 0 → is_numeral ds ≡ true
leads [] digits some low = absurd (omega arith)
leads (b ∷ []) digits some low = (and_parts (is_ascii_digit b) true digits).0
leads (b ∷ c ∷ ds) digits some low = let first : nat_lt 48 b ≡ true = grind (arith, nat_tests) in rw (first, digits) refl

-- the decimal text of a number is a numeral
decimal_numeral : (n : ℕ) → n < 2 ^ 64 → is_numeral (decimal n) ≡ true
decimal_numeral zero small = rw (decimal_digit 0 (omega arith)) refl
decimal_numeral (suc n) small = leads (decimal (suc n)) (digits_decimal own (suc n) small) (decimal_nonempty (suc n) small) (first_decimal (suc n) (omega arith) small)

pub number_of-decimal : (n : ℕ) → n < 2 ^ 64 → number_of (decimal n) ≡ Some n
unfolding number_of
number_of-decimal n small =
    let numeral = decimal_numeral n small in
    let value = digits_value-decimal own n small in
    let below : nat_lt n (2 ^ 64) ≡ true = grind (arith, nat_tests) in
    rw (numeral, value, below) refl

-- digits without a zero before others
record IsPlain (word : List ℕ) : Type 0 where
  digits : all_ascii_digits word ≡ true
  some : 0 < length word
  alone : get_or word 0 0 ≡ 48 → length word ≡ 1

plain : (word : List ℕ) → is_numeral word ≡ true → IsPlain word
plain [] e = absurd (let f : false ≡ true = e in cc)
plain (b ∷ []) e = record { digits = rw e refl; some = omega arith; alone = λ zero. refl }
plain (b ∷ c ∷ word) e =
    let parts = and_parts (nat_lt 48 b) (all_ascii_digits (b ∷ c ∷ word)) e in
    record { digits = parts.1; some = omega arith; alone = λ zero. absurd (let low = parts.0 in grind (arith, nat_tests)) }

some_if : (b : Bool) (v n : ℕ) → (if b then Some v else None) ≡ Some n → (b ≡ true) × (v ≡ n)
some_if true v n e = (refl, cc)
some_if false v n e = absurd (let f : None ≡ Some n = e in cc)

-- a word that writes a number is its decimal text
pub number_of_some : (word : List ℕ) (n : ℕ) → number_of word ≡ Some n → (word ≡ decimal n) × (n < 2 ^ 64)
unfolding number_of
number_of_some word n e =
    let (tests, value) = some_if (is_numeral word && nat_lt (digits_value 10 word) (2 ^ 64)) (digits_value 10 word) n e in
    let parts = and_parts (is_numeral word) (nat_lt (digits_value 10 word) (2 ^ 64)) tests in
    let p = plain word parts.0 in
    let small : digits_value 10 word < 2 ^ 64 = (let test = parts.1 in grind (arith, nat_tests)) in
    let text = decimal-digits_value own word p.digits p.some p.alone small in
    (sym (rw value at text), omega arith)

pub none_number : (word : List ℕ) (o : Option ℕ) → ((n : ℕ) → n < 2 ^ 64 → word ≡ decimal n → ⊥) → number_of word ≡ o → o ≡ None
none_number word None none e = refl
none_number word (Some n) none e = let is = number_of_some word n e in absurd (none n is.1 is.0)

-- a number begins with no dash
pub decimal_plain : (n : ℕ) → n < 2 ^ 64 → begins_with_dash (decimal n) ≡ false
decimal_plain n small = no_dash (decimal n) (digits_decimal own n small)
  where
    no_dash : (word : List ℕ) → all_ascii_digits word ≡ true → begins_with_dash word ≡ false
    no_dash [] digits = refl
    no_dash (b ∷ word) digits = let parts = and_parts (is_ascii_digit b) (all_ascii_digits word) digits in let first = parts.0 in grind (arith, nat_tests)

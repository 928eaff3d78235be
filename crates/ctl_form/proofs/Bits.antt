-- Bits in words of 64 as a list of truth values.
use Rattle.std.proofs.Common.{ℕ, ◌≡◌, ◌≢◌, ◌↔◌, ◌<◌, ◌+◌, ◌-◌, ◌==◌, ◌&&◌, ◌/◌, ◌%◌, Bool, true, false, not, min, inl, inr, List, length, refl, subst, sym, ap, ◌∙◌, arith, eq-eqb, max, replicate, slice_index, slice_set, get_or-set_same, get_or-set_other, length-set, slice_index_or}
use Rattle.std.proofs.Math.Decide.{ℕ_discrete}
use Rattle.std.specs.Int.{bit_at}
use Rattle.std.proofs.lemmas.List.{ext_get_or, get_or-replicate, length-replicate}
use Rattle.std.proofs.lemmas.Bool.{cases_lt}
use Rattle.std.proofs.lemmas.Bool.Decides.{nat_tests}
use Rattle.std.proofs.lemmas.Grind.{get_or_default_zero}
use Rattle.std.proofs.lemmas.List.FromFn.{length-map-range_with_len, get_or-map-range_with_len}
use Rattle.std.proofs.lemmas.Nat.Bits.{bit_at_or, bit_at-pow_same, bit_at-pow_other, bit_at-zero, bit_at-lt, bit_at_and}
use Rattle.ctl_form.specs.Row.{IsAt, IsRowOf}
use Rattle.ctl_form.specs.BitRow.{has_bit, with_bit, row_of, AreFlipped, AreMet}

-- the same word and the same bit are the same place
same_place : (i k : ℕ) → i / 64 ≡ k / 64 → i % 64 ≡ k % 64 → i ≡ k
same_place i k e f = omega (arith, e, f)

pub has_bit-with_bit_same : (words : List ℕ) (k : ℕ) → k / 64 < length words → has_bit (with_bit words k) k ≡ true
has_bit-with_bit_same words k within = rw (get_or-set_same, bit_at_or, bit_at-pow_same) (let b : bit_at (slice_index words (k / 64)) (k % 64) < 2 = bit_at-lt (slice_index words (k / 64)) (k % 64) in eq-eqb (max (bit_at (slice_index words (k / 64)) (k % 64)) 1) 1 (omega arith))

pub has_bit-with_bit_other : (words : List ℕ) (k i : ℕ) → k / 64 < length words → i ≢ k → has_bit (with_bit words k) i ≡ has_bit words i
has_bit-with_bit_other words k i within differ = elim (ℕ_discrete (i / 64) (k / 64)) [ yes e ↦ same_word e | no n ↦ (let apart : i / 64 ≢ k / 64 = n in rw get_or-set_other refl) ]
  where
    same_word : i / 64 ≡ k / 64 → has_bit (with_bit words k) i ≡ has_bit words i
    same_word e = let apart : i % 64 ≢ k % 64 = (λ f. differ (same_place i k e f)) in let x : max (bit_at (slice_index words (k / 64)) (i % 64)) 0 ≡ bit_at (slice_index words (k / 64)) (i % 64) = omega arith in rw (e, get_or-set_same, bit_at_or, bit_at-pow_other, x) refl

-- a word that was read within the list, whatever it would have been past its end
pub word_read : (words : List ℕ) (place w : ℕ) → place < length words → w ≡ slice_index_or words place w → w ≡ slice_index words place
word_read words place w within read = read ∙ get_or_default_zero words place w within

pub length-row_of : (words : List ℕ) (n : ℕ) → length (row_of words n) ≡ n
length-row_of words n = length-map-range_with_len (has_bit words) 0 n

pub get_or-row_of : (words : List ℕ) (n s : ℕ) (d : Bool) → s < n → slice_index_or (row_of words n) s d ≡ has_bit words s
get_or-row_of words n s d lt = get_or-map-range_with_len (has_bit words) 0 n s s d lt (omega arith)

pub row_of-with_bit : (words : List ℕ) (n k : ℕ) → k / 64 < length words → k < n → row_of (with_bit words k) n ≡ slice_set (row_of words n) k true
row_of-with_bit words n k within lt = ext_get_or false _ _ (length-row_of (with_bit words k) n ∙ sym (length-set (row_of words n) k true ∙ length-row_of words n)) (λ s l. at_each s (let e = length-row_of (with_bit words k) n in omega (arith, l, e)))
  where
    at_each : (s : ℕ) → s < n → slice_index_or (row_of (with_bit words k) n) s false ≡ slice_index_or (slice_set (row_of words n) k true) s false
    at_each s l = get_or-row_of (with_bit words k) n s false l ∙ by (ℕ_discrete s k)
      where
        by : Dec (s ≡ k) → has_bit (with_bit words k) s ≡ slice_index_or (slice_set (row_of words n) k true) s false
        by d = elim d [ yes e ↦ (let within_row : k < length (row_of words n) = omega (arith, length-row_of words n) in subst (λ i. has_bit (with_bit words k) i ≡ slice_index_or (slice_set (row_of words n) k true) i false) (sym e) (has_bit-with_bit_same words k within ∙ sym (get_or-set_same (row_of words n) k true false within_row))) | no apart ↦ (let differ : s ≢ k = apart in has_bit-with_bit_other words k s within differ ∙ sym (get_or-row_of words n s false l) ∙ sym (get_or-set_other (row_of words n) k s true false differ)) ]

pub row_of-zeros : (n k : ℕ) → n / 64 < k → row_of (replicate k 0) n ≡ replicate n false
row_of-zeros n k within = ext_get_or false _ _ (length-row_of (replicate k 0) n ∙ sym (length-replicate n false)) (λ s l. at_each s (let e = length-row_of (replicate k 0) n in omega (arith, l, e)))
  where
    at_each : (s : ℕ) → s < n → slice_index_or (row_of (replicate k 0) n) s false ≡ slice_index_or (replicate n false) s false
    at_each s l = let in_word : s / 64 < k = omega arith in rw (get_or-row_of, get_or-replicate, get_or-replicate, bit_at-zero) refl

-- a row that is held as bits: what its words say
module _ (words : List ℕ) (n : ℕ) (row : List Bool) (held : row_of words n ≡ row) where
  pub length_held : length row ≡ n
  length_held = sym (ap length held) ∙ length-row_of words n

  pub word_within : (s : ℕ) → length words ≡ n / 64 + 1 → s < length row → s / 64 < length words
  word_within s enough lt = omega (arith, enough, lt, length_held)

  pub get_or-held : (s : ℕ) → s < length row → has_bit words s ≡ slice_index_or row s false
  get_or-held s lt = sym (get_or-row_of words n s false (omega (arith, lt, length_held))) ∙ ap (λ (r : List Bool). slice_index_or r s false) held

  pub row_of-with_bit_held : (s : ℕ) → length words ≡ n / 64 + 1 → s < length row → row_of (with_bit words s) n ≡ slice_set row s true
  row_of-with_bit_held s enough lt = row_of-with_bit words n s (word_within s enough lt) (omega (arith, lt, length_held)) ∙ ap (λ (r : List Bool). slice_set r s true) held

bit_flips : (b : ℕ) → b < 2 → (1 - b == 1) ≡ not (b == 1)
bit_flips b lt = elim (cases_lt b 1) [ inl l ↦ (let e : b ≡ 0 = omega (arith, l) in subst (λ x. (1 - x == 1) ≡ not (x == 1)) (sym e) refl) | inr g ↦ (let e : b ≡ 1 = omega (arith, g, lt) in subst (λ x. (1 - x == 1) ≡ not (x == 1)) (sym e) refl) ]

bits_meet : (b d : ℕ) → b < 2 → d < 2 → (min b d == 1) ≡ ((b == 1) && (d == 1))
bits_meet b d lt lt' = grind (arith, nat_tests)

has_bit-flipped : (words made : List ℕ) (s : ℕ) → AreFlipped words made → s / 64 < length words → has_bit made s ≡ not (has_bit words s)
has_bit-flipped words made s h within = rw (h.each (s / 64) (s % 64) within (omega arith)) (bit_flips (bit_at (slice_index words (s / 64)) (s % 64)) (bit_at-lt (slice_index words (s / 64)) (s % 64)))

has_bit-met : (words others both : List ℕ) (s : ℕ) → AreMet words others both → s / 64 < length words → has_bit both s ≡ (has_bit words s && has_bit others s)
has_bit-met words others both s h within = rw (h.each (s / 64) within, bit_at_and) (bits_meet (bit_at (slice_index words (s / 64)) (s % 64)) (bit_at (slice_index others (s / 64)) (s % 64)) (bit_at-lt (slice_index words (s / 64)) (s % 64)) (bit_at-lt (slice_index others (s / 64)) (s % 64)))

-- a truth value that is not true is false
at_not : (b : Bool) → (not b ≡ true) ↔ (b ≡ true → ⊥)
at_not true = (λ h _. let e : false ≡ true = h in cc, λ h. absurd (h refl))
at_not false = (λ _ h. let e : false ≡ true = h in cc, λ _. refl)

at_both : (b d : Bool) → ((b && d) ≡ true) ↔ ((b ≡ true) × (d ≡ true))
at_both true true = (λ _. (refl, refl), λ _. refl)
at_both true false = (λ h. let e : false ≡ true = h in cc, λ h. h.1)
at_both false d = (λ h. let e : false ≡ true = h in cc, λ h. h.0)

pub IsRowOf-flipped : (words made : List ℕ) (n : ℕ) (row : List Bool) → row_of words n ≡ row → length words ≡ n / 64 + 1 → AreFlipped words made → IsRowOf (length row) (λ s. IsAt row s → ⊥) (row_of made n)
IsRowOf-flipped words made n row held enough flipped = record { long = length-row_of made n ∙ sym (length_held words n row held); exact = at_each }
  where
    at_each : (s : ℕ) → s < length row → IsAt (row_of made n) s ↔ (IsAt row s → ⊥)
    at_each s lt = rw (get_or-row_of made n s false (omega (arith, lt, length_held words n row held)), has_bit-flipped words made s flipped (word_within words n row held s enough lt), get_or-held words n row held s lt) (at_not (slice_index_or row s false))

pub IsRowOf-met : (words others made : List ℕ) (n k : ℕ) (row other : List Bool) → row_of words n ≡ row → row_of others k ≡ other → length words ≡ n / 64 + 1 → length row ≡ length other → AreMet words others made → IsRowOf (length row) (λ s. IsAt row s × IsAt other s) (row_of made n)
IsRowOf-met words others made n k row other held held' enough same met = record { long = length-row_of made n ∙ sym (length_held words n row held); exact = at_each }
  where
    at_each : (s : ℕ) → s < length row → IsAt (row_of made n) s ↔ (IsAt row s × IsAt other s)
    at_each s lt = rw (get_or-row_of made n s false (omega (arith, lt, length_held words n row held)), has_bit-met words others made s met (word_within words n row held s enough lt), get_or-held words n row held s lt, get_or-held others k other held' s (omega (arith, lt, same))) (at_both (slice_index_or row s false) (slice_index_or other s false))

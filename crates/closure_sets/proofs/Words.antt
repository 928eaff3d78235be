-- The set that eight words hold.
use Rattle.std.proofs.Common.{ℕ, ◌≡◌, ◌≢◌, ◌<◌, ◌≤◌, ◌+◌, ◌-◌, ◌*◌, ◌/◌, ◌%◌, ◌&&◌, ◌||◌, not, Bool, true, false, List, Some, None, cond, length, refl, subst, sym, ◌∙◌, ap, arith, eqb, eqb-true, eq-eqb, ltb, slice_index, slice_set, min, max, get_or-set_same, get_or-set_other, length-set}
use Rattle.std.proofs.Math.Decide.{ℕ_discrete, dec_lt}
use Rattle.std.proofs.Math.Path.{fun_ext}
use Rattle.std.specs.Int.{bit_at}
use Rattle.std.proofs.lemmas.Bool.{lt-ltb, ltb-true}
use Rattle.std.proofs.lemmas.Bool.Decides.{nat_tests}
use Rattle.std.proofs.lemmas.Nat.Bits.{bit_at_or, bit_at-pow_same, bit_at-pow_other, bit_at-lt, bit_at-zero}
use Rattle.ctl_form.specs.declared.limits.TheConstants.{MAX_MEMBERS}
use Rattle.closure_sets.specs.Expansion.{lowest, is_open, is_shared}
use Rattle.closure_sets.specs.Row.{add, set_of, with_member, IsFirstBit, some_below}
use Rattle.closure_sets.proofs.Lowest.{lowest_found, lowest_none}

-- the same word and the same bit are the same member
same_member : (i m : ℕ) → i / 64 ≡ m / 64 → i % 64 ≡ m % 64 → i ≡ m
same_member i m e f = omega (arith, e, f)

set_of-same : (words : List ℕ) (m : ℕ) → length words ≡ 8 → m < MAX_MEMBERS → set_of (with_member words m) m ≡ true
set_of-same words m long lt = let l : m / 64 < length words = omega arith in rw (get_or-set_same, bit_at_or, bit_at-pow_same) (let b : bit_at (slice_index words (m / 64)) (m % 64) < 2 = bit_at-lt (slice_index words (m / 64)) (m % 64) in eq-eqb (max (bit_at (slice_index words (m / 64)) (m % 64)) 1) 1 (omega arith))

set_of-other : (words : List ℕ) (m i : ℕ) → length words ≡ 8 → m < MAX_MEMBERS → i ≢ m → set_of (with_member words m) i ≡ set_of words i
set_of-other words m i long lt ne = elim (ℕ_discrete (i / 64) (m / 64)) [ yes e ↦ same e | no n ↦ (let n' : i / 64 ≢ m / 64 = n in rw get_or-set_other refl) ]
  where
    same : i / 64 ≡ m / 64 → set_of (with_member words m) i ≡ set_of words i
    same e = let l : m / 64 < length words = omega arith in let n : i % 64 ≢ m % 64 = (λ f. ne (same_member i m e f)) in let x : max (bit_at (slice_index words (m / 64)) (i % 64)) 0 ≡ bit_at (slice_index words (m / 64)) (i % 64) = omega arith in rw (e, get_or-set_same, bit_at_or, bit_at-pow_other, x) refl

-- a member of the set with m is m, or a member of the set
member_cases : (words : List ℕ) (m : ℕ) → length words ≡ 8 → m < MAX_MEMBERS → (i : ℕ) (b : Bool) → eqb i m ≡ b → set_of (with_member words m) i ≡ b || set_of words i
member_cases words m long lt i true e = subst (λ k. set_of (with_member words m) k ≡ true) (sym (eqb-true i m e)) (set_of-same words m long lt)
member_cases words m long lt i false e = set_of-other words m i long lt (λ same. let no : false ≡ true = sym e ∙ eq-eqb i m same in cc)

pub set_of_with_member : (words : List ℕ) (m : ℕ) → length words ≡ 8 → m < MAX_MEMBERS → set_of (with_member words m) ≡ add (set_of words) m
set_of_with_member words m long lt = fun_ext (λ i. member_cases words m long lt i (eqb i m) refl)

-- the bits of the first words are made by op of those of two rows; the other words are still the first row's
pub record AreMade (op : ℕ → ℕ → ℕ) (words others : List ℕ) (place : ℕ) (made : List ℕ) : Type 0 where
  pub long : length made ≡ length words
  pub done : (k : ℕ) → k < place → (bit : ℕ) → bit < 64 → bit_at (slice_index made k) bit ≡ op (bit_at (slice_index words k) bit) (bit_at (slice_index others k) bit)
  pub rest : (k : ℕ) → place ≤ k → slice_index made k ≡ slice_index words k

pub made_none : (op : ℕ → ℕ → ℕ) (words others : List ℕ) → AreMade op words others 0 words
made_none op words others = record { long = refl; done = λ k lt. absurd (omega (arith, lt)); rest = λ k le. refl }

-- one more word
pub made_more : (op : ℕ → ℕ → ℕ) (words others : List ℕ) (place : ℕ) (made more : List ℕ) (word : ℕ) → place < length words → AreMade op words others place made → more ≡ slice_set made place word → ((bit : ℕ) → bit < 64 → bit_at word bit ≡ op (bit_at (slice_index made place) bit) (bit_at (slice_index others place) bit)) → AreMade op words others (place + 1) more
made_more op words others place made more word lt h e each = record { long = ap length e ∙ length-set made place word ∙ h.long; done = done; rest = rest }
  where
    inside : place < length made
    inside = let l = h.long in omega (arith, lt, l)

    here : slice_index more place ≡ word
    here = ap (λ (l : List ℕ). slice_index l place) e ∙ get_or-set_same made place word 0 inside

    other : (k : ℕ) → k ≢ place → slice_index more k ≡ slice_index made k
    other k ne = ap (λ (l : List ℕ). slice_index l k) e ∙ get_or-set_other made place k word 0 ne

    at_place : (bit : ℕ) → bit < 64 → bit_at (slice_index more place) bit ≡ op (bit_at (slice_index words place) bit) (bit_at (slice_index others place) bit)
    at_place bit l = ap (λ w. bit_at w bit) here ∙ each bit l ∙ ap (λ w. op (bit_at w bit) (bit_at (slice_index others place) bit)) (h.rest place (omega arith))

    done : (k : ℕ) → k < place + 1 → (bit : ℕ) → bit < 64 → bit_at (slice_index more k) bit ≡ op (bit_at (slice_index words k) bit) (bit_at (slice_index others k) bit)
    done k l bit lb = elim (dec_lt k place) [ yes b ↦ (let ne : k ≢ place = (λ q. omega (arith, q, b)) in ap (λ w. bit_at w bit) (other k ne) ∙ h.done k b bit lb) | no g ↦ (let q : place ≡ k = omega (arith, l, g) in subst (λ j. bit_at (slice_index more j) bit ≡ op (bit_at (slice_index words j) bit) (bit_at (slice_index others j) bit)) q (at_place bit lb)) ]

    rest : (k : ℕ) → place + 1 ≤ k → slice_index more k ≡ slice_index words k
    rest k le = let ne : k ≢ place = (λ q. omega (arith, q, le)) in other k ne ∙ h.rest k (omega (arith, le))

bit_open : (b d : ℕ) → b < 2 → d < 2 → eqb (min b (1 - d)) 1 ≡ eqb b 1 && not (eqb d 1)
bit_open b d lt lt' = grind (arith, nat_tests)

bit_shared : (b d : ℕ) → b < 2 → d < 2 → eqb (min b d) 1 ≡ eqb b 1 && eqb d 1
bit_shared b d lt lt' = grind (arith, nat_tests)

abbrev pub open_bit : ℕ → ℕ → ℕ
open_bit b d = min b (1 - d)

abbrev pub shared_bit : ℕ → ℕ → ℕ
shared_bit b d = min b d

pub made_open : (words others made : List ℕ) → AreMade open_bit words others 8 made → (i : ℕ) → i < MAX_MEMBERS → set_of made i ≡ is_open (set_of words) (set_of others) i
made_open words others made h i lt = ap (λ b. eqb b 1) (h.done (i / 64) (omega (arith, lt)) (i % 64) (omega arith)) ∙ bit_open (bit_at (slice_index words (i / 64)) (i % 64)) (bit_at (slice_index others (i / 64)) (i % 64)) (bit_at-lt (slice_index words (i / 64)) (i % 64)) (bit_at-lt (slice_index others (i / 64)) (i % 64))

pub made_shared : (words others made : List ℕ) → AreMade shared_bit words others 8 made → (i : ℕ) → i < MAX_MEMBERS → set_of made i ≡ is_shared (set_of words) (set_of others) i
made_shared words others made h i lt = ap (λ b. eqb b 1) (h.done (i / 64) (omega (arith, lt)) (i % 64) (omega arith)) ∙ bit_shared (bit_at (slice_index words (i / 64)) (i % 64)) (bit_at (slice_index others (i / 64)) (i % 64)) (bit_at-lt (slice_index words (i / 64)) (i % 64)) (bit_at-lt (slice_index others (i / 64)) (i % 64))

-- the member at a bit of a word
pub member_at : (words : List ℕ) (k j : ℕ) → j < 64 → set_of words (64 * k + j) ≡ eqb (bit_at (slice_index words k) j) 1
member_at words k j lt = let p : (64 * k + j) / 64 ≡ k = omega (arith, lt) in let r : (64 * k + j) % 64 ≡ j = omega (arith, lt) in rw (p, r) refl

eqb_unset : (b : ℕ) → b ≡ 0 → eqb b 1 ≡ false
eqb_unset b e = subst (λ x. eqb x 1 ≡ false) (sym e) refl

-- no member is at the first bits of a word
bits_none : (words : List ℕ) (k n : ℕ) → n ≤ 64 → ((i : ℕ) → i < 64 * k → set_of words i ≡ false) → ((j : ℕ) → j < n → bit_at (slice_index words k) j ≡ 0) → (i : ℕ) → i < 64 * k + n → set_of words i ≡ false
bits_none words k n le before none i lt = elim (dec_lt i (64 * k)) [ yes b ↦ before i b | no g ↦ (let g' : 64 * k ≤ i = omega (arith, g) in let l : i - 64 * k < n = omega (arith, g', lt) in let q : 64 * k + (i - 64 * k) ≡ i = omega (arith, g') in subst (λ m. set_of words m ≡ false) q (member_at words k (i - 64 * k) (omega (arith, l, le)) ∙ eqb_unset (bit_at (slice_index words k) (i - 64 * k)) (none (i - 64 * k) l))) ]

pub word_none : (words : List ℕ) (k : ℕ) → slice_index words k ≡ 0 → ((i : ℕ) → i < 64 * k → set_of words i ≡ false) → (i : ℕ) → i < 64 * (k + 1) → set_of words i ≡ false
word_none words k e before i lt = bits_none words k 64 (omega arith) before (λ j _. subst (λ w. bit_at w j ≡ 0) (sym e) (bit_at-zero j)) i (omega (arith, lt))

pub lowest_below : (words : List ℕ) (k bit count : ℕ) → IsFirstBit (slice_index words k) bit → ((i : ℕ) → i < 64 * k → set_of words i ≡ false) → some_below count (64 * k + bit) ≡ lowest count (set_of words)
lowest_below words k bit count h before = elim (dec_lt (64 * k + bit) count) [ yes l ↦ ap (λ b. cond b (Some (64 * k + bit)) None) (lt-ltb (64 * k + bit) count l) ∙ sym (lowest_found count (set_of words) (64 * k + bit) l there none) | no g ↦ ap (λ b. cond b (Some (64 * k + bit)) None) (over g) ∙ sym (lowest_none count (set_of words) (λ i lt. none i (let g' : count ≤ 64 * k + bit = omega (arith, g) in omega (arith, lt, g')))) ]
  where
    there : set_of words (64 * k + bit) ≡ true
    there = member_at words k bit h.within ∙ eq-eqb (bit_at (slice_index words k) bit) 1 h.there

    none : (i : ℕ) → i < 64 * k + bit → set_of words i ≡ false
    none = bits_none words k bit (let w = h.within in omega (arith, w)) before h.first

    over : (64 * k + bit < count → ⊥) → ltb (64 * k + bit) count ≡ false
    over g = not_lt (ltb (64 * k + bit) count) refl
      where
        not_lt : (b : Bool) → ltb (64 * k + bit) count ≡ b → b ≡ false
        not_lt true e = absurd (g (ltb-true (64 * k + bit) count e))
        not_lt false e = refl

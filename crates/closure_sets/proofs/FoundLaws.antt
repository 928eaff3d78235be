-- Rows told apart by their words.
use Rattle.std.proofs.Common.{ℕ, suc, ◌≡◌, ◌≢◌, ◌<◌, ◌+◌, ◌*◌, ◌/◌, ◌%◌, ◌||◌, ◌++◌, inl, inr, Bool, true, false, cond, List, [], ◌∷◌, refl, subst, sym, ◌∙◌, ap, arith, eqb, eqb-true, eq-eqb, slice_index, All}
use Rattle.std.proofs.lemmas.Bool.{or_cases, or_left, or_right}
use Rattle.std.proofs.Math.Decide.{ℕ_discrete}
use Rattle.std.specs.BTreeMap.{is_at}
use Rattle.std.specs.BTreeSet.{BTreeSet, contains}
use Rattle.std.specs.Cmp.{tied_itself}
use Rattle.std.specs.Cmp.Lexicographic.{nat_list_cmp_total}
use Rattle.std.specs.Int.{bit_at}
use Rattle.std.specs.List.{list_any}
use Rattle.std.specs.Ordering.{is_eq}
use Rattle.std.specs.declared.cmp.Ordering.{Ordering}
use Rattle.std.specs.declared.cmp.Ordering.TheVariants.{Less, Equal, Greater}
use Rattle.std.proofs.lemmas.List.{ext_get_or, map-append}
use Rattle.std.proofs.lemmas.List.Elements.{All-push}
use Rattle.std.proofs.lemmas.List.Folds.{list_any-append}
use Rattle.std.proofs.lemmas.Map.Lookups.{exact_bytes}
use Rattle.std.proofs.lemmas.Nat.Bits.{same_from_bits_below, bit_at-lt}
use Rattle.closure_sets.specs.Firsts.{IsOneOf, IsNoted}
use Rattle.closure_sets.specs.Found.{AreWords, HasWords, IsFound, row_cmp, set_of_row, sets_of}
use Rattle.closure_sets.specs.Row.{Members, set_of}
use Rattle.closure_sets.specs.declared.row.Row.{Row}

bit_same : (x y : ℕ) → x < 2 → y < 2 → eqb x 1 ≡ eqb y 1 → x ≡ y
bit_same x y lx ly e = elim (ℕ_discrete x 1) [ yes p ↦ (let q : y ≡ 1 = eqb-true y 1 (sym e ∙ eq-eqb x 1 p) in p ∙ sym q) | no n ↦ (let n' : x ≢ 1 = n in let m : y ≢ 1 = (λ q. n (eqb-true x 1 (e ∙ eq-eqb y 1 q))) in omega (arith, lx, ly)) ]

-- words that hold the same set are the same
words_same : (w v : List ℕ) → AreWords w → AreWords v → set_of w ≡ set_of v → w ≡ v
words_same w v a b e = ext_get_or 0 w v (a.long ∙ sym b.long) (λ k lt. same_word k (let l = a.long in omega (arith, lt, l)))
  where
    same_bit : (k j : ℕ) → j < 64 → bit_at (slice_index w k) j ≡ bit_at (slice_index v k) j
    same_bit k j lt =
        let p : (64 * k + j) / 64 ≡ k = omega (arith, lt) in
        let r : (64 * k + j) % 64 ≡ j = omega (arith, lt) in
        let f : set_of w (64 * k + j) ≡ set_of v (64 * k + j) = ap (λ (s : Members). s (64 * k + j)) e in
        let g : eqb (bit_at (slice_index w k) j) 1 ≡ eqb (bit_at (slice_index v k) j) 1 = rw (p, r) at f in
        bit_same (bit_at (slice_index w k) j) (bit_at (slice_index v k) j) (bit_at-lt (slice_index w k) j) (bit_at-lt (slice_index v k) j) g

    same_word : (k : ℕ) → k < 8 → slice_index w k ≡ slice_index v k
    same_word k lt = same_from_bits_below 64 (slice_index w k) (slice_index v k) (a.fit k lt) (b.fit k lt) (same_bit k)

-- the set's test finds a row, and no other
row_test : Row → Row → Bool
row_test r q = is_at (row_cmp r) q

is_eq_equal : (o : Ordering) → is_eq o ≡ true → o ≡ Equal
is_eq_equal Less e = absurd (let f : false ≡ true = e in cc)
is_eq_equal Equal e = refl
is_eq_equal Greater e = absurd (let f : false ≡ true = e in cc)

-- a row is its words
abbrev row_with : List ℕ → Row
row_with words = record { words = words }

row_same : (x y : Row) → x.words ≡ y.words → x ≡ y
row_same x y e = ap row_with e

row_exact : (r q : Row) → is_at (row_cmp r) q ≡ true → r ≡ q
row_exact r q e = row_same r q (exact_bytes r.words q.words (is_eq_equal (row_cmp r q) e))

row_itself : (r : Row) → is_at (row_cmp r) r ≡ true
row_itself r = ap is_eq (tied_itself nat_list_cmp_total r.words)

both_ways : (b d : Bool) → (b ≡ true → d ≡ true) → (d ≡ true → b ≡ true) → b ≡ d
both_ways true d f g = sym (f refl)
both_ways false true f g = g refl
both_ways false false f g = refl

row_back : (r q : Row) → is_at (row_cmp r) q ≡ is_at (row_cmp q) r
row_back r q = both_ways (is_at (row_cmp r) q) (is_at (row_cmp q) r) (λ e. turned r q (row_exact r q e)) (λ e. turned q r (row_exact q r e))
  where
    turned : (x y : Row) → x ≡ y → is_at (row_cmp y) x ≡ true
    turned x y e = subst (λ (z : Row). is_at (row_cmp z) x ≡ true) e (row_itself x)

any_stands : (rows : List Row) (row : Row) → list_any (is_at (row_cmp row)) rows ≡ true → IsOneOf (sets_of rows) (set_of row.words)
any_stands [] row e = absurd (let f : false ≡ true = e in cc)
any_stands (r ∷ rs) row e = elim (or_cases (is_at (row_cmp row) r) (list_any (is_at (row_cmp row)) rs) e) [ inl f ↦ inl (let q : row ≡ r = row_exact row r f in ap (λ (x : Row). set_of x.words) (sym q)) | inr f ↦ inr (any_stands rs row f) ]

stands_any : (rows : List Row) (row : Row) → All HasWords rows → HasWords row → IsOneOf (sets_of rows) (set_of row.words) → list_any (is_at (row_cmp row)) rows ≡ true
stands_any [] row all fits h = absurd h
stands_any (r ∷ rs) row all fits (inl e) = or_left (is_at (row_cmp row) r) (list_any (is_at (row_cmp row)) rs) (test_of_words r row (words_same r.words row.words (all 0 r (omega arith)) fits e))
  where
    test_of_words : (x y : Row) → x.words ≡ y.words → is_at (row_cmp y) x ≡ true
    test_of_words x y e = subst (λ (z : Row). is_at (row_cmp z) x ≡ true) (row_same x y e) (row_itself x)
stands_any (r ∷ rs) row all fits (inr h) = or_right (is_at (row_cmp row) r) (list_any (is_at (row_cmp row)) rs) (stands_any rs row (λ k d lt. all (suc k) d (omega (arith, lt))) fits h)

sets_push : (rows more : List Row) (row : Row) → more ≡ rows ++ row ∷ [] → sets_of more ≡ sets_of rows ++ set_of row.words ∷ []
sets_push rows more row e = ap sets_of e ∙ map-append set_of_row rows (row ∷ [])

-- no row
pub found_nil : (rows : List Row) (known : BTreeSet Row) → rows ≡ [] → known.keys ≡ [] → IsFound rows known
found_nil rows known e f = record {
  words = subst (All HasWords) (sym e) (λ k d lt. absurd (omega (arith, lt)));
  same = λ row. ap (list_any (is_at (row_cmp row))) (f ∙ sym e);
}

-- a row that the set has
pub noted_known : (rows : List Row) (known : BTreeSet Row) (row : Row) → IsFound rows known → contains row_cmp known row ≡ true → IsNoted (sets_of rows) (set_of row.words) (sets_of rows)
noted_known rows known row f e = inl (any_stands rows row (sym (f.same row) ∙ e), refl)

-- a row that it has not
pub noted_new : (rows more : List Row) (known : BTreeSet Row) (row : Row) → IsFound rows known → HasWords row → contains row_cmp known row ≡ false → more ≡ rows ++ row ∷ [] → IsNoted (sets_of rows) (set_of row.words) (sets_of more)
noted_new rows more known row f fits e p = inr (λ h. no (f.same row ∙ stands_any rows row f.words fits h), sets_push rows more row p)
  where
    no : contains row_cmp known row ≡ true → ⊥
    no t = let q : true ≡ false = sym t ∙ e in cc

pub found_push : (rows more : List Row) (known grown : BTreeSet Row) (row : Row) → IsFound rows known → HasWords row → more ≡ rows ++ row ∷ [] → ((q : Row) → contains row_cmp grown q ≡ cond (is_at (row_cmp row) q) true (contains row_cmp known q)) → IsFound more grown
found_push rows more known grown row f fits e updates = record { words = subst (All HasWords) (sym e) words; same = λ q. updates q ∙ one_more (is_at (row_cmp row) q) (contains row_cmp known q) ∙ ap (λ (b : Bool). b || is_at (row_cmp row) q) (f.same q) ∙ ap (λ (b : Bool). list_any (is_at (row_cmp q)) rows || b) (row_back row q ∙ alone (is_at (row_cmp q) row)) ∙ sym (list_any-append (is_at (row_cmp q)) rows (row ∷ [])) ∙ ap (list_any (is_at (row_cmp q))) (sym e) }
  where
    one_more : (b d : Bool) → cond b true d ≡ d || b
    one_more true true = refl
    one_more true false = refl
    one_more false true = refl
    one_more false false = refl

    alone : (b : Bool) → b ≡ b || false
    alone true = refl
    alone false = refl

    words : All HasWords (rows ++ row ∷ [])
    words = All-push HasWords rows row f.words fits

-- the same rows
pub found_same : (rows more : List Row) (known grown : BTreeSet Row) → IsFound rows known → more ≡ rows → grown.keys ≡ known.keys → IsFound more grown
found_same rows more known grown f e k = record {
  words = subst (All HasWords) (sym e) f.words;
  same = λ q. ap (list_any (is_at (row_cmp q))) k ∙ f.same q ∙ ap (list_any (is_at (row_cmp q))) (sym e);
}

-- A map from names to numbers, where one more process is declared.
use Rattle.std.proofs.Common.{ℕ, ◌≡◌, ◌<◌, ◌≤◌, ◌+◌, Bool, true, false, not, cond, nat_lt, ◌==◌, Option, Some, None, List, Vec, [], ◌∷◌, ◌++◌, length, position, IfSome, inl, inr, refl, sym, ap, ◌∙◌, subst, arith, length-append}
use Rattle.std.proofs.lemmas.Bool.{cases_lt, false_from_ne_true}
use Rattle.std.proofs.lemmas.Bool.Decides.{nat_tests}
use Rattle.std.proofs.lemmas.List.Folds.{position_or_len_push}
use Rattle.std.proofs.lemmas.List.Quantifiers.{position-Some}
use Rattle.std.proofs.lemmas.List.Sums.{prefix_len-le-length}
use Rattle.std.proofs.lemmas.Map.Text.{is_eq-slice_cmp}
use Rattle.std.proofs.lemmas.Slice.Eq.{bytes_eq-Decides}
use Rattle.std.specs.BTreeMap.{is_at}
use Rattle.std.specs.Cmp.Lexicographic.{slice_cmp}
use Rattle.std.specs.List.{position_or_len}
use Rattle.std.specs.Map.{KeepsOthers}
use Rattle.std.specs.Option.{is_some}
use Rattle.std.specs.Ordering.{nat_cmp, eq_by_cmp}
use Rattle.std.specs.Str.{bytes_eq}
use Rattle.std.specs.declared.alloc.Global.{Global}
use Rattle.interconnection.specs.declared.parts.Process.{Process}
use Rattle.interconnection.specs.inside.ProcessNumbers.{Kept, kept_at, or_number, AreNumbers, IsNumbered}

-- the test of a name among the keys
abbrev is_key : List ℕ → Vec ℕ Global → Bool
is_key name = is_at (λ k. slice_cmp nat_cmp name k.items)

key_is : (name : List ℕ) (k : Vec ℕ Global) → is_key name k ≡ true → name ≡ k.items
key_is name k e = (bytes_eq-Decides name k.items).0 (sym (is_eq-slice_cmp name k.items) ∙ e)

-- keys of two names are apart
apart : (name other : List ℕ) → bytes_eq name other ≡ false → (k : Vec ℕ Global) → is_key name k ≡ true → is_key other k ≡ false
apart name other differ k e = false_from_ne_true (is_key other k) (λ same. let one : name ≡ other = key_is name k e ∙ sym (key_is other k same) in let yes = (bytes_eq-Decides name other).1 one in cc)

same_test : (name : List ℕ) (x y : Vec ℕ Global) → is_key name x ≡ true → is_key name y ≡ eq_by_cmp (λ (x y : Vec ℕ Global). slice_cmp nat_cmp x.items y.items) x y
same_test name x y e = ap (λ n. is_key n y) (key_is name x e)

others : (name other : List ℕ) (old new : Kept) → bytes_eq name other ≡ false → KeepsOthers (eq_by_cmp (λ (x y : Vec ℕ Global). slice_cmp nat_cmp x.items y.items)) (is_key name) old new → kept_at new other ≡ kept_at old other
unfolding KeepsOthers
others name other old new differ keeps = keeps (is_key other) (same_test other) (apart name other differ)

none_numbered : (found : Option ℕ) (number : ℕ) → is_some found ≡ false → or_number found true number ≡ Some number
none_numbered None number e = refl
none_numbered (Some n) number e = cc

not_same : (found : Option ℕ) (number : ℕ) → or_number found false number ≡ found
not_same None number = refl
not_same (Some n) number = refl

-- a name that had no number is kept with this one
pub kept_at_new : (old new : Kept) (name key : List ℕ) (number : ℕ) → key ≡ name → is_some (kept_at old name) ≡ false → kept_at new key ≡ Some number
    → KeepsOthers (eq_by_cmp (λ (x y : Vec ℕ Global). slice_cmp nat_cmp x.items y.items)) (is_key key) old new → IsNumbered old name number new
kept_at_new old new name key number same none here keeps other = at (bytes_eq name other) refl
  where
    at : (t : Bool) → bytes_eq name other ≡ t → kept_at new other ≡ or_number (kept_at old other) t number
    at true e =
        let is : name ≡ other = (bytes_eq-Decides name other).0 e in
        subst (λ o. kept_at new o ≡ or_number (kept_at old o) true number) is (subst (λ k. kept_at new k ≡ Some number) same here ∙ sym (none_numbered (kept_at old name) number none))
    at false e = others name other old new e (subst (λ k. KeepsOthers (eq_by_cmp (λ (x y : Vec ℕ Global). slice_cmp nat_cmp x.items y.items)) (is_key k) old new) same keeps) ∙ sym (not_same (kept_at old other) number)

place_after : (a n : ℕ) (t : Bool) → a ≤ n → cond (nat_lt (cond (a == n) (n + cond t 0 1) a) (n + 1)) (Some (cond (a == n) (n + cond t 0 1) a)) None ≡ or_number (cond (nat_lt a n) (Some a) None) t n
place_after a n t le = elim (cases_lt a n) [
  | inl lt ↦ (
      let below : nat_lt a n ≡ true = grind (arith, nat_tests) in
      let apart : (a == n) ≡ false = grind (arith, nat_tests) in
      let more : nat_lt a (n + 1) ≡ true = grind (arith, nat_tests) in rw (apart, below, more) refl
      )
  | inr ge ↦ (let same : n ≡ a = omega arith in rw same (last a t))
]
  where
    last : (a : ℕ) (t : Bool) → cond (nat_lt (cond (a == a) (a + cond t 0 1) a) (a + 1)) (Some (cond (a == a) (a + cond t 0 1) a)) None ≡ or_number (cond (nat_lt a a) (Some a) None) t a
    last a true =
        let is : (a == a) ≡ true = grind (arith, nat_tests) in let no : nat_lt a a ≡ false = grind (arith, nat_tests) in
        let within : nat_lt (a + 0) (a + 1) ≡ true = grind (arith, nat_tests) in let zero : a + 0 ≡ a = omega arith in rw (is, no, within, zero) refl
    last a false =
        let is : (a == a) ≡ true = grind (arith, nat_tests) in let no : nat_lt a a ≡ false = grind (arith, nat_tests) in
        let out : nat_lt (a + 1) (a + 1) ≡ false = grind (arith, nat_tests) in rw (is, no, out) refl

-- the first place where one more stands behind
position_push : {X : Type 0} (p : X → Bool) (xs : List X) (x : X) → position p (xs ++ x ∷ []) ≡ or_number (position p xs) (p x) (length xs)
position_push p xs x =
    rw (position_or_len_push p xs x, length-append xs (x ∷ []))
    (place_after (position_or_len p xs) (length xs) (p x) (prefix_len-le-length (λ y. not (p y)) xs))

pub numbers_more : (processes : List Process) (p : Process) (name : List ℕ) (number : ℕ) (old new : Kept) → name ≡ p.name → number ≡ length processes → AreNumbers processes old → IsNumbered old name number new → AreNumbers (processes ++ p ∷ []) new
numbers_more processes p name number old new name_is number_is are is other =
    is other ∙ ap (λ found. or_number found (bytes_eq name other) number) (are other) ∙ ap (λ n. or_number (position (λ (p : Process). bytes_eq p.name other) processes) (bytes_eq n other) number) name_is
    ∙ ap (λ n. or_number (position (λ (p : Process). bytes_eq p.name other) processes) (bytes_eq p.name other) n) number_is ∙ sym (position_push (λ (p : Process). bytes_eq p.name other) processes p)

pub number_within : {X : Type 0} (p : X → Bool) (xs : List X) (d : X) (found : Option ℕ) → found ≡ position p xs → IfSome found (λ n. n < length xs)
number_within p xs d None e = tt
number_within p xs d (Some n) e = (position-Some p xs n d (sym e)).0

-- A set of the keys of shapes, with one star more.
use Rattle.std.proofs.Common.{ℕ, ◌≡◌, ◌≢◌, ◌+◌, ◌↔◌, inl, inr, Bool, true, false, IsTrue, List, Vec, [], ◌∷◌, ◌++◌, length, get_or, refl, sym, ap, ◌∙◌, subst, arith, length-append}
use Rattle.std.proofs.lemmas.Bool.{cases_lt, false_from_ne_true}
use Rattle.std.proofs.lemmas.List.{get_or_append_left, get_or-append-add}
use Rattle.std.proofs.lemmas.List.Quantifiers.{Any-push}
use Rattle.std.proofs.lemmas.Map.Text.{is_eq-slice_cmp}
use Rattle.std.proofs.lemmas.Slice.Eq.{bytes_eq-Decides}
use Rattle.std.specs.BTreeMap.{is_at}
use Rattle.std.specs.Cmp.Lexicographic.{slice_cmp}
use Rattle.std.specs.Ordering.{nat_cmp, eq_by_cmp}
use Rattle.std.specs.Set.{KeepsOthers}
use Rattle.std.specs.Str.{bytes_eq}
use Rattle.std.specs.declared.alloc.Global.{Global}
use Rattle.interconnection.specs.Shape.{ShapeParts}
use Rattle.waitfor_check.specs.Accepted.{HasShape}
use Rattle.waitfor_check.specs.inside.ShapeKeys.{key_of}
use Rattle.waitfor_check.specs.declared.star.Star.{Star}
use Rattle.waitfor_check.proofs.Visits.{same_shape}
use Rattle.certificate_text.specs.inside.ShapeKeys.{Keys, has_key, AreKeysOf, IsWithKey}

-- the test of a key among the keys
abbrev is_key : List ℕ → Vec ℕ Global → Bool
is_key key = is_at (λ k. slice_cmp nat_cmp key k.items)

abbrev same_items : Vec ℕ Global → Vec ℕ Global → Bool
same_items = eq_by_cmp (λ (x y : Vec ℕ Global). slice_cmp nat_cmp x.items y.items)

key_is : (key : List ℕ) (k : Vec ℕ Global) → is_key key k ≡ true → key ≡ k.items
key_is key k e = (bytes_eq-Decides key k.items).0 (sym (is_eq-slice_cmp key k.items) ∙ e)

apart : (key other : List ℕ) → other ≢ key → (k : Vec ℕ Global) → is_key key k ≡ true → is_key other k ≡ false
apart key other differ k e = false_from_ne_true (is_key other k) (λ same. differ (key_is other k same ∙ sym (key_is key k e)))

same_test : (key : List ℕ) (x y : Vec ℕ Global) → is_key key x ≡ true → is_key key y ≡ same_items x y
same_test key x y e = ap (λ k. is_key k y) (key_is key x e)

others : (key other : List ℕ) (old new : Keys) → other ≢ key → KeepsOthers same_items (is_key key) old.keys new.keys → has_key new other ≡ has_key old other
unfolding KeepsOthers
others key other old new differ keeps = keeps (is_key other) (same_test other) (apart key other differ)

-- a key is inserted
pub with_key : (old new : Keys) (key : List ℕ) → has_key new key ≡ true → KeepsOthers same_items (is_key key) old.keys new.keys → IsWithKey old key new
with_key old new key has keeps = record { has = rw has refl; others = λ other differ. others key other old new differ keeps }

-- no star, and no key
pub keys_nil : (stars : List Star) (keys : Keys) → stars ≡ [] → keys.keys ≡ [] → AreKeysOf stars keys
keys_nil stars keys none empty = subst (λ s. AreKeysOf s keys) (sym none) (λ shape. (λ has. absurd (let f : has_key keys (key_of shape) ≡ false = rw empty refl in cc), λ has. absurd (omega (arith, has.2))))

has_more : (stars : List Star) (star : Star) (shape : ShapeParts) → HasShape stars shape → HasShape (stars ++ star ∷ []) shape
has_more stars star shape (i, x, lt, is, same) = (i, x, omega (arith, lt, length-append stars (star ∷ [])), get_or_append_left stars (star ∷ []) x i lt ∙ is, same)

has_less : (stars : List Star) (star : Star) (shape : ShapeParts) → (star.shape ≡ shape → ⊥) → HasShape (stars ++ star ∷ []) shape → HasShape stars shape
has_less stars star shape differ (i, x, lt, is, same) = elim (cases_lt i (length stars)) [
  | inl low ↦ (i, x, low, sym (get_or_append_left stars (star ∷ []) x i low) ∙ is, same)
  | inr high ↦ (
      let last : i ≡ length stars + 0 = omega (arith, high, lt, length-append stars (star ∷ [])) in
      let here : get_or (stars ++ star ∷ []) i x ≡ star = ap {B = Star} (λ i. get_or (stars ++ star ∷ []) i x) last ∙ get_or-append-add stars (star ∷ []) 0 x in
      absurd (differ (ap {B = ShapeParts} (λ (s : Star). s.shape) (sym here ∙ is) ∙ same))
      )
]

-- one star more
pub keys_push : (stars : List Star) (star : Star) (old new : Keys) (key : List ℕ) → key ≡ key_of star.shape → AreKeysOf stars old → IsWithKey old key new → AreKeysOf (stars ++ star ∷ []) new
keys_push stars star old new key key_is are more shape = at (bytes_eq (key_of shape) key) refl
  where
    at : (t : Bool) → bytes_eq (key_of shape) key ≡ t → IsTrue (has_key new (key_of shape)) ↔ HasShape (stars ++ star ∷ []) shape
    at true e =
        let here : key_of shape ≡ key = (bytes_eq-Decides (key_of shape) key).0 e in (
          λ yes. Any-push (λ (star : Star). star.shape ≡ shape) stars star (same_shape star.shape shape (sym key_is ∙ sym here)),
          λ has. subst (λ k. IsTrue (has_key new k)) (sym here) more.has,
        )
    at false e =
        let differ : key_of shape ≢ key = λ same. (let t = (bytes_eq-Decides (key_of shape) key).1 same in cc) in
        let old_new = more.others (key_of shape) differ in (
          λ yes. has_more stars star shape ((are shape).0 (rw old_new at yes)),
          λ has. rw old_new ((are shape).1 (has_less stars star shape (λ same. differ (sym (key_is ∙ ap key_of same))) has)),
        )

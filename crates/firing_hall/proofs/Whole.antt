-- So many different callers are all.
use Rattle.std.proofs.Common.{ℕ, ◌≡◌, ◌≢◌, ◌<◌, ◌≤◌, ◌⊎◌, ◌||◌, inl, inr, ⊎_elim, Bool, true, false, eqb, List, [], ◌∷◌, length, arith, refl, sym, subst, ne_eqb}
use Rattle.std.specs.List.{AllByRecursion, IsDistinct, list_any}
use Rattle.std.proofs.lemmas.Bool.{cases_eq, eqb-true}
use Rattle.std.proofs.lemmas.Map.Steps.{length-le_from_distinct_below}
use Rattle.conjunctive_compose.specs.System.{SystemParts}
use Rattle.firing_words.specs.declared.view.View.{View}
use Rattle.firing_words.specs.Lists.{Has, InTurn}
use Rattle.firing_words.specs.History.{Firing}
use Rattle.firing_words.specs.Views.{IsPartOf, callers_of}
use Rattle.firing_hall.specs.inside.Taking.{AreTaken}
use Rattle.firing_hall.specs.Reports.{HasLists}
use Rattle.firing_journal.specs.declared.asked.Asked.{Asked}

has_or : (c : ℕ) (xs : List ℕ) → Has c xs ⊎ (Has c xs → ⊥)
has_or c [] = inr (λ h. h)
has_or c (x ∷ xs) = ⊎_elim
    (λ (e : x ≡ c). inl (inl e))
    (λ (ne : x ≢ c). ⊎_elim (λ (h : Has c xs). inl (inr h)) (λ (no : Has c xs → ⊥). inr (λ h. ⊎_elim ne no h)) (has_or c xs))
    (cases_eq x c)

differ_from : (x : ℕ) (ys : List ℕ) → ((y : ℕ) → Has y ys → x ≢ y) → AllByRecursion (λ y. eqb x y ≡ false) ys
differ_from x [] f = tt
differ_from x (y ∷ ys) f = (ne_eqb x y (f y (inl refl)), differ_from x ys (λ z h. f z (inr h)))

distinct : (xs : List ℕ) → InTurn (λ (c d : ℕ). c ≢ d) xs → IsDistinct eqb xs
unfolding IsDistinct
distinct [] order = tt
distinct (x ∷ xs) order = (differ_from x xs order.0, distinct xs order.1)

any_has : (q : ℕ) (xs : List ℕ) → list_any (eqb q) xs ≡ true → Has q xs
any_has q [] e = absurd (cc)
any_has q (x ∷ xs) e = by_head (eqb q x) refl e (any_has q xs)
  where
    by_head : (b : Bool) → eqb q x ≡ b → (b || list_any (eqb q) xs) ≡ true → (list_any (eqb q) xs ≡ true → Has q xs) → Has q (x ∷ xs)
    by_head true is h go = inl (sym (eqb-true q x is))
    by_head false is h go = inr (go h)

pub all_callers : (xs : List ℕ) (n c : ℕ) → InTurn (λ (a b : ℕ). a ≢ b) xs → ((d : ℕ) → Has d xs → d < n) → length xs ≡ n → c < n → Has c xs
all_callers xs n c order below long lt = ⊎_elim
    (λ (h : Has c xs). h)
    (λ (no : Has c xs → ⊥).
    let more : InTurn (λ (a b : ℕ). a ≢ b) (c ∷ xs) = ((λ y h e. no (subst (λ (z : ℕ). Has z xs) (sym e) h)), order) in
    let few = length-le_from_distinct_below (c ∷ xs) n (distinct (c ∷ xs) more) (λ q is. ⊎_elim (λ (e : c ≡ q). subst (λ (z : ℕ). z < n) e lt) (λ (h : Has q xs). below q h) (any_has q (c ∷ xs) is)) in
    absurd (omega (arith, few, long)))
    (has_or c xs)

pub whole_lists : (sys : SystemParts) (v : View) (lists : List (List Asked)) → AreTaken sys v lists → InTurn (λ (a b : ℕ). a ≢ b) (callers_of v) → ((d : ℕ) → Has d (callers_of v) → d < length lists) → length (callers_of v) ≡ length lists → HasLists sys v lists
whole_lists sys v lists taken order below long c lt = taken c (all_callers (callers_of v) (length lists) c order below long lt)

-- there are no more callers than numbers
pub few_callers : (xs : List ℕ) (n : ℕ) → InTurn (λ (a b : ℕ). a ≢ b) xs → ((d : ℕ) → Has d xs → d < n) → length xs ≤ n
few_callers xs n order below = length-le_from_distinct_below xs n (distinct xs order) (λ q is. below q (any_has q xs is))

-- where a list of each caller was taken, and the view has as many callers, it has the tracks of all of them
pub whole_part : (sys : SystemParts) (v : View) (log : List Firing) (lists : List (List Asked)) (n : ℕ) → length lists ≡ n → n ≤ length (callers_of v) → AreTaken sys v lists → IsPartOf sys n v log → IsPartOf sys (length lists) v log × HasLists sys v lists
whole_part sys v log lists n long whole taken part =
    let mine : IsPartOf sys (length lists) v log = subst (λ (m : ℕ). IsPartOf sys m v log) (sym long) part in
    let few = few_callers (callers_of v) (length lists) mine.2 mine.3 in
    (mine, whole_lists sys v lists taken mine.2 mine.3 (omega (arith, few, whole, long)))

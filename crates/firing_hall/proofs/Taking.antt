-- One pass more is taken in.
use Rattle.std.proofs.Common.{ℕ, zero, suc, ◌≡◌, ◌≢◌, ◌<◌, inl, inr, ⊎_elim, List, [], ◌∷◌, ◌++◌, length, map, set, refl, sym, ◌∙◌, ap, subst, get_or-set_same, get_or-set_other}
use mathlib.Core.List.{map-append}
use Rattle.conjunctive_compose.specs.System.{SystemParts}
use Rattle.firing_words.specs.declared.view.Item.{Item}
use Rattle.firing_words.specs.declared.view.Track.{Track}
use Rattle.firing_words.specs.declared.view.View.{View}
use Rattle.firing_words.specs.Lists.{Has, InTurn}
use Rattle.firing_words.specs.Telling.{AreTold}
use Rattle.firing_words.specs.Views.{callers_of, joined}
use Rattle.firing_words.proofs.Lists.{has_split, only}
use Rattle.firing_hall.specs.inside.Taking.{AreTaken}
use Rattle.firing_hall.specs.Passes.{IsToldOf}
use Rattle.firing_journal.specs.Report.{list_by, told_of}
use Rattle.firing_journal.specs.declared.asked.Asked.{Asked}
use Rattle.firing_hall.proofs.Keeping.{one_caller}

-- the one track of a view
pub track_told : (sys : SystemParts) (v : View) (caller : ℕ) (asked : List Asked) → IsToldOf sys v caller asked → (t : Track) × Has t v.tracks × (t.caller ≡ caller) × AreTold sys t.items (map told_of asked)
track_told sys v caller asked told = along v.tracks told.1
  where
    along : (ts : List Track) → map {B = ℕ × List Item} (λ (t : Track). (t.caller, t.items)) ts ≡ (caller, told.0) ∷ [] → (t : Track) × Has t ts × (t.caller ≡ caller) × AreTold sys t.items (map told_of asked)
    along [] e = absurd (cc)
    along (t ∷ ts) e =
        let first : (t.caller, t.items) ≡ (caller, told.0) = cc in
        (t, inl refl, ap {B = ℕ} (λ (r : ℕ × List Item). r.0) first, subst (λ (l : List Item). AreTold sys l (map told_of asked)) (sym (ap {B = List Item} (λ (r : ℕ × List Item). r.1) first)) told.2)

pub has_left : {A : Type 0} (x : A) (xs ys : List A) → Has x xs → Has x (xs ++ ys)
has_left x [] ys h = absurd h
has_left x (y ∷ xs) ys (inl e) = inl e
has_left x (y ∷ xs) ys (inr h) = inr (has_left x xs ys h)

pub has_right : {A : Type 0} (x : A) (xs ys : List A) → Has x ys → Has x (xs ++ ys)
has_right x [] ys h = h
has_right x (y ∷ xs) ys h = inr (has_right x xs ys h)

-- who comes before differs from who comes last
earlier_differs : (xs : List ℕ) (y x : ℕ) → InTurn (λ (c d : ℕ). c ≢ d) (xs ++ y ∷ []) → Has x xs → x ≢ y
earlier_differs [] y x order h = absurd h
earlier_differs (z ∷ xs) y x order (inl e) = λ same. order.0 y (has_right y xs (y ∷ []) (inl refl)) (e ∙ same)
earlier_differs (z ∷ xs) y x order (inr h) = earlier_differs xs y x order.1 h

pub callers_joined : (sys : SystemParts) (v w : View) (caller : ℕ) (asked : List Asked) → IsToldOf sys w caller asked → callers_of (joined v w) ≡ callers_of v ++ caller ∷ []
callers_joined sys v w caller asked told = map-append (λ (t : Track). t.caller) v.tracks w.tracks ∙ ap (λ (l : List ℕ). callers_of v ++ l) (one_caller sys w caller asked told)

-- the lists with one more at its place
pub taken_more : (sys : SystemParts) (v w : View) (caller : ℕ) (asked : List Asked) (lists : List (List Asked)) → AreTaken sys v lists → IsToldOf sys w caller asked → InTurn (λ (c d : ℕ). c ≢ d) (callers_of (joined v w)) → caller < length lists → AreTaken sys (joined v w) (set lists caller asked)
taken_more sys v w caller asked lists taken told apart lt c has =
    let order = subst (InTurn (λ (c d : ℕ). c ≢ d)) (callers_joined sys v w caller asked told) apart in
    ⊎_elim
    (λ (h : Has c (callers_of v)).
    let t = taken c h in
    let ne : c ≢ caller = earlier_differs (callers_of v) caller c order h in
    (t.0, has_left t.0 v.tracks w.tracks t.1, t.2, subst (λ (l : List Asked). AreTold sys t.0.items (map told_of l)) (sym (get_or-set_other lists caller c asked [] ne)) t.3))
    (λ (h : Has c (caller ∷ [])).
    let same : caller ≡ c = only c caller (caller ∷ []) refl h in
    let t = track_told sys w caller asked told in
    let here : list_by (set lists caller asked) c ≡ asked = ap (list_by (set lists caller asked)) (sym same) ∙ get_or-set_same lists caller asked [] lt in
    (t.0, has_right t.0 v.tracks w.tracks t.1, t.2 ∙ same, subst (λ (l : List Asked). AreTold sys t.0.items (map told_of l)) (sym here) t.3))
    (has_split c (callers_of v) (caller ∷ []) (subst (Has c) (callers_joined sys v w caller asked told) has))

pub map-set : {A B : Type 0} (f : A → B) (xs : List A) (i : ℕ) (x : A) → map f (set xs i x) ≡ set (map f xs) i (f x)
map-set f [] i x = refl
map-set f (y ∷ xs) zero x = refl
map-set f (y ∷ xs) (suc i) x = ap (λ l. f y ∷ l) (map-set f xs i x)

pub last_in : (sys : SystemParts) (v w u : View) (caller : ℕ) (asked : List Asked) → IsToldOf sys w caller asked → u ≡ joined v w → Has caller (callers_of u)
last_in sys v w u caller asked told is = subst (λ (x : View). Has caller (callers_of x)) (sym is) (subst (Has caller) (sym (callers_joined sys v w caller asked told)) (has_right caller (callers_of v) (caller ∷ []) (inl refl)))

-- the first pass alone
pub taken_first : (sys : SystemParts) (w : View) (caller : ℕ) (asked : List Asked) (lists : List (List Asked)) → IsToldOf sys w caller asked → caller < length lists → AreTaken sys w (set lists caller asked)
taken_first sys w caller asked lists told lt c has =
    let same : caller ≡ c = only c caller (callers_of w) (one_caller sys w caller asked told) has in
    let t = track_told sys w caller asked told in
    let here : list_by (set lists caller asked) c ≡ asked = ap (list_by (set lists caller asked)) (sym same) ∙ get_or-set_same lists caller asked [] lt in
    (t.0, t.1, t.2 ∙ same, subst (λ (l : List Asked). AreTold sys t.0.items (map told_of l)) (sym here) t.3)

-- who is taken in now was none of the callers
pub not_yet : (sys : SystemParts) (v w : View) (caller : ℕ) (asked : List Asked) → IsToldOf sys w caller asked → InTurn (λ (c d : ℕ). c ≢ d) (callers_of (joined v w)) → ¬ Has caller (callers_of v)
not_yet sys v w caller asked told apart has = earlier_differs (callers_of v) caller caller (subst (InTurn (λ (c d : ℕ). c ≢ d)) (callers_joined sys v w caller asked told) apart) has refl

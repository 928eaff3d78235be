-- Keys of states: what they list, and that equal keys are those of states that match each other.
use Rattle.std.proofs.Common.{ℕ, ◌≡◌, ◌⊎◌, ◌<◌, ◌↔◌, inl, inr, Bool, true, false, List, [], ◌∷◌, ◌++◌, length, get_or, map, filter, Contains, All, refl, sym, ap, subst, ◌∙◌, arith, slice_index, cond}
use Rattle.std.proofs.lemmas.List.{get_or_default}
use Rattle.std.proofs.lemmas.List.Elements.{Contains-append_left, Contains-append_right, Contains-append_cases, Contains-push, Contains-push_cases}
use Rattle.std.proofs.lemmas.Bool.{eqb-true, eq-eqb}
use Rattle.pair_structure.specs.declared.side.Move.{Move}
use Rattle.pair_structure.specs.declared.side.Side.{Side}
use Rattle.pair_structure.specs.declared.side.Side.TheVariants.{A, B}
use Rattle.pair_structure.specs.Ordinal.{leaves, is_same_side}
use Rattle.pair_structure.specs.Structure.{Structure, HasMove, GoesOn}
use Rattle.pair_quotient.specs.inside.ClassMoves.{class_move, IsKey, JoinsBelow, MovesInto}
use Rattle.pair_quotient.specs.inside.Partition.{IsMatched}
use Rattle.pair_quotient.specs.Quotient.{SomeMemberMoves}
use Rattle.pair_quotient.proofs.RisingLaws.{same_rising}
use Rattle.pair_quotient.proofs.StateTests.{both_true, true_both}

abbrev pub move : ℕ → Side → ℕ → Move
move s side t = record { from = s; side = side; to = t }

none_in : {X : Type 0} (x : X) → Contains [] x → ⊥
none_in x h = absurd (omega (arith, h.1))

cases_cons : {X : Type 0} (x : X) (xs : List X) (y : X) → Contains (x ∷ xs) y → (x ≡ y) ⊎ Contains xs y
cases_cons x xs y h = elim (Contains-append_cases (x ∷ []) xs y h) [
  | inl one ↦ elim (Contains-push_cases [] x y one) [ inl none ↦ absurd (none_in y none) | inr e ↦ inl e ]
  | inr rest ↦ inr rest
]

first_in : {X : Type 0} (x : X) (xs : List X) → Contains (x ∷ xs) x
first_in x xs = Contains-append_left (x ∷ []) xs x (Contains-push [] x)

rest_in : {X : Type 0} (x : X) (xs : List X) (y : X) → Contains xs y → Contains (x ∷ xs) y
rest_in x xs y h = Contains-append_right (x ∷ []) xs y h

pub map_has : {X Y : Type 0} (f : X → Y) (xs : List X) (x : X) → Contains xs x → Contains (map f xs) (f x)
map_has f [] x h = absurd (none_in x h)
map_has f (z ∷ zs) x h = elim (cases_cons z zs x h) [ inl e ↦ subst (λ v. Contains (f z ∷ map f zs) (f v)) e (first_in (f z) (map f zs)) | inr r ↦ rest_in (f z) (map f zs) (f x) (map_has f zs x r) ]

pub map_from : {X Y : Type 0} (f : X → Y) (xs : List X) (y : Y) → Contains (map f xs) y → (x : X) × Contains xs x × (f x ≡ y)
map_from f [] y h = absurd (none_in y h)
map_from f (z ∷ zs) y h = elim (cases_cons (f z) (map f zs) y h) [ inl e ↦ (z, first_in z zs, e) | inr r ↦ (let u = map_from f zs y r in (u.0, rest_in z zs u.0 u.1, u.2)) ]

filter_step_has : {X : Type 0} (p : X → Bool) (z : X) (zs : List X) (b : Bool) (x : X) → Contains (filter p zs) x → Contains (cond b (z ∷ filter p zs) (filter p zs)) x
filter_step_has p z zs true x h = rest_in z (filter p zs) x h
filter_step_has p z zs false x h = h

filter_here : {X : Type 0} (p : X → Bool) (z : X) (zs : List X) (b : Bool) → b ≡ true → Contains (cond b (z ∷ filter p zs) (filter p zs)) z
filter_here p z zs true e = first_in z (filter p zs)
filter_here p z zs false e = let h : false ≡ true = e in cc

pub filter_has : {X : Type 0} (p : X → Bool) (xs : List X) (x : X) → Contains xs x → p x ≡ true → Contains (filter p xs) x
filter_has p [] x h e = absurd (none_in x h)
filter_has p (z ∷ zs) x h e = elim (cases_cons z zs x h) [
  | inl same ↦ subst (λ v. Contains (cond (p z) (z ∷ filter p zs) (filter p zs)) v) same (filter_here p z zs (p z) (ap p same ∙ e))
  | inr r ↦ filter_step_has p z zs (p z) x (filter_has p zs x r e)
]

filter_split : {X : Type 0} (p : X → Bool) (z : X) (zs : List X) (b : Bool) (x : X) → Contains (cond b (z ∷ filter p zs) (filter p zs)) x → ((z ≡ x) × (b ≡ true)) ⊎ Contains (filter p zs) x
filter_split p z zs true x h = elim (cases_cons z (filter p zs) x h) [ inl e ↦ inl (e, refl) | inr r ↦ inr r ]
filter_split p z zs false x h = inr h

pub filter_from : {X : Type 0} (p : X → Bool) (xs : List X) (x : X) → Contains (filter p xs) x → Contains xs x × (p x ≡ true)
filter_from p [] x h = absurd (none_in x h)
filter_from p (z ∷ zs) x h = elim (filter_split p z zs (p z) x h) [
  | inl here ↦ (subst (Contains (z ∷ zs)) here.0 (first_in z zs), ap p (sym here.0) ∙ here.1)
  | inr r ↦ (let u = filter_from p zs x r in (rest_in z zs x u.0, u.1))
]

same_side : (x y : Side) → is_same_side x y ≡ true → x ≡ y
same_side A A e = refl
same_side B B e = refl
same_side A B e = let h : false ≡ true = e in cc
same_side B A e = let h : false ≡ true = e in cc

same_side_refl : (x : Side) → is_same_side x x ≡ true
same_side_refl A = refl
same_side_refl B = refl

-- of the moves of one side from s, those that join the classes c and d
from_side : (m : Structure) (classes : List ℕ) (s : ℕ) (by : Side) (x : Move) → Contains (map (class_move classes) (filter (leaves s by) m.moves)) x → MovesInto m classes s x.side x.from x.to
from_side m classes s by x h =
    let u = map_from (class_move classes) (filter (leaves s by) m.moves) x h in
    let v = filter_from (leaves s by) m.moves u.0 u.1 in
    let w = both_true _ _ v.1 in
    let from : u.0.from ≡ s = eqb-true u.0.from s w.0 in
    let by_side : u.0.side ≡ x.side = ap (λ (y : Move). y.side) u.2 in
    (u.0.to, move_is m u.0 x.side s from by_side v.0, ap (λ i. slice_index classes i) (sym from) ∙ ap (λ (y : Move). y.from) u.2, ap (λ (y : Move). y.to) u.2)
  where
    move_is : (m : Structure) (y : Move) (side : Side) (s : ℕ) → y.from ≡ s → y.side ≡ side → Contains m.moves y → HasMove m side s y.to
    move_is m y side s e f h = subst (λ a. HasMove m side a y.to) e (subst (λ b. HasMove m b y.from y.to) f h)

by_side : (m : Structure) (classes : List ℕ) (s : ℕ) (side : Side) (c d : ℕ) → MovesInto m classes s side c d → Contains (map (class_move classes) (filter (leaves s side) m.moves)) (move c side d)
by_side m classes s side c d h =
    let e : class_move classes (move s side h.0) ≡ move c side d = λ i. record { from = h.2 i; side = side; to = h.3 i } in
    subst (Contains (map (class_move classes) (filter (leaves s side) m.moves))) e (map_has (class_move classes) (filter (leaves s side) m.moves) (move s side h.0) (filter_has (leaves s side) m.moves (move s side h.0) h.1 (true_both _ _ (eq-eqb s s refl) (same_side_refl side))))

-- the two lists of a state's moves, one behind the other
pub key_made : (m : Structure) (classes : List ℕ) (s : ℕ) (side : Side) (c d : ℕ) → Contains (map (class_move classes) (filter (leaves s A) m.moves) ++ map (class_move classes) (filter (leaves s B) m.moves)) (move c side d) ↔ MovesInto m classes s side c d
key_made m classes s side c d = (there, back side)
  where
    there : Contains (map (class_move classes) (filter (leaves s A) m.moves) ++ map (class_move classes) (filter (leaves s B) m.moves)) (move c side d) → MovesInto m classes s side c d
    there h = elim (Contains-append_cases (map (class_move classes) (filter (leaves s A) m.moves)) (map (class_move classes) (filter (leaves s B) m.moves)) (move c side d) h) [
      | inl a ↦ from_side m classes s A (move c side d) a
      | inr b ↦ from_side m classes s B (move c side d) b
    ]

    back : (side : Side) → MovesInto m classes s side c d → Contains (map (class_move classes) (filter (leaves s A) m.moves) ++ map (class_move classes) (filter (leaves s B) m.moves)) (move c side d)
    back A h = Contains-append_left (map (class_move classes) (filter (leaves s A) m.moves)) (map (class_move classes) (filter (leaves s B) m.moves)) (move c A d) (by_side m classes s A c d h)
    back B h = Contains-append_right (map (class_move classes) (filter (leaves s A) m.moves)) (map (class_move classes) (filter (leaves s B) m.moves)) (move c B d) (by_side m classes s B c d h)

-- the moves of all states
pub all_made : (m : Structure) (classes : List ℕ) (side : Side) (c d : ℕ) → Contains (map (class_move classes) m.moves) (move c side d) ↔ SomeMemberMoves m classes side c d
all_made m classes side c d = (there, back)
  where
    there : Contains (map (class_move classes) m.moves) (move c side d) → SomeMemberMoves m classes side c d
    there h =
        let u = map_from (class_move classes) m.moves (move c side d) h in
        let e : u.0.side ≡ side = ap (λ (y : Move). y.side) u.2 in
        (u.0.from, u.0.to, subst (λ b. HasMove m b u.0.from u.0.to) e u.1, ap (λ (y : Move). y.from) u.2, ap (λ (y : Move). y.to) u.2)

    back : SomeMemberMoves m classes side c d → Contains (map (class_move classes) m.moves) (move c side d)
    back h =
        let e : class_move classes (move h.0 side h.1) ≡ move c side d = λ i. record { from = h.3 i; side = side; to = h.4 i } in
        subst (Contains (map (class_move classes) m.moves)) e (map_has (class_move classes) m.moves (move h.0 side h.1) h.2)

-- states with one key are of one class, and match each other
pub key_class : (m : Structure) → GoesOn m → (classes : List ℕ) (s t : ℕ) (key : List Move) → s < length m.states → IsKey m classes s key → IsKey m classes t key → slice_index classes s ≡ slice_index classes t
key_class m on classes s t key lt ks kt =
    let u = on.onward s lt in
    elim u.1 [ inl a ↦ by A u.0 a | inr b ↦ by B u.0 b ]
  where
    by : (side : Side) (s' : ℕ) → HasMove m side s s' → slice_index classes s ≡ slice_index classes t
    by side s' step =
        let v = (kt.made side (slice_index classes s) (slice_index classes s')).0 ((ks.made side (slice_index classes s) (slice_index classes s')).1 (s', step, refl, refl)) in
        sym v.2

pub key_matched : (m : Structure) (classes : List ℕ) (s t : ℕ) (key : List Move) → IsKey m classes s key → IsKey m classes t key → IsMatched m classes s t
key_matched m classes s t key ks kt side s' step =
    let v = (kt.made side (slice_index classes s) (slice_index classes s')).0 ((ks.made side (slice_index classes s) (slice_index classes s')).1 (s', step, refl, refl)) in
    (v.0, v.1, sym v.3)

into_matched : (m : Structure) (classes : List ℕ) (s t : ℕ) → slice_index classes s ≡ slice_index classes t → IsMatched m classes s t → (side : Side) (c d : ℕ) → MovesInto m classes s side c d → MovesInto m classes t side c d
into_matched m classes s t e h side c d into =
    let u = h side into.0 into.1 in
    (u.0, u.1, sym e ∙ into.2, sym u.2 ∙ into.3)

-- states of one class that match each other have one key
pub same_key : (m : Structure) (classes : List ℕ) (s t : ℕ) (key other : List Move) → slice_index classes s ≡ slice_index classes t → IsMatched m classes s t → IsMatched m classes t s → IsKey m classes s key → IsKey m classes t other → key ≡ other
same_key m classes s t key other e st ts ks kt = same_rising key other ks.rising kt.rising (λ x. (there x, back x))
  where
    there : (x : Move) → Contains key x → Contains other x
    there x h = (kt.made x.side x.from x.to).1 (into_matched m classes s t e st x.side x.from x.to ((ks.made x.side x.from x.to).0 h))

    back : (x : Move) → Contains other x → Contains key x
    back x h = (ks.made x.side x.from x.to).1 (into_matched m classes t s (sym e) ts x.side x.from x.to ((kt.made x.side x.from x.to).0 h))

-- moves of a structure join states
pub joins_below : (m : Structure) → GoesOn m → (n : ℕ) → n ≡ length m.states → All (JoinsBelow n) m.moves
joins_below m on n e k d lt =
    let x = get_or m.moves k d in
    let has : HasMove m (get_or m.moves k d).side (get_or m.moves k d).from (get_or m.moves k d).to = (k, lt, get_or_default m.moves k (get_or m.moves k d) d lt) in
    record { from = omega (arith, e, on.leaves (get_or m.moves k d).side (get_or m.moves k d).from (get_or m.moves k d).to has); to = omega (arith, e, on.within (get_or m.moves k d).side (get_or m.moves k d).from (get_or m.moves k d).to has) }

-- The list of steps has the steps, and no more.
use Rattle.std.proofs.Common.{ℕ, zero, suc, ◌≡◌, ◌<◌, ◌+◌, ◌==◌, ◌&&◌, inl, inr, Bool, true, false, List, [], ◌∷◌, length, get_or, arith, refl, sym, ◌∙◌, ap, subst, Contains, map, eqb-true}
use Rattle.std.specs.Prelude.{flat_map, filter, slice_set}
use Rattle.std.specs.List.{AllZip, range_with_len}
use Rattle.std.proofs.lemmas.Bool.{eq-eqb}
use Rattle.std.proofs.lemmas.List.Elements.{Contains-append_left, Contains-append_right, Contains-append_cases, All-contains, filter_passes}
use Rattle.pair_structure.specs.declared.side.Side.{Side}
use Rattle.pair_structure.specs.declared.side.Side.TheVariants.{A, B}
use Rattle.pair_structure.specs.declared.side.Move.{Move}
use Rattle.pair_structure.specs.Ordinal.{is_same_side, leaves}
use Rattle.pair_structure.specs.Structure.{Structure, HasMove, label_at}
use Rattle.pair_structure.specs.Sides.{local_of}
use Rattle.interconnection.specs.Shape.{ShapeParts}
use Rattle.conjunctive_compose.specs.System.{SystemParts}
use Rattle.pair_structure.specs.Parts.{role_at}
use Rattle.conjunctive_compose.proofs.Filters.{Contains-later, Contains-cases, filter_has, filter_from}
use Rattle.waitfor_check.specs.Choices.{choices}
use Rattle.waitfor_check.specs.Star.{CentreStep, IsStarState, IsStep, LeafStep, TakesArc, arc_numbered, centre_at, centre_side, leaf_side, leaf_structure}
use Rattle.waitfor_check.specs.Steps.{centre_arcs, centre_steps, leaf_steps, places, reached, reached_at, reached_by, steps}
use Rattle.waitfor_check.proofs.Selecting.{range_contains, range_below}

abbrev centre_steps_on : SystemParts → ShapeParts → List ℕ → ℕ → List (List ℕ)
centre_steps_on sys shape xs arc = choices (reached_by sys shape xs arc)

abbrev leaf_steps_of : SystemParts → ShapeParts → List ℕ → ℕ → List (List ℕ)
leaf_steps_of sys shape xs i = map (slice_set xs i) (reached (leaf_structure sys shape i) (leaf_side shape i) (get_or xs i 0))

pub map_contains : {X Y : Type 0} (f : X → Y) (xs : List X) (x : X) → Contains xs x → Contains (map f xs) (f x)
map_contains f [] x has = absurd (omega (arith, has.1))
map_contains f (y ∷ xs) x has = elim (Contains-cases y xs x has) [ inl e ↦ (0, omega arith, ap f e) | inr l ↦ Contains-later (f y) (map f xs) (f x) (map_contains f xs x l) ]

pub map_from : {X Y : Type 0} (f : X → Y) (xs : List X) (y : Y) → Contains (map f xs) y → (x : X) × Contains xs x × (f x ≡ y)
map_from f [] y has = absurd (omega (arith, has.1))
map_from f (x ∷ xs) y has = elim (Contains-cases (f x) (map f xs) y has) [ inl e ↦ (x, (0, omega arith, refl), e) | inr l ↦ (let old = map_from f xs y l in (old.0, Contains-later x xs old.0 old.1, old.2)) ]

pub flat_map_contains : {X Y : Type 0} (f : X → List Y) (xs : List X) (x : X) (y : Y) → Contains xs x → Contains (f x) y → Contains (flat_map f xs) y
flat_map_contains f [] x y has in' = absurd (omega (arith, has.1))
flat_map_contains {X} {Y} f (z ∷ xs) x y has in' = elim (Contains-cases z xs x has) [
  | inl e ↦ Contains-append_left (f z) (flat_map f xs) y (subst (λ (x : X). Contains (f x) y) (sym e) in')
  | inr l ↦ Contains-append_right (f z) (flat_map f xs) y (flat_map_contains f xs x y l in')
]

pub flat_map_from : {X Y : Type 0} (f : X → List Y) (xs : List X) (y : Y) → Contains (flat_map f xs) y → (x : X) × Contains xs x × Contains (f x) y
flat_map_from f [] y has = absurd (omega (arith, has.1))
flat_map_from f (z ∷ xs) y has = elim (Contains-append_cases (f z) (flat_map f xs) y has) [ inl l ↦ (z, (0, omega arith, refl), l) | inr l ↦ (let old = flat_map_from f xs y l in (old.0, Contains-later z xs old.0 old.1, old.2)) ]

-- a choice takes one from each
pub choices_take : (lists : List (List ℕ)) (ys : List ℕ) → Contains (choices lists) ys → AllZip Contains lists ys
choices_take [] [] has = tt
choices_take [] (y ∷ ys) has = elim (Contains-cases [] [] (y ∷ ys) has) [ inl e ↦ cc | inr l ↦ absurd (omega (arith, l.1)) ]
choices_take (xs ∷ lists) ys has =
    let outer = flat_map_from (λ x. map (λ ys. x ∷ ys) (choices lists)) xs ys has in
    let inner = map_from (λ ys. outer.0 ∷ ys) (choices lists) ys outer.2 in
    subst (AllZip Contains (xs ∷ lists)) inner.2 (outer.1, choices_take lists inner.0 inner.1)

pub choices_have : (lists : List (List ℕ)) (ys : List ℕ) → AllZip Contains lists ys → Contains (choices lists) ys
choices_have [] [] each = (0, omega arith, refl)
choices_have [] (y ∷ ys) each = absurd each
choices_have (xs ∷ lists) [] each = absurd each
choices_have (xs ∷ lists) (y ∷ ys) each = flat_map_contains (λ x. map (λ ys. x ∷ ys) (choices lists)) xs y (y ∷ ys) each.0 (map_contains (λ ys. y ∷ ys) (choices lists) ys (choices_have lists ys each.1))

pub zip_at : (f : ℕ → List ℕ) (n a : ℕ) (ys : List ℕ) → AllZip Contains (map f (range_with_len a n)) ys → (length ys ≡ n) × ((i : ℕ) → i < n → Contains (f (a + i)) (get_or ys i 0))
zip_at f zero a [] each = (refl, λ i lt. absurd (omega arith))
zip_at f zero a (y ∷ ys) each = absurd each
zip_at f (suc n) a [] each = absurd each
zip_at f (suc n) a (y ∷ ys) each = (ap {B = ℕ} (λ n. suc n) (zip_at f n (a + 1) ys each.1).0, at (zip_at f n (a + 1) ys each.1).1)
  where
    at : ((i : ℕ) → i < n → Contains (f (a + 1 + i)) (get_or ys i 0)) → (i : ℕ) → i < suc n → Contains (f (a + i)) (get_or (y ∷ ys) i 0)
    at later zero lt = let e : a ≡ a + 0 = omega arith in subst (λ (i : ℕ). Contains (f i) y) e each.0
    at later (suc i) lt = let e : a + 1 + i ≡ a + suc i = omega arith in subst (λ (j : ℕ). Contains (f j) (get_or ys i 0)) e (later i (omega arith))

pub zip_from : (f : ℕ → List ℕ) (n a : ℕ) (ys : List ℕ) → length ys ≡ n → ((i : ℕ) → i < n → Contains (f (a + i)) (get_or ys i 0)) → AllZip Contains (map f (range_with_len a n)) ys
zip_from f zero a [] long each = tt
zip_from f zero a (y ∷ ys) long each = absurd (omega (arith, long))
zip_from f (suc n) a [] long each = absurd (omega (arith, long))
zip_from f (suc n) a (y ∷ ys) long each = (
  let e : a + 0 ≡ a = omega arith in subst (λ (i : ℕ). Contains (f i) y) e (each 0 (omega arith)),
  zip_from f n (a + 1) ys (omega (arith, long)) (λ i lt. let e : a + suc i ≡ a + 1 + i = omega arith in subst (λ (j : ℕ). Contains (f j) (get_or ys i 0)) e (each (suc i) (omega arith))),
)

pub and_told : (x y : Bool) → (x && y) ≡ true → (x ≡ true) × (y ≡ true)
and_told true true e = (refl, refl)
and_told true false e = cc
and_told false y e = cc

pub same_side : (x y : Side) → is_same_side x y ≡ true → x ≡ y
same_side A A e = refl
same_side A B e = cc
same_side B A e = cc
same_side B B e = refl

is_same : (x : Side) → is_same_side x x ≡ true
is_same A = refl
is_same B = refl

pub same_move : (move : Move) (s : ℕ) (side : Side) (t : ℕ) → move.from ≡ s → move.side ≡ side → move.to ≡ t → move ≡ record { from = s; side = side; to = t }
same_move move s side t p q r = made move.from s move.side side move.to t p q r
  where
    made : (a b : ℕ) (x y : Side) (c d : ℕ) → a ≡ b → x ≡ y → c ≡ d → ◌≡◌ {A = Move} (record { from = a; side = x; to = c }) (record { from = b; side = y; to = d })
    made a b x y c d p q r = cc

pub reached_from : (m : Structure) (side : Side) (s t : ℕ) → Contains (reached m side s) t → HasMove m side s t
reached_from m side s t has =
    let found = map_from (λ (move : Move). move.to) (filter (leaves s side) m.moves) t has in
    let move = found.0 in
    let passes = All-contains (λ (move : Move). leaves s side move ≡ true) (filter (leaves s side) m.moves) move (filter_passes (leaves s side) m.moves) found.1 in
    let told = and_told (move.from == s) (is_same_side move.side side) passes in
    let is = same_move move s side t (eqb-true move.from s told.0) (same_side move.side side told.1) found.2 in
    subst (Contains m.moves) is (filter_from (leaves s side) m.moves move found.1)

pub reached_has : (m : Structure) (side : Side) (s t : ℕ) → HasMove m side s t → Contains (reached m side s) t
reached_has m side s t move = map_contains (λ (move : Move). move.to) (filter (leaves s side) m.moves) (record { from = s; side = side; to = t })
    (filter_has (leaves s side) m.moves (record { from = s; side = side; to = t }) move (rw (eq-eqb s s refl, is_same side) refl))

-- a step of the centre
pub centre_to : (sys : SystemParts) (shape : ShapeParts) (xs ys : List ℕ) → IsStarState sys shape xs → Contains (centre_steps sys shape xs) ys → (arc : ℕ) × CentreStep sys shape arc xs ys
centre_to sys shape xs ys is has = centre (flat_map_from (centre_steps_on sys shape xs) (centre_arcs sys shape xs) ys has)
  where
    centre : (arc : ℕ) × Contains (centre_arcs sys shape xs) arc × Contains (centre_steps_on sys shape xs arc) ys → (arc : ℕ) × CentreStep sys shape arc xs ys
    centre (arc, in', among) =
        let n = length shape.leaves in
        let f = λ (i : ℕ). reached_at (leaf_structure sys shape i) (centre_side shape i) (arc_numbered sys shape.role arc).to (get_or xs i 0) in
        let test = λ (arc : ℕ). (arc_numbered sys shape.role arc).from == centre_at sys shape xs 0 in
        let arcs = range_with_len 0 (length (role_at sys.network.roles shape.role).arcs) in
        let from : (arc_numbered sys shape.role arc).from ≡ centre_at sys shape xs 0 = eqb-true _ _ (All-contains (λ (arc : ℕ). test arc ≡ true) (centre_arcs sys shape xs) arc (filter_passes test arcs) in') in
        let at = zip_at f n 0 ys (choices_take (map f (places shape)) ys among) in
        (arc, record { within = range_below _ arc (filter_from test arcs arc in'); before = is.count; behind = at.0; each = λ i lt. takes arc from i lt (subst (λ (j : ℕ). Contains (f j) (get_or ys i 0)) (omega arith) (at.1 i lt)) })
      where
        takes : (arc : ℕ) → (arc_numbered sys shape.role arc).from ≡ centre_at sys shape xs 0 → (i : ℕ) → i < length shape.leaves → Contains (reached_at (leaf_structure sys shape i) (centre_side shape i) (arc_numbered sys shape.role arc).to (get_or xs i 0)) (get_or ys i 0)
            → TakesArc (leaf_structure sys shape i) (centre_side shape i) (arc_numbered sys shape.role arc) (get_or xs i 0) (get_or ys i 0)
        takes arc from i lt has =
            let m = leaf_structure sys shape i in
            let side = centre_side shape i in
            let test = λ (t : ℕ). local_of side (label_at m.states t) == (arc_numbered sys shape.role arc).to in
            record {
              move = reached_from m side (get_or xs i 0) (get_or ys i 0) (filter_from test (reached m side (get_or xs i 0)) (get_or ys i 0) has);
              from = is.agree i lt ∙ sym from;
              to = eqb-true _ _ (All-contains (λ (t : ℕ). test t ≡ true) (filter test (reached m side (get_or xs i 0))) (get_or ys i 0) (filter_passes test (reached m side (get_or xs i 0))) has);
            }

pub steps_to : (sys : SystemParts) (shape : ShapeParts) (xs ys : List ℕ) → 0 < length shape.leaves → IsStarState sys shape xs → Contains (steps sys shape xs) ys → IsStep sys shape xs ys
steps_to sys shape xs ys some is has = elim (Contains-append_cases (centre_steps sys shape xs) (leaf_steps sys shape xs) ys has) [
  | inl l ↦ inl (centre_to sys shape xs ys is l)
  | inr l ↦ inr (leaf (flat_map_from (leaf_steps_of sys shape xs) (places shape) ys l))
]
  where
    leaf : (i : ℕ) × Contains (places shape) i × Contains (leaf_steps_of sys shape xs i) ys → (i t : ℕ) × LeafStep sys shape i t xs × (slice_set xs i t ≡ ys)
    leaf (i, in', among) =
        let found = map_from (slice_set xs i) (reached (leaf_structure sys shape i) (leaf_side shape i) (get_or xs i 0)) ys among in
        (i, found.0, record { within = range_below _ i in'; move = reached_from (leaf_structure sys shape i) (leaf_side shape i) (get_or xs i 0) found.0 found.1 }, found.2)

pub centre_have : (sys : SystemParts) (shape : ShapeParts) (xs ys : List ℕ) (arc : ℕ) → 0 < length shape.leaves → IsStarState sys shape xs → CentreStep sys shape arc xs ys → Contains (centre_steps sys shape xs) ys
centre_have sys shape xs ys arc some is centre =
    (flat_map_contains (centre_steps_on sys shape xs) (centre_arcs sys shape xs) arc ys (is_arc arc centre)
    (choices_have (map (λ (i : ℕ). reached_at (leaf_structure sys shape i) (centre_side shape i) (arc_numbered sys shape.role arc).to (get_or xs i 0)) (places shape)) ys (zip_from (λ (i : ℕ). reached_at (leaf_structure sys shape i) (centre_side shape i) (arc_numbered sys shape.role arc).to (get_or xs i 0)) (length shape.leaves) 0 ys centre.behind (λ i lt. subst (λ (j : ℕ). Contains (reached_at (leaf_structure sys shape j) (centre_side shape j) (arc_numbered sys shape.role arc).to (get_or xs j 0)) (get_or ys i 0)) (omega arith) (one arc centre i lt)))))
  where
    is_arc : (arc : ℕ) → CentreStep sys shape arc xs ys → Contains (centre_arcs sys shape xs) arc
    is_arc arc centre = filter_has (λ (arc : ℕ). (arc_numbered sys shape.role arc).from == centre_at sys shape xs 0) (range_with_len 0 (length (role_at sys.network.roles shape.role).arcs)) arc (range_contains _ arc centre.within) (eq-eqb _ _ (sym (centre.each 0 some).from))

    one : (arc : ℕ) → CentreStep sys shape arc xs ys → (i : ℕ) → i < length shape.leaves → Contains (reached_at (leaf_structure sys shape i) (centre_side shape i) (arc_numbered sys shape.role arc).to (get_or xs i 0)) (get_or ys i 0)
    one arc centre i lt =
        let takes = centre.each i lt in
        filter_has (λ (t : ℕ). local_of (centre_side shape i) (label_at (leaf_structure sys shape i).states t) == (arc_numbered sys shape.role arc).to) (reached (leaf_structure sys shape i) (centre_side shape i) (get_or xs i 0)) (get_or ys i 0) (reached_has (leaf_structure sys shape i) (centre_side shape i) (get_or xs i 0) (get_or ys i 0) takes.move) (eq-eqb _ _ takes.to)

pub steps_have : (sys : SystemParts) (shape : ShapeParts) (xs ys : List ℕ) → 0 < length shape.leaves → IsStarState sys shape xs → IsStep sys shape xs ys → Contains (steps sys shape xs) ys
steps_have sys shape xs ys some is step = elim step [
  | inl (arc, centre) ↦ Contains-append_left (centre_steps sys shape xs) (leaf_steps sys shape xs) ys (centre_have sys shape xs ys arc some is centre)
  | inr (i, t, leaf, same) ↦ Contains-append_right (centre_steps sys shape xs) (leaf_steps sys shape xs) ys
      (flat_map_contains (leaf_steps_of sys shape xs) (places shape) i ys (range_contains _ i leaf.within) (subst (Contains (leaf_steps_of sys shape xs i)) same (map_contains (slice_set xs i) (reached (leaf_structure sys shape i) (leaf_side shape i) (get_or xs i 0)) t (reached_has (leaf_structure sys shape i) (leaf_side shape i) (get_or xs i 0) t leaf.move))))
]

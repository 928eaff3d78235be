-- What a structure's moves reach from a state by one side, nothing twice.
use Rattle.std.proofs.Common.{ℕ, zero, suc, ◌≡◌, ◌<◌, ◌==◌, inl, inr, Bool, true, false, List, [], ◌∷◌, length, get_or, map, arith, refl, sym, ◌∙◌, ap, subst, All, Contains, eqb-true, add-one}
use Rattle.std.specs.Prelude.{filter}
use Rattle.std.proofs.lemmas.Bool.{cases_lt}
use Rattle.std.proofs.lemmas.List.Elements.{All-contains, Contains-get_or, filter_passes}
use Rattle.pair_structure.specs.declared.side.Side.{Side}
use Rattle.pair_structure.specs.declared.side.Move.{Move}
use Rattle.pair_structure.specs.Ordinal.{is_same_side, leaves}
use Rattle.pair_structure.specs.Structure.{GoesOn, IsBefore, IsRising, Structure, side_number}
use Rattle.conjunctive_compose.proofs.Filters.{filter_from}
use Rattle.waitfor_check.specs.Steps.{reached, reached_at}
use Rattle.waitfor_check.specs.inside.Walk.{Differ}
use Rattle.waitfor_check.proofs.Distinct.{Contains-later}
use Rattle.waitfor_check.proofs.StepLists.{and_told, map_from, same_move, same_side}

before_before : (x y z : Move) → IsBefore x y → IsBefore y z → IsBefore x z
before_before x y z (inl a) (inl b) = inl (omega (arith, a, b))
before_before x y z (inl a) (inr (e, rest)) = inl (omega (arith, a, e))
before_before x y z (inr (e, rest)) (inl b) = inl (omega (arith, e, b))
before_before x y z (inr (e, inl a)) (inr (f, inl b)) = inr (e ∙ f, inl (omega (arith, a, b)))
before_before x y z (inr (e, inl a)) (inr (f, inr (s, t))) = inr (e ∙ f, inl (omega (arith, a, ap {B = ℕ} side_number s)))
before_before x y z (inr (e, inr (s, t))) (inr (f, inl b)) = inr (e ∙ f, inl (omega (arith, b, ap {B = ℕ} side_number s)))
before_before x y z (inr (e, inr (s, t))) (inr (f, inr (s', t'))) = inr (e ∙ f, inr (s ∙ s', omega (arith, t, t')))

not_before_itself : (x : Move) → IsBefore x x → ⊥
not_before_itself x (inl a) = omega (arith, a)
not_before_itself x (inr (e, inl a)) = omega (arith, a)
not_before_itself x (inr (e, inr (s, t))) = omega (arith, t)

rises_far : (moves : List Move) → IsRising moves → (i j : ℕ) (d : Move) → i < j → j < length moves → IsBefore (get_or moves i d) (get_or moves j d)
rises_far moves rising i zero d lt in' = absurd (omega (arith, lt))
rises_far moves rising i (suc j) d lt in' = elim (cases_lt i j) [
  | inl before ↦ before_before (get_or moves i d) (get_or moves j d) (get_or moves (suc j) d) (rises_far moves rising i j d before (omega (arith, in'))) (rw add-one at (rising j d (omega (arith, in'))))
  | inr after ↦ (let same : j ≡ i = omega (arith, lt, after) in subst (λ k. IsBefore (get_or moves k d) (get_or moves (suc j) d)) same (rw add-one at (rising j d (omega (arith, in')))))
]

differ_from_pairs : (moves : List Move) → ((i j : ℕ) (d : Move) → i < j → j < length moves → IsBefore (get_or moves i d) (get_or moves j d)) → Differ moves
differ_from_pairs [] pairs = tt
differ_from_pairs (x ∷ moves) pairs = (
  λ has. not_before_itself x (subst (λ y. IsBefore x y) has.2 (pairs 0 (suc has.0) x (omega arith) (omega (arith, has.1)))),
  differ_from_pairs moves (λ i j d lt in'. pairs (suc i) (suc j) d (omega (arith, lt)) (omega (arith, in'))),
)

pub Differ-filter : {X : Type 0} (p : X → Bool) (xs : List X) → Differ xs → Differ (filter p xs)
Differ-filter p [] differ = tt
Differ-filter {X} p (x ∷ xs) differ = by (p x) refl (Differ-filter p xs differ.1)
  where
    by : (b : Bool) → p x ≡ b → Differ (filter p xs) → Differ (filter p (x ∷ xs))
    by true e rest = rw e (λ has. differ.0 (filter_from p xs x has), rest)
    by false e rest = rw e rest

pub Differ-map : {X Y : Type 0} (f : X → Y) (xs : List X) → Differ xs → ((x y : X) → Contains xs x → Contains xs y → f x ≡ f y → x ≡ y) → Differ (map f xs)
Differ-map f [] differ same = tt
Differ-map f (x ∷ xs) differ same = (
  λ has. (let found = map_from f xs (f x) has in differ.0 (subst (Contains xs) (same found.0 x (Contains-later x xs found.0 found.1) (0, omega arith, refl) found.2) found.1)),
  Differ-map f xs differ.1 (λ y z h h' e. same y z (Contains-later x xs y h) (Contains-later x xs z h') e),
)

-- a structure's moves rise, so it reaches nothing twice
pub reached_differ : (m : Structure) (side : Side) (s : ℕ) → IsRising m.moves → Differ (reached m side s)
reached_differ m side s rising = Differ-map (λ (move : Move). move.to) (filter (leaves s side) m.moves) (Differ-filter (leaves s side) m.moves (differ_from_pairs m.moves (rises_far m.moves rising))) same
  where
    is : (move : Move) → Contains (filter (leaves s side) m.moves) move → (move.from ≡ s) × (move.side ≡ side)
    is move has =
        let told = and_told (move.from == s) (is_same_side move.side side) (All-contains (λ (move : Move). leaves s side move ≡ true) (filter (leaves s side) m.moves) move (filter_passes (leaves s side) m.moves) has) in
        (eqb-true move.from s told.0, same_side move.side side told.1)

    same : (x y : Move) → Contains (filter (leaves s side) m.moves) x → Contains (filter (leaves s side) m.moves) y → x.to ≡ y.to → x ≡ y
    same x y hasx hasy e =
        let isx = is x hasx in
        let isy = is y hasy in
        same_move x s side y.to isx.0 isx.1 e ∙ sym (same_move y s side y.to isy.0 isy.1 refl)

pub reached_at_differ : (m : Structure) (side : Side) (q s : ℕ) → IsRising m.moves → Differ (reached_at m side q s)
reached_at_differ m side q s rising = Differ-filter _ (reached m side s) (reached_differ m side s rising)

-- what is reached is a state
pub targets_within : (m : Structure) (side : Side) (s : ℕ) → GoesOn m → All (λ (move : Move). move.to < length m.states) (filter (leaves s side) m.moves)
targets_within m side s goes k d lt =
    let move = get_or (filter (leaves s side) m.moves) k d in
    goes.within move.side move.from move.to (filter_from (leaves s side) m.moves (get_or (filter (leaves s side) m.moves) k d) (Contains-get_or (filter (leaves s side) m.moves) k d lt))

-- The lists of predecessors, one step further each.
use Rattle.std.proofs.Common.{ℕ, suc, ◌≡◌, ◌≢◌, ◌+◌, ◌<◌, ◌≤◌, List, [], ◌∷◌, ◌++◌, length, get_or, slice_index, slice_set, refl, subst, sym, ◌∙◌, arith, length-append, length-set, get_or-set_same, get_or-set_other}
use Rattle.std.proofs.Math.Decide.{ℕ_discrete, dec_lt}
use Rattle.std.proofs.lemmas.Grind.{get_or_default_zero}
use Rattle.std.proofs.lemmas.List.{get_or_append_left, get_or_push}
use Rattle.pair_structure.specs.declared.side.Move.{Move}
use Rattle.pair_structure.specs.Structure.{Structure, GoesOn, Reaches}
use Rattle.pair_structure.specs.StructureFault.{move_at}
use Rattle.ctl_form.specs.inside.Predecessors.{EndsAt, AreLinked, AddsSources}
use Rattle.ctl_form.specs.Predecessors.{ArePartsOf, ArePredecessors}
use Rattle.ctl_form.proofs.MovePlaces.{reaches_by, move_of}
use Rattle.ctl_form.proofs.Moves.{reaches_from}

-- a move that leads elsewhere
EndsAt-other : (moves : List Move) (t end n : ℕ) → (move_at moves n).to ≢ t → EndsAt moves t end n → EndsAt moves t end (n + 1)
EndsAt-other moves t end n other h = record { within = omega (arith, h.within); none_later = later; last = h.last }
  where
    later : (j : ℕ) → end ≤ j → j < n + 1 → (move_at moves j).to ≢ t
    later j le lt = elim (dec_lt j n) [ yes l ↦ h.none_later j le l | no g ↦ (let e : n ≡ j = omega (arith, g) in subst (λ i. (move_at moves i).to ≢ t) e other) ]

-- a move that leads to t
EndsAt-here : (moves : List Move) (t n : ℕ) → (move_at moves n).to ≡ t → EndsAt moves t (n + 1) (n + 1)
EndsAt-here moves t n here = record { within = omega arith; none_later = λ j le lt. absurd (omega (arith, le, lt)); last = λ j e. (let f : n ≡ j = omega (arith, e) in subst (λ i. (move_at moves i).to ≡ t) f here) }

pub AreLinked-push : (states : ℕ) (moves : List Move) (n to end : ℕ) (ends before : List ℕ) → (move_at moves n).to ≡ to → to < states → end ≡ slice_index ends to → AreLinked states moves n ends before → AreLinked states moves (n + 1) (slice_set ends to (n + 1)) (before ++ end ∷ [])
AreLinked-push states moves n to end ends before here lt read h = record { long_ends = length-set ends to (n + 1) ∙ h.long_ends; long_before = length-append before (end ∷ []) ∙ omega (arith, h.long_before); ends_at = ends_at; before_at = before_at }
  where
    ends_at : (t : ℕ) → t < states → EndsAt moves t (slice_index (slice_set ends to (n + 1)) t) (n + 1)
    ends_at t l = elim (ℕ_discrete t to) [
      | yes e ↦ (let within : to < length ends = omega (arith, lt, h.long_ends) in subst (λ i. EndsAt moves i (slice_index (slice_set ends to (n + 1)) i) (n + 1)) (sym e) (rw (get_or-set_same ends to (n + 1) 0 within) (EndsAt-here moves to n here)))
      | no apart ↦ (let differ : t ≢ to = apart in rw (get_or-set_other ends to t (n + 1) 0 differ) (EndsAt-other moves t (slice_index ends t) n (λ e. differ (sym e ∙ here)) (h.ends_at t l)))
    ]

    before_at : (j : ℕ) → j < n + 1 → EndsAt moves (move_at moves j).to (slice_index (before ++ end ∷ []) j) j
    before_at j l = elim (dec_lt j n) [
      | yes earlier ↦ rw (get_or_append_left before (end ∷ []) 0 j (omega (arith, earlier, h.long_before))) (h.before_at j earlier)
      | no g ↦ (let e : n ≡ j = omega (arith, g, l) in subst (λ i. EndsAt moves (move_at moves i).to (slice_index (before ++ end ∷ []) i) i) e (rw (get_or_push before end 0 n h.long_before, read, here) (h.ends_at to lt)))
    ]

-- the last move that leads to t adds the state that it leaves
pub AddsSources-push : (moves : List Move) (t end place : ℕ) (old new : List ℕ) → suc place ≡ end → end ≤ length moves → EndsAt moves t end end → (earlier : ℕ) → EndsAt moves t earlier place → AddsSources moves t end old new → AddsSources moves t earlier old (new ++ (move_at moves place).from ∷ [])
AddsSources-push moves t end place old new is_last few ends earlier before h = record { longer = omega (arith, h.longer, long); kept = kept; leads = leads; complete = complete }
  where
    source : ℕ
    source = (move_at moves place).from

    long : length (new ++ (move_at moves place).from ∷ []) ≡ length new + 1
    long = length-append new ((move_at moves place).from ∷ [])

    within : place < length moves
    within = omega (arith, few, is_last)

    kept : (k : ℕ) → k < length old → slice_index (new ++ (move_at moves place).from ∷ []) k ≡ slice_index old k
    kept k lt = get_or_append_left new ((move_at moves place).from ∷ []) 0 k (omega (arith, lt, h.longer)) ∙ h.kept k lt

    leads : (k : ℕ) → length old ≤ k → k < length (new ++ (move_at moves place).from ∷ []) → (j : ℕ) × (j < length moves) × ((move_at moves j).from ≡ slice_index (new ++ (move_at moves place).from ∷ []) k) × ((move_at moves j).to ≡ t)
    leads k le lt = elim (dec_lt k (length new)) [
      | yes l ↦ (let u = h.leads k le l in (u.0, u.1, u.2 ∙ sym (get_or_append_left new ((move_at moves place).from ∷ []) 0 k l), u.3))
      | no g ↦ (let e : length new ≡ k = omega (arith, g, lt, long) in (place, within, sym (get_or_push new (move_at moves place).from 0 k e), ends.last place is_last))
    ]

    complete : (j : ℕ) → earlier ≤ j → j < length moves → (move_at moves j).to ≡ t → (k : ℕ) × (length old ≤ k) × (k < length (new ++ (move_at moves place).from ∷ [])) × (slice_index (new ++ (move_at moves place).from ∷ []) k ≡ (move_at moves j).from)
    complete j le lt e = elim (dec_lt j place) [
      | yes l ↦ absurd (before.none_later j le l e)
      | no g ↦ elim (ℕ_discrete j place) [
        | yes same ↦ subst (λ i. (k : ℕ) × (length old ≤ k) × (k < length (new ++ (move_at moves place).from ∷ [])) × (slice_index (new ++ (move_at moves place).from ∷ []) k ≡ (move_at moves i).from)) (sym same) (length new, h.longer, omega (arith, long), get_or_push new (move_at moves place).from 0 (length new) refl)
        | no apart ↦ (let differ : j ≢ place = apart in let u = h.complete j (omega (arith, g, is_last)) lt e in (u.0, u.1, omega (arith, u.2, long), get_or_append_left new ((move_at moves place).from ∷ []) 0 u.0 u.2 ∙ u.3))
      ]
    ]

-- an end is one of its own moves' list
pub EndsAt-self : (moves : List Move) (t end n : ℕ) → EndsAt moves t end n → EndsAt moves t end end
EndsAt-self moves t end n h = record { within = omega arith; none_later = λ j le lt. absurd (omega (arith, le, lt)); last = h.last }

-- the part of one more state
pub ArePartsOf-push : (m : Structure) (n : ℕ) (begins old new : List ℕ) → ArePartsOf m n begins old → AddsSources m.moves n 0 old new → ArePartsOf m (n + 1) (begins ++ length new ∷ []) new
ArePartsOf-push m n begins old new h add = record { long = length-append begins (length new ∷ []) ∙ omega (arith, h.long); rising = rising; within = within; last = get_or_push begins (length new) 0 (n + 1) h.long; leads = leads; complete = complete }
  where
    begin : (t : ℕ) → t < n + 1 → slice_index (begins ++ length new ∷ []) t ≡ slice_index begins t
    begin t lt = get_or_append_left begins (length new ∷ []) 0 t (omega (arith, lt, h.long))

    end : slice_index (begins ++ length new ∷ []) (n + 1) ≡ length new
    end = get_or_push begins (length new) 0 (n + 1) h.long

    rising : (t : ℕ) → t < n + 1 → slice_index (begins ++ length new ∷ []) t ≤ slice_index (begins ++ length new ∷ []) (t + 1)
    rising t lt = elim (ℕ_discrete t n) [
      | yes e ↦ subst (λ i. slice_index (begins ++ length new ∷ []) i ≤ slice_index (begins ++ length new ∷ []) (i + 1)) (sym e) (rw (begin n (omega arith), end, h.last) add.longer)
      | no apart ↦ (let differ : t ≢ n = apart in rw (begin t lt, begin (t + 1) (omega (arith, lt))) (h.rising t (omega (arith, lt))))
    ]

    within : (t : ℕ) → t ≤ n + 1 → slice_index (begins ++ length new ∷ []) t ≤ length new
    within t le = elim (ℕ_discrete t (n + 1)) [
      | yes e ↦ subst (λ i. slice_index (begins ++ length new ∷ []) i ≤ length new) (sym e) (rw end (omega arith))
      | no apart ↦ (let differ : t ≢ n + 1 = apart in rw (begin t (omega (arith, le))) (omega (arith, h.within t (omega (arith, le)), add.longer)))
    ]

    leads : (t k : ℕ) → t < n + 1 → slice_index (begins ++ length new ∷ []) t ≤ k → k < slice_index (begins ++ length new ∷ []) (t + 1) → Reaches m (slice_index new k) t
    leads t k lt le gt = elim (ℕ_discrete t n) [
      | yes e ↦ subst (λ i. Reaches m (slice_index new k) i) (sym e) (at_n (rw (e, begin n (omega arith), h.last) at le) (rw (e, end) at gt))
      | no apart ↦ (let differ : t ≢ n = apart in let low : t < n = omega (arith, lt) in let le' = rw (begin t lt) at le in let gt' = rw (begin (t + 1) (omega (arith, low))) at gt in let old_place : k < length old = omega (arith, gt', h.within (t + 1) (omega (arith, low))) in rw (add.kept k old_place) (h.leads t k low le' gt'))
    ]
      where
        at_n : length old ≤ k → k < length new → Reaches m (slice_index new k) n
        at_n l g = let u = add.leads k l g in subst (λ s. Reaches m s n) u.2 (subst (λ t. Reaches m (move_at m.moves u.0).from t) u.3 (reaches_by m u.0 u.1))

    complete : (s t : ℕ) → t < n + 1 → Reaches m s t → (k : ℕ) × (slice_index (begins ++ length new ∷ []) t ≤ k) × (k < slice_index (begins ++ length new ∷ []) (t + 1)) × (slice_index new k ≡ s)
    complete s t lt step = elim (ℕ_discrete t n) [
      | yes e ↦ subst (λ i. (k : ℕ) × (slice_index (begins ++ length new ∷ []) i ≤ k) × (k < slice_index (begins ++ length new ∷ []) (i + 1)) × (slice_index new k ≡ s)) (sym e) (at_n (subst (λ i. Reaches m s i) e step))
      | no apart ↦ (let differ : t ≢ n = apart in let low : t < n = omega (arith, lt) in let u = h.complete s t low step in (u.0, rw (begin t lt) u.1, rw (begin (t + 1) (omega (arith, low))) u.2, add.kept u.0 (omega (arith, u.2, h.within (t + 1) (omega (arith, low)))) ∙ u.3))
    ]
      where
        at_n : Reaches m s n → (k : ℕ) × (slice_index (begins ++ length new ∷ []) n ≤ k) × (k < slice_index (begins ++ length new ∷ []) (n + 1)) × (slice_index new k ≡ s)
        at_n r = let j = move_of m s n r in let u = add.complete j.0 (omega arith) j.1 j.3 in (u.0, rw (begin n (omega arith), h.last) u.1, rw end u.2, u.3 ∙ j.2)

-- where the part of state t begins, as it is read
pub begin_read : (m : Structure) (begins sources : List ℕ) (t b : ℕ) → ArePredecessors m begins sources → t ≤ length m.states → b ≡ get_or begins t b → b ≡ slice_index begins t
begin_read m begins sources t b parts le e = e ∙ get_or_default_zero begins t b (omega (arith, le, parts.long))

-- a place in the part of state s, and the state that stands there
pub record IsSource (m : Structure) (begins sources : List ℕ) (s place source : ℕ) : Type 0 where
  pub from : slice_index begins s ≤ place
  pub before : place < slice_index begins (s + 1)
  pub read : source ≡ slice_index sources place
  pub within : source < length m.states

pub place_within : (m : Structure) (begins sources : List ℕ) (s place end : ℕ) → ArePredecessors m begins sources → s < length m.states → end ≡ get_or begins (s + 1) end → place < end → place < length sources
place_within m begins sources s place end parts lt e before = omega (arith, before, begin_read m begins sources (s + 1) end parts (omega (arith, lt)) e, parts.within (s + 1) (omega (arith, lt)))

pub source_read : (m : Structure) (begins sources : List ℕ) (s place begin end source : ℕ) → GoesOn m → ArePredecessors m begins sources → s < length m.states → begin ≡ get_or begins s begin → end ≡ get_or begins (s + 1) end → begin ≤ place → place < end
    → source ≡ get_or sources place source → IsSource m begins sources s place source
source_read m begins sources s place begin end source on parts lt b e le gt r =
    let read : source ≡ slice_index sources place = r ∙ get_or_default_zero sources place source (place_within m begins sources s place end parts lt e gt) in
    let from : slice_index begins s ≤ place = omega (arith, le, begin_read m begins sources s begin parts (omega (arith, lt)) b) in
    let before : place < slice_index begins (s + 1) = omega (arith, gt, begin_read m begins sources (s + 1) end parts (omega (arith, lt)) e) in
    record { from = from; before = before; read = read; within = subst (λ t. t < length m.states) (sym read) (reaches_from m on _ _ (parts.leads s place lt from before)) }

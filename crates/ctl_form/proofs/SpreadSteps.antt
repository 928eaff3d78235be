-- A worklist's steps keep the marks sound, and with an empty list the marks are exact.
use Rattle.std.proofs.Common.{ℕ, zero, suc, ◌≡◌, ◌≢◌, ◌<◌, ◌≤◌, ◌+◌, ◌++◌, inl, inr, Bool, true, false, not, List, [], ◌∷◌, length, refl, subst, sym, ◌∙◌, arith, Contains, cond, count_by, slice_index, slice_index_or, slice_set, length-set, length-append}
use Rattle.std.proofs.Math.Decide.{ℕ_discrete}
use Rattle.std.proofs.lemmas.List.Elements.{All-append, Contains-append_left, Contains-append_right, Contains-append_cases}
use Rattle.std.proofs.lemmas.List.Sums.{sum_by-set}
use Rattle.pair_structure.specs.declared.side.Move.{Move}
use Rattle.pair_structure.specs.Structure.{Structure, Reaches, GoesOn}
use Rattle.pair_structure.specs.StructureFault.{move_at}
use Rattle.ctl_form.specs.Predecessors.{ArePredecessors}
use Rattle.ctl_form.specs.Rounds.{AfterMove}
use Rattle.ctl_form.specs.Row.{IsAt, IsRowOf}
use Rattle.ctl_form.specs.inside.Spread.{EachLeads, IsAdmitted, Visits, IsMarkList, Anyhow, SeenBefore, IsUsed, IsSpread}
use Rattle.ctl_form.specs.Truth.{AlongPaths}
use Rattle.ctl_form.proofs.AllOf.{All-front, All-one}
use Rattle.ctl_form.proofs.MovePlaces.{move_of, reaches_by}
use Rattle.ctl_form.proofs.Moves.{reaches_within, reaches_from, after_map}
use Rattle.ctl_form.proofs.Rounds.{AreDecided, Stage}
use Rattle.ctl_form.proofs.Rows.{decided_at, false_of, IsAt-set_same, IsAt-set_keeps, IsAt-set_back}
use Rattle.ctl_form.proofs.Unfold.{along_unfolds, label_along}

-- what the worklist has still to do: each state may be marked and put on it once more
abbrev pub left_to_do : List Bool → List ℕ → ℕ
left_to_do row work = count_by not row + (count_by not row + length work)

pub rows_decided : (m : Structure) (p q : List Bool) → AreDecided m (IsAt p) (IsAt q)
rows_decided m p q = record { first = λ t _. decided_at p t; second = λ t _. decided_at q t }

-- one mark more is one state less that lacks one
count_by-set : (row : List Bool) (s : ℕ) → s < length row → (IsAt row s → ⊥) → count_by not (slice_set row s true) + 1 ≡ count_by not row
count_by-set row s lt none =
    let counts : count_by not (slice_set row s true) + cond (not (slice_index_or row s false)) 1 0 ≡ count_by not row + 0 = sum_by-set (λ x. cond (not x) 1 0) row s true false lt in
    let was_false = rw (false_of (slice_index_or row s false) none) at counts in
    omega (arith, was_false)

pub left_to_do-visit : (moves : List Move) (all : Bool) (p : List Bool) (s : ℕ) (row : List Bool) (work : List ℕ) (row' : List Bool) (work' : List ℕ) → s < length row → Visits moves all p s row work row' work' → left_to_do row' work' ≤ left_to_do row work
left_to_do-visit moves all p s row work row' work' lt (inl v) = rw (v.1, v.2) (omega (arith, count_by-set row s lt v.0.unmarked, length-append work (s ∷ [])))
left_to_do-visit moves all p s row work row' work' lt (inr v) = rw (v.1, v.2) (omega arith)

-- what is marked stays marked
pub IsAt-visit : (moves : List Move) (all : Bool) (p : List Bool) (s : ℕ) (row : List Bool) (work : List ℕ) (row' : List Bool) (work' : List ℕ) (t : ℕ) → s < length row → Visits moves all p s row work row' work' → IsAt row t → IsAt row' t
IsAt-visit moves all p s row work row' work' t lt (inl v) h = rw v.1 (IsAt-set_keeps row s t lt h)
IsAt-visit moves all p s row work row' work' t lt (inr v) h = rw v.1 h

-- where each move leads to what is marked, so do the moves by their numbers
leads_after : (m : Structure) (row : List Bool) (X : ℕ → Type 0) (all : Bool) (s : ℕ) → all ≡ true → ((t : ℕ) → X t → IsAt row t) → AfterMove m all X s → EachLeads m.moves row s
leads_after m row X true s e to after j lt leaves = to (move_at m.moves j).to (after (move_at m.moves j).to (subst (λ i. Reaches m i (move_at m.moves j).to) leaves (reaches_by m j lt)))
leads_after m row X false s e to after j lt leaves = absurd (let f : false ≡ true = e in cc)

-- at the outset every marked state is on the list
pub IsSpread-outset : (m : Structure) → GoesOn m → (all : Bool) (p q : List Bool) (work : List ℕ) → length q ≡ length m.states → IsMarkList q work → IsSpread m all p q q work Anyhow
IsSpread-outset m on all p q work long list = record {
  long = long;
  listed = λ k d lt. (let l : slice_index_or work k d < length q = list.within k d lt in omega (arith, l, long));
  marked = list.marked;
  sound = λ s lt h. (along_unfolds m on all false (IsAt p) (IsAt q) (rows_decided m p q) s lt).1 (inl h);
  started = λ s h. h;
  spread = λ s lt x after. absurd (none all s lt after);
}
  where
    on_list : (t : ℕ) → t < length m.states → IsAt q t → Contains work t
    on_list t lt h = list.complete t (omega (arith, lt, long)) h

    none : (all : Bool) (s : ℕ) → s < length m.states → AfterMove m all (IsUsed q work Anyhow s) s → ⊥
    none true s lt after = let u = on.onward s lt in let v = after u.0 u.1 in v.off (on_list u.0 (reaches_within m on s u.0 u.1) v.marked)
    none false s lt after = after.2.off (on_list after.0 (reaches_within m on s after.0 after.1) after.2.marked)

-- a state taken off the list is in hand, and none of its predecessors was seen yet
pub IsSpread-take : (m : Structure) (all : Bool) (p q row : List Bool) (work begins sources : List ℕ) (hand begin : ℕ) → begin ≡ slice_index begins hand → IsSpread m all p q row (work ++ hand ∷ []) Anyhow → IsSpread m all p q row work (SeenBefore begins sources hand begin)
IsSpread-take m all p q row work begins sources hand begin e h = record {
  long = h.long;
  listed = All-front (λ s. s < length m.states) work (hand ∷ []) h.listed;
  marked = All-front (IsAt row) work (hand ∷ []) h.marked;
  sound = h.sound;
  started = h.started;
  spread = λ s lt x after. h.spread s lt x (after_map m all (IsUsed row work (SeenBefore begins sources hand begin) s) (IsUsed row (work ++ hand ∷ []) Anyhow s) s (λ t step used. record { marked = used.marked; off = off t used.off (none_seen s t used.seen); seen = tt }) after);
}
  where
    none_seen : (s t : ℕ) → SeenBefore begins sources hand begin s t → t ≡ hand → ⊥
    none_seen s t seen same = let u = seen same in omega (arith, e, u.1, u.2)

    off : (t : ℕ) → (Contains work t → ⊥) → (t ≡ hand → ⊥) → Contains (work ++ hand ∷ []) t → ⊥
    off t off_work differ c = elim (Contains-append_cases work (hand ∷ []) t c) [ inl w ↦ off_work w | inr last ↦ differ (only t last) ]
      where
        only : (t : ℕ) → Contains (hand ∷ []) t → t ≡ hand
        only t (zero, lt, e) = sym e
        only t (suc k, lt, e) = absurd (omega (arith, lt))

-- once all its predecessors were seen, nothing more is asked of its moves
pub IsSpread-seen : (m : Structure) (all : Bool) (p q row : List Bool) (work begins sources : List ℕ) (hand k : ℕ) → ArePredecessors m begins sources → hand < length m.states → slice_index begins (hand + 1) ≤ k → IsSpread m all p q row work (SeenBefore begins sources hand k) → IsSpread m all p q row work Anyhow
IsSpread-seen m all p q row work begins sources hand k parts lt_hand seen h = record {
  long = h.long;
  listed = h.listed;
  marked = h.marked;
  sound = h.sound;
  started = h.started;
  spread = λ s lt x after. h.spread s lt x (after_map m all (IsUsed row work Anyhow s) (IsUsed row work (SeenBefore begins sources hand k) s) s (λ t step used. record { marked = used.marked; off = used.off; seen = at_hand s t step }) after);
}
  where
    at_hand : (s t : ℕ) → Reaches m s t → SeenBefore begins sources hand k s t
    at_hand s t step e = let u = parts.complete s hand lt_hand (subst (λ i. Reaches m s i) e step) in (u.0, u.1, omega (arith, u.2, seen), u.3)

-- with nothing on the list the marks are exact
pub IsSpread-done : (m : Structure) → GoesOn m → (all : Bool) (p q row : List Bool) (work : List ℕ) → length work ≡ 0 → IsSpread m all p q row work Anyhow → IsRowOf (length m.states) (AlongPaths m all false (IsAt p) (IsAt q)) row
IsSpread-done m on all p q row work empty h = record { long = h.long; exact = label_along m on all (IsAt p) (IsAt q) (IsAt row) (rows_decided m p q) (record { sound = h.sound; closed = closed }) }
  where
    not_listed : (t : ℕ) → Contains work t → ⊥
    not_listed t c = omega (arith, empty, c.1)

    closed : (s : ℕ) → s < length m.states → Stage m all (IsAt p) (IsAt q) (IsAt row) s → IsAt row s
    closed s lt (inl y) = h.started s y
    closed s lt (inr x) = h.spread s lt x.0 (after_map m all (IsAt row) (IsUsed row work Anyhow s) s (λ t step y. record { marked = y; off = not_listed t; seen = tt }) x.1)

-- a predecessor of the state in hand was looked at
module _ (m : Structure) (on : GoesOn m) (all : Bool) (p q : List Bool) (begins sources : List ℕ) (hand k : ℕ) (parts : ArePredecessors m begins sources) (lt_hand : hand < length m.states) (from : slice_index begins hand ≤ k) (before : k < slice_index begins (hand + 1)) where
  leads : Reaches m (slice_index sources k) hand
  leads = parts.leads hand k lt_hand from before

  lt_source : slice_index sources k < length m.states
  lt_source = reaches_from m on (slice_index sources k) hand leads

  after_admitted : (X : ℕ → Type 0) (row : List Bool) (b : Bool) → b ≡ all → X hand → ((t : ℕ) → Reaches m (slice_index sources k) t → IsAt row t → X t) → IsAdmitted m.moves all p row (slice_index sources k) → AfterMove m b X (slice_index sources k)
  after_admitted X row true e at_hand to h = λ t step. to t step (let u = move_of m (slice_index sources k) t step in subst (λ i. IsAt row i) u.3 (h.leads (sym e) u.0 u.1 u.2))
  after_admitted X row false e at_hand to h = (hand, leads, at_hand)

  -- a state before place k was seen, and at place k there is another state
  seen_earlier : (s t : ℕ) → s ≢ slice_index sources k → SeenBefore begins sources hand (k + 1) s t → SeenBefore begins sources hand k s t
  seen_earlier s t differ seen e = let u = seen e in (u.0, u.1, elim (ℕ_discrete u.0 k) [ yes same ↦ absurd (differ (sym u.3 ∙ subst (λ i. slice_index sources u.0 ≡ slice_index sources i) same refl)) | no n ↦ (let apart : u.0 ≢ k = n in omega (arith, u.2)) ], u.3)

  passed : (row : List Bool) (work : List ℕ) → (IsAdmitted m.moves all p row (slice_index sources k) → ⊥) → IsSpread m all p q row work (SeenBefore begins sources hand k) → IsSpread m all p q row work (SeenBefore begins sources hand (k + 1))
  passed row work refused h = record { long = h.long; listed = h.listed; marked = h.marked; sound = h.sound; started = h.started; spread = spread }
    where
      spread : (s : ℕ) → s < length m.states → IsAt p s → AfterMove m all (IsUsed row work (SeenBefore begins sources hand (k + 1)) s) s → IsAt row s
      spread s lt x after = elim (ℕ_discrete s (slice_index sources k)) [ yes e ↦ at_source e | no n ↦ (let differ : s ≢ slice_index sources k = n in h.spread s lt x (after_map m all (IsUsed row work (SeenBefore begins sources hand (k + 1)) s) (IsUsed row work (SeenBefore begins sources hand k) s) s (λ t step used. record { marked = used.marked; off = used.off; seen = seen_earlier s t differ used.seen }) after)) ]
        where
          at_source : s ≡ slice_index sources k → IsAt row s
          at_source e = elim (decided_at row s) [ inl marked ↦ marked | inr unmarked ↦ absurd (refused (subst (λ i. IsAdmitted m.moves all p row i) e (record { unmarked = unmarked; first = x; leads = λ each. leads_after m row (IsUsed row work (SeenBefore begins sources hand (k + 1)) s) all s each (λ t used. used.marked) after }))) ]

  marks : (row : List Bool) (work : List ℕ) → IsAt row hand → IsAdmitted m.moves all p row (slice_index sources k) → IsSpread m all p q row work (SeenBefore begins sources hand k) → IsSpread m all p q (slice_set row (slice_index sources k) true) (work ++ slice_index sources k ∷ []) (SeenBefore begins sources hand (k + 1))
  marks row work marked admitted h = record { long = length-set row (slice_index sources k) true ∙ h.long; listed = All-append (λ s. s < length m.states) work (slice_index sources k ∷ []) h.listed (All-one (λ s. s < length m.states) (slice_index sources k) lt_source); marked = All-append (IsAt (slice_set row (slice_index sources k) true)) work (slice_index sources k ∷ []) (λ i d l. IsAt-set_keeps row (slice_index sources k) (slice_index_or work i d) lt_row (h.marked i d l)) (All-one (IsAt (slice_set row (slice_index sources k) true)) (slice_index sources k) (IsAt-set_same row (slice_index sources k) lt_row)); sound = sound; started = λ s y. IsAt-set_keeps row (slice_index sources k) s lt_row (h.started s y); spread = spread }
    where
      lt_row : slice_index sources k < length row
      lt_row = omega (arith, lt_source, h.long)

      here : AlongPaths m all false (IsAt p) (IsAt q) (slice_index sources k)
      here = (along_unfolds m on all false (IsAt p) (IsAt q) (rows_decided m p q) (slice_index sources k) lt_source).1 (inr (admitted.first, after_admitted (AlongPaths m all false (IsAt p) (IsAt q)) row all refl (h.sound hand lt_hand marked) (λ t step r. h.sound t (reaches_within m on (slice_index sources k) t step) r) admitted))

      sound : (s : ℕ) → s < length m.states → IsAt (slice_set row (slice_index sources k) true) s → AlongPaths m all false (IsAt p) (IsAt q) s
      sound s lt y = elim (ℕ_discrete s (slice_index sources k)) [ yes e ↦ subst (λ i. AlongPaths m all false (IsAt p) (IsAt q) i) (sym e) here | no n ↦ (let differ : s ≢ slice_index sources k = n in h.sound s lt (IsAt-set_back row (slice_index sources k) s differ y)) ]

      -- what is marked and not on the list was marked before
      old_mark : (t : ℕ) → IsAt (slice_set row (slice_index sources k) true) t → (Contains (work ++ slice_index sources k ∷ []) t → ⊥) → IsAt row t
      old_mark t y off = let differ : t ≢ slice_index sources k = (λ e. off (Contains-append_right work (slice_index sources k ∷ []) t (0, omega arith, sym e))) in IsAt-set_back row (slice_index sources k) t differ y

      spread : (s : ℕ) → s < length m.states → IsAt p s → AfterMove m all (IsUsed (slice_set row (slice_index sources k) true) (work ++ slice_index sources k ∷ []) (SeenBefore begins sources hand (k + 1)) s) s → IsAt (slice_set row (slice_index sources k) true) s
      spread s lt x after = elim (ℕ_discrete s (slice_index sources k)) [ yes e ↦ subst (λ i. IsAt (slice_set row (slice_index sources k) true) i) (sym e) (IsAt-set_same row (slice_index sources k) lt_row) | no n ↦ (let differ : s ≢ slice_index sources k = n in IsAt-set_keeps row (slice_index sources k) s lt_row (h.spread s lt x (after_map m all (IsUsed (slice_set row (slice_index sources k) true) (work ++ slice_index sources k ∷ []) (SeenBefore begins sources hand (k + 1)) s) (IsUsed row work (SeenBefore begins sources hand k) s) s (λ t step used. record { marked = old_mark t used.marked used.off; off = λ c. used.off (Contains-append_left work (slice_index sources k ∷ []) t c); seen = seen_earlier s t differ used.seen }) after))) ]

  pub IsSpread-visit : (row : List Bool) (work : List ℕ) (row' : List Bool) (work' : List ℕ) → IsAt row hand → Visits m.moves all p (slice_index sources k) row work row' work' → IsSpread m all p q row work (SeenBefore begins sources hand k) → IsSpread m all p q row' work' (SeenBefore begins sources hand (k + 1))
  IsSpread-visit row work row' work' marked (inl v) h = subst (λ r. IsSpread m all p q r work' (SeenBefore begins sources hand (k + 1))) (sym v.1) (subst (λ w. IsSpread m all p q (slice_set row (slice_index sources k) true) w (SeenBefore begins sources hand (k + 1))) (sym v.2) (marks row work marked v.0 h))
  IsSpread-visit row work row' work' marked (inr v) h = subst (λ r. IsSpread m all p q r work' (SeenBefore begins sources hand (k + 1))) (sym v.1) (subst (λ w. IsSpread m all p q row w (SeenBefore begins sources hand (k + 1))) (sym v.2) (passed row work v.0 h))

-- Processes placed one after another as long as some can go.
use Rattle.std.proofs.Common.{ℕ, zero, suc, ◌≡◌, ◌<◌, ◌≤◌, ◌+◌, ◌*◌, ◌==◌, ◌⊎◌, inl, inr, Bool, true, false, cond, List, [], ◌∷◌, ◌++◌, length, get_or, set, take, replicate, arith, refl, sym, ◌∙◌, ap, subst, All, Contains, eq-eqb, ne_eqb, length-set, get_or-set_same, get_or-set_other}
use Rattle.std.specs.Prelude.{count_by}
use Rattle.std.specs.List.{AllPass}
use Rattle.std.proofs.lemmas.Bool.{cases_eq, cases_lt}
use Rattle.std.proofs.lemmas.List.{get_or_default, get_or_append_left, get_or-take, length-replicate, length-append, length-take, take_all, take_more, take-append-le, append_assoc}
use Rattle.std.proofs.lemmas.List.Elements.{All-push, Contains-append_left, Contains-push, Contains-push_cases}
use Rattle.std.proofs.lemmas.List.Sums.{sum_by-set, sum_by-append, sum_by-cons}
use Rattle.pair_structure.specs.declared.limits.TheConstants.{MAX_ARCS}
use Rattle.pair_structure.specs.declared.side.Side.{Side}
use Rattle.interconnection.specs.declared.parts.Beside.{Beside}
use Rattle.interconnection.specs.Graph.{IsBeside, end_of, opposite}
use Rattle.conjunctive_compose.specs.System.{SystemParts, IsSystem, IsOn, edge_at, edge_count, process_count}
use Rattle.conjunctive_compose.specs.Whole.{WholeParts}
use Rattle.conjunctive_compose.specs.Firing.{Permits}
use Rattle.conjunctive_compose.specs.Peel.{CanGoInTurn, CanGoPast, HasPeelOrder, IsEnabled, IsPeelOrder}
use Rattle.conjunctive_compose.specs.inside.Peeling.{IsGrown, IsMarked, IsPeeling, NoneCanGo, PeelingParts, WereTried, place_of}
use Rattle.conjunctive_compose.proofs.Filters.{Contains-cases}
use Rattle.conjunctive_compose.proofs.Neighbours.{AreBeside}
use Rattle.conjunctive_compose.proofs.Edges.{edge_lawful}
use Rattle.conjunctive_compose.proofs.PeelOrders.{contains_from_count, count_cons, end_within, turns_push}
use Rattle.conjunctive_compose.proofs.Sides.{opposite_twice}

-- the more are gone, the more can go
pub past_more : (sys : SystemParts) (w : WholeParts) (Few More : ℕ → Type 0) (k : ℕ) → ((j : ℕ) → Few j → More j) → CanGoPast sys w Few k → CanGoPast sys w More k
past_more sys w Few More k more (arc, leaving, clear) = (arc, leaving, λ e side lt on. elim (clear e side lt on) [ inl permit ↦ inl permit | inr gone ↦ inr (more _ gone) ])

-- one more at the end of a list
count_push : (k x : ℕ) (xs : List ℕ) → count_by (λ j. j == k) (xs ++ x ∷ []) ≡ count_by (λ j. j == k) xs + cond (x == k) 1 0
count_push k x xs = sum_by-append (λ j. cond (j == k) 1 0) xs (x ∷ []) ∙ omega (arith, count_cons k x [])

-- one more mark
pub IsMarked-set : (marks : List Bool) (k j : ℕ) → k < length marks → IsMarked marks j → IsMarked (set marks k true) j
IsMarked-set marks k j lt m = elim (cases_eq j k) [ inl same ↦ subst (IsMarked (set marks k true)) (sym same) (get_or-set_same marks k true false lt) | inr differ ↦ get_or-set_other marks k j true false differ ∙ m ]

-- a process that can go past those placed is placed
pub placed : (sys : SystemParts) (w : WholeParts) (p : PeelingParts) (k : ℕ) → IsPeeling sys w p → k < process_count sys → (IsMarked p.marks k → ⊥) → CanGoPast sys w (IsMarked p.marks) k
    → IsPeeling sys w (record { order = p.order ++ k ∷ []; marks = set p.marks k true; passed = p.passed })
placed sys w p k is lt fresh can = record {
  size = length-set p.marks k true ∙ is.size;
  within = All-push (λ k. k < process_count sys) p.order k is.within lt;
  marked = λ j. (to j, from j);
  once = λ j. once j (cases_eq k j);
  turns = turns_push sys w [] p.order k is.turns (λ all none among. past_more sys w (IsMarked p.marks) (Contains all) k (λ j m. among j ((is.marked j).1 m)) can);
  count = omega (arith, length-append p.order (k ∷ []), is.count, sum_by-set (λ b. cond b 1 0) p.marks k true false within, ap {B = ℕ} (λ b. cond b 1 0) unmarked);
  room = is.room;
  past = λ k' arc list lt' are i d le. elim (is.past k' arc list lt' are i d le) [ inl permit ↦ inl permit | inr m ↦ inr (IsMarked-set p.marks k _ within m) ];
}
  where
    within : k < length p.marks
    within = omega (arith, lt, is.size)

    unmarked : get_or p.marks k false ≡ false
    unmarked = by (get_or p.marks k false) refl
      where
        by : (b : Bool) → get_or p.marks k false ≡ b → get_or p.marks k false ≡ false
        by true e = absurd (fresh e)
        by false e = e

    to : (j : ℕ) → Contains (p.order ++ k ∷ []) j → IsMarked (set p.marks k true) j
    to j has = elim (cases_eq j k) [
      | inl same ↦ subst (IsMarked (set p.marks k true)) (sym same) (get_or-set_same p.marks k true false within)
      | inr differ ↦ elim (Contains-push_cases p.order k j has) [
        | inl before ↦ get_or-set_other p.marks k j true false differ ∙ (is.marked j).0 before
        | inr same ↦ absurd (differ (sym same))
      ]
    ]

    from : (j : ℕ) → IsMarked (set p.marks k true) j → Contains (p.order ++ k ∷ []) j
    from j m = elim (cases_eq j k) [
      | inl same ↦ subst (Contains (p.order ++ k ∷ [])) (sym same) (Contains-push p.order k)
      | inr differ ↦ Contains-append_left p.order (k ∷ []) j ((is.marked j).1 (sym (get_or-set_other p.marks k j true false differ) ∙ m))
    ]

    once : (j : ℕ) → (k ≡ j) ⊎ (k ≡ j → ⊥) → count_by (λ x. x == j) (p.order ++ k ∷ []) ≤ 1
    once j (inr differ) = omega (arith, count_push j k p.order, is.once j, ap {B = ℕ} (λ b. cond b 1 0) (ne_eqb k j differ))
    once j (inl same) = omega (arith, count_push j k p.order, none, ap {B = ℕ} (λ b. cond b 1 0) (eq-eqb k j same))
      where
        none : count_by (λ x. x == j) p.order ≤ 0
        none = elim (cases_lt 0 (count_by (λ x. x == j) p.order)) [
          | inl some ↦ absurd (fresh ((is.marked k).0 (subst (Contains p.order) (sym same) (contains_from_count j p.order some))))
          | inr le ↦ le
        ]

pub placed_grown : (p : PeelingParts) (k : ℕ) → k < length p.marks → IsGrown p (record { order = p.order ++ k ∷ []; marks = set p.marks k true; passed = p.passed })
placed_grown p k lt = (k ∷ [], refl, λ j m. IsMarked-set p.marks k j lt m)

-- at first none is placed
pub IsPeeling-start : (sys : SystemParts) (w : WholeParts) (p : PeelingParts) → ◌≡◌ {A = PeelingParts} p (record { order = []; marks = replicate (process_count sys) false; passed = replicate (process_count sys * MAX_ARCS) 0 }) → IsPeeling sys w p
IsPeeling-start sys w p e = subst (IsPeeling sys w) (sym e) (record {
  size = length-replicate (process_count sys) false;
  within = λ i d lt. absurd (omega (arith, lt));
  marked = λ k. (λ has. absurd (omega (arith, has.1)), λ m. absurd (none (process_count sys) k m));
  once = λ k. omega arith;
  turns = tt;
  count = sym (no_count (process_count sys));
  room = length-replicate (process_count sys * MAX_ARCS) 0;
  past = λ k arc list lt are i d le. absurd (omega (arith, le, zero_at (process_count sys * MAX_ARCS) (place_of k arc)));
})
  where
    none : (n k : ℕ) → IsMarked (replicate n false) k → ⊥
    none zero k m = cc
    none (suc n) zero m = cc
    none (suc n) (suc k) m = none n k m

    zero_at : (n i : ℕ) → ◌≡◌ {A = ℕ} (get_or (replicate n 0) i 0) 0
    zero_at zero i = refl
    zero_at (suc n) zero = refl
    zero_at (suc n) (suc i) = zero_at n i

    no_count : (n : ℕ) → count_by (λ b. b) (replicate n false) ≡ 0
    no_count zero = refl
    no_count (suc n) = sum_by-cons (λ b. cond b 1 0) false (replicate n false) ∙ omega (arith, no_count n)

-- grown twice
pub grown_again : (a b c : PeelingParts) → IsGrown a b → IsGrown b c → IsGrown a c
grown_again a b c (more, is, keeps) (more', is', keeps') = (more ++ more', is' ∙ ap (λ o. o ++ more') is ∙ append_assoc a.order more more', λ k m. keeps' k (keeps k m))

-- those placed first stay first
pub grown_take : (a b : PeelingParts) (n : ℕ) → IsGrown a b → n ≤ length a.order → take n b.order ≡ take n a.order
grown_take a b n (more, is, keeps) le = ap (take n) is ∙ take-append-le n a.order more le

pub grown_length : (a b : PeelingParts) → IsGrown a b → length a.order ≤ length b.order
grown_length a b (more, is, keeps) = omega (arith, ap {B = ℕ} length is, length-append a.order more)

Contains-take : (n : ℕ) (xs : List ℕ) (x : ℕ) → Contains (take n xs) x → Contains xs x
Contains-take n xs x (i, lt, is) =
    let in' : (i < n) × (i < length xs) = (omega (arith, lt, length-take n xs), omega (arith, lt, length-take n xs)) in
    (i, in'.1, sym (get_or-take n xs i x in'.0) ∙ is)

pub tried_more : (sys : SystemParts) (w : WholeParts) (start old new : PeelingParts) (list : List Beside) (n : ℕ) (d : Beside) → n < length list → IsGrown start old → IsGrown old new → WereTried sys w start old list n
    → IsMarked new.marks (get_or list n d).process ⊎ (CanGoPast sys w (Contains old.order) (get_or list n d).process → ⊥) → WereTried sys w start new list (n + 1)
tried_more sys w start old new list n d lt before grown tried here i d' le = elim (cases_eq i n) [
  | inl same ↦ (let at : get_or list n d ≡ get_or list i d' = get_or_default list n d d' lt ∙ ap {B = Beside} (λ k. get_or list k d') (sym same) in subst (λ (x : Beside). IsMarked new.marks x.process ⊎ (CanGoPast sys w (Contains start.order) x.process → ⊥)) at now)
  | inr differ ↦ elim (tried i d' (omega arith)) [ inl m ↦ inl (grown.2 _ m) | inr not ↦ inr not ]
]
  where
    further : (x : ℕ) → Contains start.order x → Contains old.order x
    further x (i, lt, is) = (i, omega (arith, lt, grown_length start old before), subst (λ o. get_or o i x ≡ x) (sym before.1) (get_or_append_left start.order before.0 x i lt ∙ is))

    now : IsMarked new.marks (get_or list n d).process ⊎ (CanGoPast sys w (Contains start.order) (get_or list n d).process → ⊥)
    now = elim here [ inl m ↦ inl m | inr not ↦ inr (λ can. not (past_more sys w (Contains start.order) (Contains old.order) (get_or list n d).process further can)) ]

-- the neighbours of the process placed as number n were tried
pub none_more : (sys : SystemParts) (w : WholeParts) (old new : PeelingParts) (n p : ℕ) (list : List Beside) → AreBeside sys p list → IsGrown old new → n < length old.order → p ≡ get_or old.order n 0 → NoneCanGo sys w old n
    → WereTried sys w old new list (length list) → NoneCanGo sys w new (n + 1)
none_more sys w old new n p list are grown lt is none tried k within fresh can = none k within (λ m. fresh (keeps k m)) (can'.0, can'.1, λ e side in' on. by e side in' on (can'.2 e side in' on))
  where
    keeps : (k : ℕ) → IsMarked old.marks k → IsMarked new.marks k
    keeps = grown.2

    can' : CanGoPast sys w (Contains (take (n + 1) old.order)) k
    can' = subst (λ o. CanGoPast sys w (Contains o) k) (grown_take old new (n + 1) grown (omega (arith, lt))) can

    -- k is no neighbour of the one placed, since each of those is placed or can't go
    beside : (e : ℕ) (side : Side) → e < edge_count sys → IsOn sys k side e → end_of (edge_at sys e) (opposite side) ≡ p → ⊥
    beside e side in' on at =
        let b : Beside = record { process = end_of (edge_at sys e) (opposite (opposite side)); edge = e; side = opposite side } in
        let found = are.all e (opposite side) in' at in
        let same : (get_or list found.0 b).process ≡ k = ap {B = ℕ} (λ (x : Beside). x.process) found.2 ∙ ap {B = ℕ} (end_of (edge_at sys e)) (opposite_twice side) ∙ on in
        elim (tried found.0 b found.1) [
          | inl m ↦ fresh (subst (IsMarked new.marks) same m)
          | inr not ↦ not (subst (CanGoPast sys w (Contains old.order)) (sym same) (past_more sys w (Contains (take (n + 1) old.order)) (Contains old.order) k (λ j h. Contains-take (n + 1) old.order j h) can'))
        ]

    by : (e : ℕ) (side : Side) → e < edge_count sys → IsOn sys k side e → Permits sys w side can'.0 e ⊎ Contains (take (n + 1) old.order) (end_of (edge_at sys e) (opposite side)) → Permits sys w side can'.0 e ⊎ Contains (take n old.order) (end_of (edge_at sys e) (opposite side))
    by e side in' on (inl permit) = inl permit
    by e side in' on (inr has) = elim (Contains-push_cases (take n old.order) (get_or old.order n 0) (end_of (edge_at sys e) (opposite side)) (subst (λ o. Contains o (end_of (edge_at sys e) (opposite side))) (take_more old.order n 0 lt) has)) [
      | inl before ↦ inr before
      | inr last ↦ absurd (beside e side in' on (sym (is ∙ last)))
    ]

-- where no process that is left can go, each in a peel order is placed
all_placed : (sys : SystemParts) (w : WholeParts) (p : PeelingParts) (earlier order : List ℕ) → IsPeeling sys w p → NoneCanGo sys w p (length p.order) → ((x : ℕ) → Contains earlier x → IsMarked p.marks x) → All (λ k. k < process_count sys) order → CanGoInTurn sys w earlier order
    → (x : ℕ) → Contains order x → IsMarked p.marks x
all_placed sys w p earlier [] is none before within turns x has = absurd (omega (arith, has.1))
all_placed sys w p earlier (k ∷ order) is none before within turns x has = elim (Contains-cases k order x has) [
  | inl same ↦ subst (IsMarked p.marks) same here
  | inr later ↦ all_placed sys w p (k ∷ earlier) order is none (λ y h. elim (Contains-cases k earlier y h) [ inl same ↦ subst (IsMarked p.marks) same here | inr l ↦ before y l ]) (λ i d lt. within (suc i) d (omega (arith, lt))) turns.1 x later
]
  where
    stuck : (IsMarked p.marks k → ⊥) → ⊥
    stuck fresh = none k (within 0 0 (omega arith)) fresh (past_more sys w (Contains earlier) (Contains (take (length p.order) p.order)) k (λ j h. subst (λ o. Contains o j) (sym (take_all (length p.order) p.order (omega arith))) ((is.marked j).1 (before j h))) turns.0)

    here : IsMarked p.marks k
    here = by (get_or p.marks k false) refl
      where
        not_both : IsMarked p.marks k → get_or p.marks k false ≡ false → ⊥
        not_both m e = cc

        by : (b : Bool) → get_or p.marks k false ≡ b → IsMarked p.marks k
        by true e = e
        by false e = absurd (stuck (λ m. not_both m e))

count_from_contains : (k : ℕ) (xs : List ℕ) → Contains xs k → 0 < count_by (λ j. j == k) xs
count_from_contains k [] has = absurd (omega (arith, has.1))
count_from_contains k (x ∷ xs) has = elim (Contains-cases x xs k has) [
  | inl same ↦ omega (arith, count_cons k x xs, ap {B = ℕ} (λ b. cond b 1 0) (eq-eqb x k same))
  | inr later ↦ omega (arith, count_cons k x xs, count_from_contains k xs later)
]

-- not all are placed: there is no peel order
pub no_order : (sys : SystemParts) (w : WholeParts) (p : PeelingParts) → IsPeeling sys w p → NoneCanGo sys w p (length p.order) → (AllPass (λ b. b) p.marks → ⊥) → HasPeelOrder sys w → ⊥
no_order sys w p is none some (order, peel) = some (λ i d lt. get_or_default p.marks i d false lt ∙ all_placed sys w p [] order is none (λ x h. absurd (omega (arith, h.1))) peel.within peel.turns i (contains_from_count i order (omega (arith, peel.once i (omega (arith, lt, is.size))))))

-- all are placed
pub whole_order : (sys : SystemParts) (w : WholeParts) (p : PeelingParts) → IsPeeling sys w p → AllPass (λ b. b) p.marks → IsPeelOrder sys w p.order
whole_order sys w p is all = record {
  within = is.within;
  once = λ k lt. omega (arith, is.once k, stands k lt);
  turns = is.turns;
}
  where
    stands : (k : ℕ) → k < process_count sys → 0 < count_by (λ j. j == k) p.order
    stands k lt = count_from_contains k p.order ((is.marked k).1 (all k false (omega (arith, lt, is.size))))

-- with a peel order the first process can go on
pub first_enabled : (sys : SystemParts) (w : WholeParts) → HasPeelOrder sys w → 0 < process_count sys → (k : ℕ) × (k < process_count sys) × IsEnabled sys w k
first_enabled sys w ([], peel) some = absurd (omega (arith, peel.once 0 some))
first_enabled sys w (k ∷ order, peel) some = (k, peel.within 0 0 (omega arith), (peel.turns.0.0, peel.turns.0.1, λ e side lt on. elim (peel.turns.0.2 e side lt on) [ inl permit ↦ permit | inr has ↦ absurd (omega (arith, has.1)) ]))

pub beside_within : (sys : SystemParts) (k : ℕ) (b : Beside) → IsSystem sys → IsBeside sys.network.edges k b → b.process < process_count sys
beside_within sys k b lawful is = subst (λ j. j < process_count sys) is.other (end_within sys b.edge (opposite b.side) (edge_lawful sys b.edge lawful is.within))

-- one more process is tried at first
pub free_more : (sys : SystemParts) (w : WholeParts) (old new : PeelingParts) (k : ℕ) → IsGrown old new → ((j : ℕ) → j < k → (IsMarked old.marks j → ⊥) → CanGoPast sys w (Contains []) j → ⊥)
    → IsMarked new.marks k ⊎ (CanGoPast sys w (Contains old.order) k → ⊥) → (j : ℕ) → j < k + 1 → (IsMarked new.marks j → ⊥) → CanGoPast sys w (Contains []) j → ⊥
free_more sys w old new k grown tried here j lt fresh can = elim (cases_eq k j) [
  | inl same ↦ elim here [
    | inl m ↦ fresh (subst (IsMarked new.marks) same m)
    | inr not ↦ not (subst (CanGoPast sys w (Contains old.order)) (sym same) (past_more sys w (Contains []) (Contains old.order) j (λ x h. absurd (omega (arith, h.1))) can))
  ]
  | inr differ ↦ tried j (omega arith) (λ m. fresh (grown.2 j m)) can
]

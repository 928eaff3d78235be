-- From a kept set whose root has a living child there is a structure in which the roots hold.
use Rattle.std.proofs.Common.{ℕ, ◌≡◌, ◌⊎◌, ◌<◌, ◌≤◌, inl, inr, Bool, true, false, Option, List, [], ◌∷◌, Contains, length, map, refl, subst, sym, arith, ◌∙◌, ap, slice_index_or}
use Rattle.std.proofs.Math.Decide.{dec_lt, ℕ_discrete}
use Rattle.std.proofs.lemmas.List.Elements.{Contains-append_right, Contains-append_cases, Contains-push_cases, Contains-get_or}
use Rattle.std.proofs.lemmas.List.{get_or_default}
use Rattle.std.proofs.lemmas.List.FromFn.{length-range_with_len}
use Rattle.pair_structure.specs.Role.{RoleParts, IsRole, HasOneStart, first_start}
use Rattle.pair_structure.specs.Structure.{Structure, IsLabel, IsOver}
use Rattle.pair_structure.specs.declared.side.Move.{Move}
use Rattle.pair_structure.specs.declared.side.Side.{Side}
use Rattle.pair_structure.specs.declared.side.Side.TheVariants.{A, B}
use Rattle.ctl_form.specs.declared.part.Part.{Part}
use Rattle.ctl_form.specs.declared.part.Part.TheVariants.{Yes, No, Lit, Both, Either, Next, Until}
use Rattle.ctl_form.proofs.Decided.{Decided, decided_below, decided_both}
use Rattle.closure_sets.specs.ClosureParts.{ClosureParts, IsClosureParts, count}
use Rattle.closure_sets.specs.Full.{Has}
use Rattle.closure_sets.specs.Label.{part_of}
use Rattle.closure_sets.proofs.Closures.{member_of}
use Rattle.tableau_graph.specs.Graph.{Graph, IsGraph, IsSomeNext, FollowArcs}
use Rattle.deletion_rules.specs.Deletion.{IsKept}
use Rattle.deletion_rules.specs.Unravel.{Plan, IsStep, IsUnravelled}
use Rattle.deletion_rules.specs.declared.position.Position.{Position}
use Rattle.deletion_rules.proofs.FromPositions.{Leads, unravelled_of, over_of}
use Rattle.deletion_rules.proofs.MoveList.{moves_below, moves_are, moves_have, moves_rise}
use Rattle.deletion_rules.proofs.Pending.{decided_has}
use Rattle.deletion_rules.specs.inside.Picking.{IsGood, IsPlan}
use Rattle.deletion_rules.proofs.Picks.{IsPick, pick}
use Rattle.deletion_rules.proofs.States.{positions_below, positions_are, positions_have}
use Rattle.deletion_rules.proofs.WholePlan.{whole_plan, is_plan, has_targets, turns}

-- whether a part is some EXs h
abbrev NextCase : Part → Type 0
NextCase part = ((side : Side) × (h : ℕ) × (part ≡ Next false side h)) ⊎ ((side : Side) (h : ℕ) → part ≡ Next false side h → ⊥)

next_case : (part : Part) → NextCase part
next_case (Next false side h) = inl (side, h, refl)
next_case (Next true side h) = inr (λ s k e. cc)
next_case Yes = inr (λ s k e. cc)
next_case No = inr (λ s k e. cc)
next_case (Lit side local is) = inr (λ s k e. cc)
next_case (Both f g) = inr (λ s k e. cc)
next_case (Either f g) = inr (λ s k e. cc)
next_case (Until all weak f g) = inr (λ s k e. cc)

decided_side : (p q : Side) → Decided (p ≡ q)
decided_side A A = inl refl
decided_side B B = inl refl
decided_side A B = inr (λ e. cc)
decided_side B A = inr (λ e. cc)

as_bool : {X : Type 0} → Decided X → Bool
as_bool (inl x) = true
as_bool (inr none) = false

bool_yes : {X : Type 0} → (d : Decided X) → as_bool d ≡ true → X
unfolding as_bool
bool_yes (inl x) e = x
bool_yes (inr none) e = absurd (let q : false ≡ true = e in cc)

yes_bool : {X : Type 0} → (d : Decided X) → X → as_bool d ≡ true
unfolding as_bool
yes_bool (inl x) h = refl
yes_bool (inr none) h = absurd (none h)

decided_dec : {X : Type 0} → Dec X → Decided X
decided_dec d = elim d [ yes x ↦ inl x | no n ↦ inr n ]

same_next : (part : Part) (p q : Side) (h k : ℕ) → part ≡ Next false p h → part ≡ Next false q k → p ≡ q
same_next part p q h k e f = cc

decided_position : (p q : Position) → Decided (p ≡ q)
decided_position p q = by (ℕ_discrete p.node q.node) (ℕ_discrete p.place q.place)
  where
    by : Dec (p.node ≡ q.node) → Dec (p.place ≡ q.place) → Decided (p ≡ q)
    by (yes e) (yes f) = inl (let z : record { node = p.node; place = p.place } ≡ q = subst (λ n. record { node = n; place = p.place } ≡ q) (sym e) (subst (λ x. record { node = q.node; place = x } ≡ q) (sym f) refl) in z)
    by (no n) f = inr (λ s. n (ap (λ (r : Position). r.node) s))
    by (yes e) (no n) = inr (λ s. n (ap (λ (r : Position). r.place) s))

module _ (a b : RoleParts) (ra : IsRole a) (rb : IsRole b) (one_a : HasOneStart a) (one_b : HasOneStart b) (c : ClosureParts) (k : IsClosureParts c) (g : Graph) (ok : IsGraph c g) (arcs : FollowArcs a b c g) (lives : ℕ → Bool) (rank : ℕ → ℕ → Option ℕ) (kept : IsKept c g lives rank) where
  abbrev pub plan : Plan
  plan = whole_plan c g lives rank kept

  abbrev pub size : ℕ
  size = length plan.targets

  abbrev planned : IsPlan c g lives rank plan
  planned = is_plan c g lives rank kept

  pub fits : length plan.targets ≤ size
  fits = omega arith

  abbrev Good : Position → Type 0
  Good p = IsGood a b g lives size p

  abbrev Pick : (p : Position) → Good p → (i h : ℕ) (side : Side) → IsSomeNext c g p.node i side h → Position → Type 0
  Pick p good i h side some q = IsPick a b ra rb c g arcs lives rank kept plan planned size fits p good i h side some q

  -- a living node within the roles
  abbrev pub Within : ℕ → Type 0
  Within n = (lives n ≡ true) × IsLabel a b (g.label n)

  pub decided_within : (n : ℕ) → Decided (Within n)
  decided_within n = decided_both (decided_has (lives n)) (decided_both (decided_dec (dec_lt (g.label n).0 (length a.locals))) (decided_dec (dec_lt (g.label n).1 (length b.locals))))

  good_of : (p : Position) → Within p.node → p.place < size → Good p
  good_of p w lt = record { living = w.0; label = w.1; place = lt }

  decided_good : (p : Position) → Decided (Good p)
  decided_good p = elim (decided_both (decided_within p.node) (decided_dec (dec_lt p.place size))) [ inl u ↦ inl (good_of p u.0 u.1) | inr none ↦ inr (λ x. none ((x.living, x.label), x.place)) ]

  -- what member i of a position gives: its step, if it is some EXs h
  abbrev Info : Position → ℕ → Type 0
  Info p i = ((side : Side) × (h : ℕ) × (some : IsSomeNext c g p.node i side h) × (good : Good p) × ((q : Position) × Pick p good i h side some q)) ⊎ ((side : Side) (h : ℕ) → Good p → IsSomeNext c g p.node i side h → ⊥)

  info_by : (p : Position) (i : ℕ) → Decided (Good p) → Decided (Has (g.row p.node) i) → NextCase (part_of c i) → Info p i
  info_by p i (inr bad) e f = inr (λ side h good some. bad good)
  info_by p i (inl good) (inr absent) f = inr (λ side h _ some. absent some.member)
  info_by p i (inl good) (inl has) (inr none) = inr (λ side h _ some. none side h some.part)
  info_by p i (inl good) (inl has) (inl u) =
      let some : IsSomeNext c g p.node i u.0 u.1 = record { node = kept.nodes p.node good.living; member = has; part = u.2 } in
      inl (u.0, u.1, some, good, pick a b ra rb c g arcs lives rank kept plan planned size fits p good i u.1 u.0 some)

  info : (p : Position) (i : ℕ) → Info p i
  info p i = info_by p i (decided_good p) (decided_has (g.row p.node i)) (next_case (part_of c i))

  abbrev Matches : (p : Position) (i : ℕ) → Info p i → Side → Position → Type 0
  Matches p i (inl u) side q = (u.0 ≡ side) × (u.4.0 ≡ q)
  Matches p i (inr none) side q = ⊥

  decided_match : (p : Position) (i : ℕ) (x : Info p i) (side : Side) (q : Position) → Decided (Matches p i x side q)
  decided_match p i (inl u) side q = decided_both (decided_side u.0 side) (decided_position u.4.0 q)
  decided_match p i (inr none) side q = inr (λ e. e)

  -- some member's step of this side leads from p to q
  abbrev Linked : Position → Side → Position → Type 0
  Linked p side q = (i : ℕ) × (i < count c) × Matches p i (info p i) side q

  decided_linked : (p : Position) (side : Side) (q : Position) → Decided (Linked p side q)
  decided_linked p side q = decided_below (λ i. Matches p i (info p i) side q) (count c) (λ i lt. decided_match p i (info p i) side q)

  -- what a link is
  pub record IsLink (p : Position) (side : Side) (q : Position) (i h : ℕ) : Type 0 where
    pub some : IsSomeNext c g p.node i side h
    pub step : IsStep c g plan p i q
    pub reaches : Good q

  link_of : (p : Position) (i : ℕ) (x : Info p i) (side : Side) (q : Position) → Matches p i x side q → (h : ℕ) × IsLink p side q i h
  link_of p i (inl u) side q e = (u.1, record { some = subst (λ z. IsSomeNext c g p.node i z u.1) e.0 u.2; step = subst (λ z. IsStep c g plan p i z) e.1 (u.4.1).step; reaches = subst Good e.1 (u.4.1).reaches })
  link_of p i (inr none) side q e = elim e [ ]

  match_of : (p : Position) (i : ℕ) (x : Info p i) (side : Side) (h : ℕ) → Good p → IsSomeNext c g p.node i side h → (q : Position) × Matches p i x side q × Good q × IsStep c g plan p i q
  match_of p i (inl u) side h good some = (u.4.0, (same_next (part_of c i) u.0 side u.1 h (u.2).part some.part, refl), (u.4.1).reaches, (u.4.1).step)
  match_of p i (inr none) side h good some = absurd (none side h good some)

  module _ (n0 : ℕ) (living : lives n0 ≡ true) (starts : g.label n0 ≡ (first_start a, first_start b)) where
    abbrev pub first : Position
    first = record { node = n0; place = 0 }

    abbrev pub all : List Position
    all = first ∷ positions_below Within decided_within size g.ands

    abbrev pub at : ℕ → Position
    at s = slice_index_or all s first

    pub linked : ℕ → Side → ℕ → Bool
    linked s side t = as_bool (decided_linked (at s) side (at t))

    abbrev pub whole : Structure
    whole = record { states = map (λ (p : Position). g.label p.node) all; moves = moves_below linked (length all) (length all) }

    some_members : 0 < size
    some_members = omega (arith, k.moves.1, length-range_with_len 0 (count c))

    first_good : Good first
    first_good = good_of first (living, subst (λ l. IsLabel a b l) (sym starts) (ra.starts_within 0 0 ra.begins, rb.starts_within 0 0 rb.begins)) some_members

    all_good : (p : Position) → Contains all p → Good p
    all_good p h = elim (Contains-append_cases (first ∷ []) (positions_below Within decided_within size g.ands) p h) [
      | inl x ↦ elim (Contains-push_cases [] first p x) [ inl z ↦ absurd (omega (arith, z.1)) | inr e ↦ subst Good e first_good ]
      | inr y ↦ (let u = positions_are Within decided_within size g.ands p y in good_of p u.0 u.1)
    ]

    pub at_good : (s : ℕ) → s < length all → Good (at s)
    at_good s lt = all_good (at s) (Contains-get_or all s first lt)

    -- a good position is some state's
    state_of : (q : Position) → Good q → (t : ℕ) × (t < length all) × (at t ≡ q)
    state_of q good = let u = Contains-append_right (first ∷ []) (positions_below Within decided_within size g.ands) q (positions_have Within decided_within size g.ands q.node q.place (kept.nodes q.node good.living) (good.living, good.label) good.place) in (u.0, u.1, get_or_default all u.0 first q u.1 ∙ u.2)

    pub links : (x : Move) → Contains whole.moves x → (x.from < length all) × (x.to < length all) × Leads c g plan (at x.from) x.side (at x.to)
    unfolding linked
    links x h =
        let u = moves_are linked (length all) (length all) x h in
        let l = bool_yes (decided_linked (at x.from) x.side (at x.to)) u.2 in
        let v = link_of (at x.from) l.0 (info (at x.from) l.0) x.side (at x.to) l.2 in
        (u.0, u.1, (l.0, v.0, record { some = v.1.some; step = v.1.step }))

    pub goes : (s i h : ℕ) (side : Side) → s < length all → IsSomeNext c g (at s).node i side h → (t : ℕ) × (t < length all) × Contains whole.moves (record { from = s; side = side; to = t }) × IsStep c g plan (at s) i (at t)
    unfolding linked
    goes s i h side lt some =
        let u = match_of (at s) i (info (at s) i) side h (at_good s lt) some in
        let small : i < count c = member_of c i (Next false side h) some.part (λ e. let q : Yes ≡ Next false side h = e in cc) in
        let v = state_of u.0 u.2 in
        let l : Linked (at s) side (at v.0) = subst (λ q. Linked (at s) side q) (sym v.2) (i, small, u.1) in
        (v.0, v.1, moves_have linked (length all) (length all) s v.0 side lt v.1 (yes_bool (decided_linked (at s) side (at v.0)) l), subst (λ q. IsStep c g plan (at s) i q) (sym v.2) u.3)

    sized : 0 < length plan.targets → size ≤ length plan.targets
    sized turns = omega arith

    pub unravelled : IsUnravelled c g whole plan at
    unravelled = unravelled_of a b c k g ok arcs lives rank kept plan planned (has_targets c g lives rank kept) size sized first all whole.moves one_a one_b starts (omega arith) at_good (moves_rise linked (length all) (length all)) links goes

    pub over : IsOver a b whole
    over = over_of a b c k g ok arcs lives rank kept plan planned (has_targets c g lives rank kept) size sized first all whole.moves one_a one_b starts (omega arith) at_good (moves_rise linked (length all) (length all)) links goes

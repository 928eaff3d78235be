-- Peel orders: what is known of lists of processes that can go in turn, and a peel order after a firing.
use Rattle.std.proofs.Common.{ℕ, ◌≡◌, ◌≢◌, ◌<◌, ◌+◌, ◌==◌, ◌⊎◌, inl, inr, Bool, true, false, cond, not, List, [], ◌∷◌, ◌++◌, length, arith, refl, sym, ◌∙◌, ap, subst, All, Contains, eqb-true}
use Rattle.std.specs.Prelude.{filter, count_by}
use Rattle.std.proofs.lemmas.Bool.{eqb-false, ne_eqb}
use Rattle.std.proofs.lemmas.List.{get_or_default}
use Rattle.std.proofs.lemmas.List.Elements.{All-cons, All-push, All-filter}
use Rattle.std.proofs.lemmas.List.Sums.{sum_by-cons, sum_by-append}
use Rattle.pair_structure.specs.declared.side.Side.{Side}
use Rattle.pair_structure.specs.declared.side.Side.TheVariants.{A, B}
use Rattle.pair_structure.specs.declared.side.LocalArc.{LocalArc}
use Rattle.interconnection.specs.Graph.{end_of, opposite}
use Rattle.conjunctive_compose.specs.declared.wish.Wish.{Wish}
use Rattle.conjunctive_compose.specs.System.{SystemParts, IsSystem, IsOn, edge_at, edge_count, process_count, role_of}
use Rattle.conjunctive_compose.specs.Whole.{WholeParts, IsProper, value_at}
use Rattle.conjunctive_compose.specs.Firing.{Moves, Permits, across, arc_of, fired, value_by}
use Rattle.conjunctive_compose.specs.Peel.{CanGoInTurn, CanGoPast, HasPeelOrder, IsEnabled, IsLeaving, IsPeelOrder, PermitsAll}
use Rattle.conjunctive_compose.proofs.Edges.{IsLawfulEdge, edge_lawful, role_lawful}
use Rattle.conjunctive_compose.proofs.Filters.{Contains-cases, Contains-later}
use Rattle.conjunctive_compose.proofs.Pairs.{other_local, own_local, value_fired}
use Rattle.conjunctive_compose.proofs.Sides.{across_differs, ends_none}

abbrev no_arc : LocalArc
no_arc = record { from = 0; to = 0; free = false }

-- all but k
abbrev pub without : ℕ → List ℕ → List ℕ
without k = filter (λ j. not (j == k))

-- on an edge of neither, a permission stays
pub permit_stays : (sys : SystemParts) (w : WholeParts) (wish : Wish) (e : ℕ) (side : Side) (arc : ℕ) → IsProper sys w → e < edge_count sys → end_of (edge_at sys e) side ≢ wish.process → end_of (edge_at sys e) (opposite side) ≢ wish.process
    → Permits sys w side arc e → Permits sys (fired sys w wish) side arc e
permit_stays sys w wish e side arc proper lt own other (n, c, within, is, (o, x)) =
    let value_in : e < length w.shared = rw proper.values lt in
    let val : value_at (fired sys w wish) e ≡ value_at w e = value_fired sys w wish e value_in ∙ ap (value_by sys w wish e) (ends_none (edge_at sys e) wish.process side own other) in
    let acr : across sys (fired sys w wish) side e ≡ across sys w side e = other_local sys w wish (end_of (edge_at sys e) (opposite side)) other in
    (n, c, within, is, (o ∙ sym acr, x ∙ sym val))

-- the process that fired is the one across
pub past_it : (sys : SystemParts) (w : WholeParts) (e k j : ℕ) (side : Side) (arc : ℕ) (later : List ℕ) → e < edge_count sys → IsOn sys j side e → end_of (edge_at sys e) (opposite side) ≡ k → IsLeaving sys w j arc
    → Contains later k ⊎ PermitsAll sys w k → Permits sys w side arc e ⊎ Contains later (end_of (edge_at sys e) (opposite side))
past_it sys w e k j side arc later lt on is leaving past = elim past [ inl has ↦ inr (subst (Contains later) (sym is) has) | inr all ↦ inl (by side on is all) ]
  where
    by : (side : Side) → IsOn sys j side e → end_of (edge_at sys e) (opposite side) ≡ k → PermitsAll sys w k → Permits sys w side arc e
    by A on is all = all e B arc lt is (rw on leaving)
    by B on is all = all e A arc lt is (rw on leaving)

-- a process that did not fire can go, after those that it could go after, if it can go past the one that did
pub can_stays : (sys : SystemParts) (w : WholeParts) (wish : Wish) (earlier later : List ℕ) (j : ℕ) → IsProper sys w → j ≢ wish.process
    → ((x : ℕ) → x ≢ wish.process → Contains earlier x → Contains later x)
    → Contains later wish.process ⊎ PermitsAll sys (fired sys w wish) wish.process
    → CanGoPast sys w (Contains earlier) j → CanGoPast sys (fired sys w wish) (Contains later) j
can_stays sys w wish earlier later j proper ne sub past (arc, leaving, each) = (arc, leaving', λ e side lt on. by e side lt on (end_of (edge_at sys e) (opposite side) == wish.process) refl)
  where
    leaving' : IsLeaving sys (fired sys w wish) j arc
    leaving' = record { within = leaving.within; leaves = leaving.leaves ∙ sym (other_local sys w wish j ne) }

    by : (e : ℕ) (side : Side) → e < edge_count sys → IsOn sys j side e → (b : Bool) → (end_of (edge_at sys e) (opposite side) == wish.process) ≡ b → Permits sys (fired sys w wish) side arc e ⊎ Contains later (end_of (edge_at sys e) (opposite side))
    by e side lt on true is = past_it sys (fired sys w wish) e wish.process j side arc later lt on (eqb-true _ _ is) leaving' past
    by e side lt on false is =
        let off = eqb-false (end_of (edge_at sys e) (opposite side)) wish.process is in
        let own : end_of (edge_at sys e) side ≢ wish.process = (λ same. ne (sym on ∙ same)) in
        elim (each e side lt on) [ inl permit ↦ inl (permit_stays sys w wish e side arc proper lt own off permit) | inr has ↦ inr (sub _ off has) ]

pub turns_stay : (sys : SystemParts) (w : WholeParts) (wish : Wish) (earlier later order : List ℕ) → IsProper sys w
    → ((x : ℕ) → x ≢ wish.process → Contains earlier x → Contains later x)
    → Contains later wish.process ⊎ PermitsAll sys (fired sys w wish) wish.process
    → CanGoInTurn sys w earlier order → CanGoInTurn sys (fired sys w wish) later (without wish.process order)
turns_stay sys w wish earlier later [] proper sub past turns = tt
turns_stay sys w wish earlier later (j ∷ order) proper sub past turns =
    by (j == wish.process) refl
    (λ same. turns_stay sys w wish (j ∷ earlier) later order proper (λ x ne h. elim (Contains-cases j earlier x h) [ inl e ↦ absurd (ne (sym e ∙ same)) | inr l ↦ sub x ne l ]) past turns.1)
    (turns_stay sys w wish (j ∷ earlier) (j ∷ later) order proper (λ x ne h. elim (Contains-cases j earlier x h) [ inl e ↦ (0, omega arith, e) | inr l ↦ Contains-later j later x (sub x ne l) ]) (elim past [ inl has ↦ inl (Contains-later j later wish.process has) | inr all ↦ inr all ]) turns.1)
  where
    by : (b : Bool) → (j == wish.process) ≡ b → (j ≡ wish.process → CanGoInTurn sys (fired sys w wish) later (without wish.process order)) → CanGoInTurn sys (fired sys w wish) (j ∷ later) (without wish.process order) → CanGoInTurn sys (fired sys w wish) later (without wish.process (j ∷ order))
    by true is passed kept = rw is (passed (eqb-true j wish.process is))
    by false is passed kept = rw is (can_stays sys w wish earlier later j proper (eqb-false j wish.process is) sub past turns.0, kept)

-- one more at the end
pub turns_push : (sys : SystemParts) (w : WholeParts) (earlier order : List ℕ) (k : ℕ) → CanGoInTurn sys w earlier order
    → ((all : List ℕ) → ((x : ℕ) → Contains earlier x → Contains all x) → ((x : ℕ) → Contains order x → Contains all x) → CanGoPast sys w (Contains all) k) → CanGoInTurn sys w earlier (order ++ k ∷ [])
turns_push sys w earlier [] k turns can = (can earlier (λ x h. h) (λ x h. absurd (omega (arith, h.1))), tt)
turns_push sys w earlier (j ∷ order) k turns can = (turns.0, turns_push sys w (j ∷ earlier) order k turns.1 (λ all before among. can all (λ x h. before x (Contains-later j earlier x h)) (λ x h. elim (Contains-cases j order x h) [ inl e ↦ before x (0, omega arith, e) | inr l ↦ among x l ])))

pub count_cons : (k x : ℕ) (xs : List ℕ) → count_by (λ x. x == k) (x ∷ xs) ≡ cond (x == k) 1 0 + count_by (λ x. x == k) xs
count_cons k x xs = sum_by-cons (λ x. cond (x == k) 1 0) x xs

pub count_without_same : (k : ℕ) (order : List ℕ) → count_by (λ x. x == k) (without k order) ≡ 0
count_without_same k [] = refl
count_without_same k (x ∷ order) = by (x == k) refl (count_without_same k order)
  where
    by : (b : Bool) → (x == k) ≡ b → count_by (λ x. x == k) (without k order) ≡ 0 → count_by (λ x. x == k) (without k (x ∷ order)) ≡ 0
    by true e ih = let f : without k (x ∷ order) ≡ without k order = rw e refl in ap (count_by (λ x. x == k)) f ∙ ih
    by false e ih = let f : without k (x ∷ order) ≡ x ∷ without k order = rw e refl in ap (count_by (λ x. x == k)) f ∙ count_cons k x (without k order) ∙ omega (arith, ap {B = ℕ} (λ b. cond b 1 0) e, ih)

pub count_without_other : (j k : ℕ) (order : List ℕ) → j ≢ k → count_by (λ x. x == j) (without k order) ≡ count_by (λ x. x == j) order
count_without_other j k [] ne = refl
count_without_other j k (x ∷ order) ne = by (x == k) refl (count_without_other j k order ne)
  where
    by : (b : Bool) → (x == k) ≡ b → count_by (λ x. x == j) (without k order) ≡ count_by (λ x. x == j) order → count_by (λ x. x == j) (without k (x ∷ order)) ≡ count_by (λ x. x == j) (x ∷ order)
    by true e ih =
        let f : without k (x ∷ order) ≡ without k order = rw e refl in
        let no : (x == j) ≡ false = ne_eqb x j (λ same. ne (sym same ∙ eqb-true x k e)) in
        ap (count_by (λ x. x == j)) f ∙ ih ∙ sym (count_cons j x order ∙ omega (arith, ap {B = ℕ} (λ b. cond b 1 0) no))
    by false e ih =
        let f : without k (x ∷ order) ≡ x ∷ without k order = rw e refl in
        ap (count_by (λ x. x == j)) f ∙ count_cons j x (without k order) ∙ ap (λ n. cond (x == j) 1 0 + n) ih ∙ sym (count_cons j x order)

pub contains_from_count : (k : ℕ) (order : List ℕ) → 0 < count_by (λ x. x == k) order → Contains order k
contains_from_count k [] lt = absurd (omega arith)
contains_from_count k (x ∷ order) lt = by (x == k) refl (contains_from_count k order)
  where
    by : (b : Bool) → (x == k) ≡ b → (0 < count_by (λ x. x == k) order → Contains order k) → Contains (x ∷ order) k
    by true e ih = (0, omega arith, eqb-true x k e)
    by false e ih = Contains-later x order k (ih (omega (arith, lt, count_cons k x order, ap {B = ℕ} (λ b. cond b 1 0) e)))

-- some arc leaves where a firing leads
pub goes_on : (sys : SystemParts) (w : WholeParts) (wish : Wish) → IsSystem sys → IsProper sys w → Moves sys w wish → (arc : ℕ) × IsLeaving sys (fired sys w wish) wish.process arc
goes_on sys w wish lawful proper moves =
    let role = role_of sys wish.process in
    let is_role = role_lawful sys wish.process lawful moves.fits.process_in in
    let p = (arc_of sys wish.process wish.arc).to in
    let in' : p < length role.locals = (is_role.joins wish.arc no_arc moves.fits.arc_in).to in
    let found = is_role.leaves p in' in
    let process_in : wish.process < length w.locals = rw proper.locals moves.fits.process_in in
    let is : arc_of sys wish.process found.0 ≡ found.1 = get_or_default role.arcs found.0 no_arc found.1 found.2 ∙ found.3 in
    (found.0, record { within = found.2; leaves = ap (λ (a : LocalArc). a.from) is ∙ found.4 ∙ sym (own_local sys w wish process_in) })

pub end_within : (sys : SystemParts) (e : ℕ) (side : Side) → IsLawfulEdge sys e → end_of (edge_at sys e) side < process_count sys
end_within sys e A is = is.a
end_within sys e B is = is.b

pub peel_kept : (sys : SystemParts) (w : WholeParts) (wish : Wish) → IsSystem sys → IsProper sys w → Moves sys w wish → HasPeelOrder sys w
    → IsEnabled sys (fired sys w wish) wish.process ⊎ PermitsAll sys (fired sys w wish) wish.process → HasPeelOrder sys (fired sys w wish)
peel_kept sys w wish lawful proper moves (order, peel) calm = elim calm [ inl can ↦ (k ∷ without k order, first can) | inr all ↦ (without k order ++ k ∷ [], last all) ]
  where
    k : ℕ
    k = wish.process

    n : ℕ
    n = process_count sys

    within : All (λ x. x < n) (without k order)
    within = All-filter (λ j. not (j == k)) (λ x. x < n) order peel.within

    none : (x : ℕ) → x ≢ k → Contains [] x → Contains [] x
    none x ne h = h

    once_first : (j : ℕ) → j < n → (b : Bool) → (k == j) ≡ b → count_by (λ x. x == j) (k ∷ without k order) ≡ 1
    once_first j lt true e = count_cons j k (without k order) ∙ omega (arith, ap {B = ℕ} (λ b. cond b 1 0) e, ap (λ j. count_by (λ x. x == j) (without k order)) (eqb-true k j e), count_without_same k order)
    once_first j lt false e = count_cons j k (without k order) ∙ omega (arith, ap {B = ℕ} (λ b. cond b 1 0) e, count_without_other j k order (λ same. eqb-false k j e (sym same)), peel.once j lt)

    first : IsEnabled sys (fired sys w wish) k → IsPeelOrder sys (fired sys w wish) (k ∷ without k order)
    first (arc, leaving, permit) = record {
      within = All-cons (λ x. x < n) k (without k order) moves.fits.process_in within;
      once = λ j lt. once_first j lt (k == j) refl;
      turns = ((arc, leaving, λ e side lt on. inl (permit e side lt on)), turns_stay sys w wish [] (k ∷ []) order proper (λ x ne h. absurd (omega (arith, h.1))) (inl (0, omega arith, refl)) peel.turns);
    }

    once_last : (j : ℕ) → j < n → count_by (λ x. x == j) (without k order ++ k ∷ []) ≡ 1
    once_last j lt = sum_by-append (λ x. cond (x == j) 1 0) (without k order) (k ∷ []) ∙ omega (arith, once_first j lt (k == j) refl, count_cons j k (without k order), count_cons j k [])

    last : PermitsAll sys (fired sys w wish) k → IsPeelOrder sys (fired sys w wish) (without k order ++ k ∷ [])
    last all = record {
      within = All-push (λ x. x < n) (without k order) k within moves.fits.process_in;
      once = once_last;
      turns = turns_push sys (fired sys w wish) [] (without k order) k (turns_stay sys w wish [] [] order proper none (inr all) peel.turns) (λ everyone before among. let go = goes_on sys w wish lawful proper moves in (go.0, go.1, λ e side lt on. inr (among _ (neighbour e side lt on))));
    }
      where
        neighbour : (e : ℕ) (side : Side) → e < edge_count sys → IsOn sys k side e → Contains (without k order) (end_of (edge_at sys e) (opposite side))
        neighbour e side lt on =
            let j = end_of (edge_at sys e) (opposite side) in
            let ne : j ≢ k = across_differs (edge_at sys e) k side (edge_lawful sys e lawful lt).differ on in
            contains_from_count j (without k order) (omega (arith, count_without_other j k order ne, peel.once j (end_within sys e (opposite side) (edge_lawful sys e lawful lt))))

-- At each state there is a side for each E until, on a shortest way for a strong one.
use Rattle.std.proofs.Common.{ℕ, zero, suc, ◌≡◌, ◌⊎◌, ◌<◌, ◌≤◌, inl, inr, Bool, true, false, length, refl, subst, sym, arith}
use Rattle.std.proofs.Math.Decide.{dec_le}
use Rattle.pair_structure.specs.Structure.{Structure, HasMove, Reaches, GoesOn}
use Rattle.pair_structure.specs.declared.side.Side.{Side}
use Rattle.pair_structure.specs.declared.side.Side.TheVariants.{A, B}
use Rattle.ctl_form.specs.Form.{until}
use Rattle.ctl_form.specs.Truth.{Holds}
use Rattle.ctl_form.specs.declared.part.Part.{Part}
use Rattle.ctl_form.specs.declared.part.Part.TheVariants.{Yes, No, Lit, Both, Either, Next, Until}
use Rattle.ctl_form.proofs.Along.{along_to, along_from}
use Rattle.ctl_form.proofs.Decided.{Decided}
use Rattle.ctl_form.proofs.Expand.{until_expands}
use Rattle.ctl_form.proofs.Rounds.{Stage, decided_round, round_rises, rises_to}
use Rattle.ctl_form.proofs.TruthDecided.{decided_truth, are_decided}
use Rattle.closure_sets.specs.ClosureParts.{ClosureParts, IsClosureParts}
use Rattle.closure_sets.specs.Cover.{IsChosen, IsTrueAt}
use Rattle.closure_sets.specs.Label.{part_of, form_of}
use Rattle.closure_sets.proofs.Closures.{until_form}
use Rattle.deletion_rules.specs.Met.{IsShortest, RoundOf}

side_of : (m : Structure) (s t : ℕ) → Reaches m s t → (side : Side) × HasMove m side s t
side_of m s t (inl a) = (A, a)
side_of m s t (inr b) = (B, b)

-- the least number with a property, given one
abbrev IsLeastOf : (ℕ → Type 0) → ℕ → Type 0
IsLeastOf X k = X k × ((j : ℕ) → X j → k ≤ j)

least_below : (X : ℕ → Type 0) → ((k : ℕ) → Decided (X k)) → (n : ℕ) → ((k : ℕ) × IsLeastOf X k) ⊎ ((j : ℕ) → j < n → X j → ⊥)
least_below X d zero = inr (λ j lt. absurd (omega (arith, lt)))
least_below X d (suc n) = step (least_below X d n) (d n)
  where
    step : ((k : ℕ) × IsLeastOf X k) ⊎ ((j : ℕ) → j < n → X j → ⊥) → Decided (X n) → ((k : ℕ) × IsLeastOf X k) ⊎ ((j : ℕ) → j < suc n → X j → ⊥)
    step (inl u) e = inl u
    step (inr none) (inl x) = inl (n, (x, λ j y. elim (dec_le n j) [ yes l ↦ l | no g ↦ absurd (none j (omega (arith, g)) y) ]))
    step (inr none) (inr not_here) = inr (λ j lt y. elim (dec_le n j) [ yes l ↦ let e : j ≡ n = omega arith in not_here (subst X e y) | no g ↦ none j (omega (arith, g)) y ])

pub least_of : (X : ℕ → Type 0) → ((k : ℕ) → Decided (X k)) → (n : ℕ) → X n → (k : ℕ) × IsLeastOf X k
least_of X d n x = elim (least_below X d (suc n)) [ inl u ↦ u | inr none ↦ absurd (none n (omega arith) x) ]

module _ (m : Structure) (on : GoesOn m) (c : ClosureParts) (k : IsClosureParts c) (s : ℕ) (lt : s < length m.states) where
  -- what is wanted of the side for the until i
  pub record Serves (i f g : ℕ) (weak : Bool) (side : Side) : Type 0 where
    pub lawful : IsTrueAt m c s i → (IsTrueAt m c s g → ⊥) → (t : ℕ) × HasMove m side s t × IsTrueAt m c t i
    pub shortest : weak ≡ false → (n : ℕ) → (IsTrueAt m c s g → ⊥) → RoundOf m c false f g (suc n) s → (t : ℕ) × HasMove m side s t × RoundOf m c false f g n t

  idle : (i f g : ℕ) (weak : Bool) → (IsTrueAt m c s i → (IsTrueAt m c s g → ⊥) → ⊥) → part_of c i ≡ Until false weak f g → Serves i f g weak A
  idle i f g weak no_need p = record { lawful = λ h none. absurd (no_need h none); shortest = λ w n none r. absurd (no_need (subst (λ x. Holds m x s) (sym (until_form c k i f g false weak p)) (subst (λ v. Holds m (until false v (form_of c f) (form_of c g)) s) (sym w) (along_from m on false false (Holds m (form_of c f)) (Holds m (form_of c g)) s lt (suc n, r)))) none) }

  by_least : (f g j : ℕ) → IsLeastOf (λ n. RoundOf m c false f g n s) j → (IsTrueAt m c s g → ⊥) → (side : Side) × ((n : ℕ) → RoundOf m c false f g (suc n) s → (t : ℕ) × HasMove m side s t × RoundOf m c false f g n t)
  by_least f g zero l none = absurd (none l.0)
  by_least f g (suc j) l none = from l.0
    where
      from : RoundOf m c false f g (suc j) s → (side : Side) × ((n : ℕ) → RoundOf m c false f g (suc n) s → (t : ℕ) × HasMove m side s t × RoundOf m c false f g n t)
      from (inl y) = absurd (none y)
      from (inr u) = let v = side_of m s u.1.0 u.1.1 in (v.0, λ n r. (u.1.0, v.1, rises_to m false (Holds m (form_of c f)) (Holds m (form_of c g)) u.1.0 j n (let le : suc j ≤ suc n = l.1 (suc n) r in omega arith) u.1.2))

  serve_needed : (i f g : ℕ) (weak : Bool) → part_of c i ≡ Until false weak f g → Holds m (until false weak (form_of c f) (form_of c g)) s → (IsTrueAt m c s g → ⊥) → (side : Side) × Serves i f g weak side
  serve_needed i f g true p h none = by ((until_expands m on false true (form_of c f) (form_of c g) s lt).0 h)
    where
      by : Stage m false (Holds m (form_of c f)) (Holds m (form_of c g)) (Holds m (until false true (form_of c f) (form_of c g))) s → (side : Side) × Serves i f g true side
      by (inl y) = absurd (none y)
      by (inr u) = let v = side_of m s u.1.0 u.1.1 in (v.0, record { lawful = λ _ _. (u.1.0, v.1, subst (λ x. Holds m x u.1.0) (sym (until_form c k i f g false true p)) u.1.2); shortest = λ e. absurd (let w : true ≡ false = e in cc) })
  serve_needed i f g false p h none =
      let r = along_to m on false false (Holds m (form_of c f)) (Holds m (form_of c g)) (are_decided m on (form_of c f) (form_of c g)) s lt h in
      let l = least_of (λ n. RoundOf m c false f g n s) (λ n. decided_round m on false false (Holds m (form_of c f)) (Holds m (form_of c g)) (are_decided m on (form_of c f) (form_of c g)) n s lt) r.0 r.1 in
      let v = by_least f g l.0 l.1 none in
      (v.0, record { lawful = λ _ _. let w = v.1 r.0 (round_rises m false (Holds m (form_of c f)) (Holds m (form_of c g)) r.0 s r.1) in (w.0, w.1, subst (λ x. Holds m x w.0) (sym (until_form c k i f g false false p)) (along_from m on false false (Holds m (form_of c f)) (Holds m (form_of c g)) w.0 (on.within v.0 s w.0 w.1) (r.0, w.2))); shortest = λ _ n _ q. v.1 n q })

  serve : (i f g : ℕ) (weak : Bool) → part_of c i ≡ Until false weak f g → (side : Side) × Serves i f g weak side
  serve i f g weak p = by (decided_truth m on (form_of c i) s lt) (decided_truth m on (form_of c g) s lt)
    where
      by : Decided (IsTrueAt m c s i) → Decided (IsTrueAt m c s g) → (side : Side) × Serves i f g weak side
      by (inr not_i) d = (A, idle i f g weak (λ h _. not_i h) p)
      by (inl h) (inl y) = (A, idle i f g weak (λ _ none. none y) p)
      by (inl h) (inr none) = serve_needed i f g weak p (subst (λ x. Holds m x s) (until_form c k i f g false weak p) h) none

  abbrev ServesPart : ℕ → Side → Part → Type 0
  ServesPart i side (Until false weak f g) = Serves i f g weak side
  ServesPart i side part = Unit {0}

  choose : (i : ℕ) (part : Part) → part_of c i ≡ part → (side : Side) × ServesPart i side part
  choose i (Until false weak f g) p = serve i f g weak p
  choose i (Until true weak f g) p = (A, tt)
  choose i Yes p = (A, tt)
  choose i No p = (A, tt)
  choose i (Lit side local is) p = (A, tt)
  choose i (Both f g) p = (A, tt)
  choose i (Either f g) p = (A, tt)
  choose i (Next all side f) p = (A, tt)

  choice : (i : ℕ) → (side : Side) × ((f g : ℕ) (weak : Bool) → part_of c i ≡ Until false weak f g → Serves i f g weak side)
  choice i = let u = choose i (part_of c i) refl in (u.0, λ f g weak p. subst (λ part. ServesPart i u.0 part) p u.1)

  -- the chosen sides
  pub chosen_at : ℕ → Side
  chosen_at i = (choice i).0

  pub chosen_lawful : IsChosen m c s chosen_at
  unfolding chosen_at
  chosen_lawful i f g weak p = ((choice i).1 f g weak p).lawful

  pub chosen_shortest : IsShortest m c s chosen_at
  unfolding chosen_at
  chosen_shortest i f g p = ((choice i).1 f g false p).shortest refl

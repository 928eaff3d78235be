-- The rows cover.
use Rattle.std.proofs.Common.{ℕ, zero, suc, ◌≡◌, ◌⊎◌, ◌<◌, ◌≤◌, inl, inr, Bool, true, false, ◌||◌, not, Option, Some, None, List, [], ◌∷◌, arith, refl, subst, sym}
use Rattle.std.proofs.lemmas.Bool.{and_parts, not-true}
use Rattle.pair_structure.specs.declared.side.Side.{Side}
use Rattle.pair_structure.specs.declared.side.Side.TheVariants.{A, B}
use Rattle.ctl_form.specs.declared.part.Part.{Part}
use Rattle.ctl_form.specs.declared.part.Part.TheVariants.{Yes, No, Lit, Both, Either, Next, Until}
use Rattle.closure_sets.specs.ClosureParts.{ClosureParts, count, after, some_move}
use Rattle.closure_sets.specs.Cover.{IsMetRow}
use Rattle.closure_sets.specs.Expansion.{later_rows, ways, lowest, is_open, finish, at_lowest, expand, no_members}
use Rattle.closure_sets.specs.Full.{Among}
use Rattle.closure_sets.specs.Label.{part_of}
use Rattle.closure_sets.specs.Row.{Members, add}
use Rattle.closure_sets.proofs.Sets.{both_false, add_keeps, add_same, add_back, if_cases, among_map, among_of, IsLowest, lowest_is, untreated, untreated_less, all_treated, untreated_all}

-- what truth at one state gives of each member; chosen: the side of an E until that is true and not met
pub record IsTruth (c : ClosureParts) (easy : ℕ → Bool) (clash : Members → Bool) (chosen : ℕ → Side) (Is : ℕ → Type 0) : Type 0 where
  pub both : (i f g : ℕ) → part_of c i ≡ Both f g → Is i → Is f × Is g
  pub either : (i f g : ℕ) → part_of c i ≡ Either f g → Is i → Is f ⊎ Is g
  pub each : (i f g : ℕ) (weak : Bool) → part_of c i ≡ Until true weak f g → Is i → Is g ⊎ (Is f × Is (after c A i) × Is (after c B i))
  pub along : (i f g : ℕ) (weak : Bool) → part_of c i ≡ Until false weak f g → Is i → (Is g → ⊥) → Is f × Is (after c (chosen i) i)
  pub decided : (i : ℕ) → Is i ⊎ (Is i → ⊥)
  pub plain : (i : ℕ) → easy i ≡ true → Is i
  pub consistent : (row : Members) → ((i : ℕ) → row i ≡ true → Is i) → clash row ≡ true → ⊥
  pub onward : Is (some_move c A) ⊎ Is (some_move c B)

-- the members hold; of those that are treated, an until has its second part where that holds, and else an E until has its chosen side
record IsMet (c : ClosureParts) (chosen : ℕ → Side) (Is : ℕ → Type 0) (row treated : Members) : Type 0 where
  holds : (i : ℕ) → row i ≡ true → Is i
  kept : (i : ℕ) → treated i ≡ true → row i ≡ true
  goal : (i f g : ℕ) (all weak : Bool) → part_of c i ≡ Until all weak f g → treated i ≡ true → Is g → row g ≡ true
  pursued : (i f g : ℕ) (weak : Bool) → part_of c i ≡ Until false weak f g → treated i ≡ true → (Is g → ⊥) → row (after c (chosen i) i) ≡ true

-- EXs true is a next-time
abbrev pub HasSome : ClosureParts → Type 0
HasSome c = (side : Side) → (f : ℕ) × (part_of c (some_move c side) ≡ Next false side f)

module _ (c : ClosureParts) (easy : ℕ → Bool) (clash : Members → Bool) (chosen : ℕ → Side) (Is : ℕ → Type 0) (some : HasSome c) (t : IsTruth c easy clash chosen Is) where
  -- one more member that holds
  met_add : (row treated : Members) (m : ℕ) → Is m → IsMet c chosen Is row treated → IsMet c chosen Is (add row m) treated
  met_add row treated m is h = record { holds = λ i e. held i (add_back row m i e); kept = λ i e. add_keeps row m i (h.kept i e); goal = λ i f g all weak p e is. add_keeps row m g (h.goal i f g all weak p e is); pursued = λ i f g weak p e none. add_keeps row m (after c (chosen i) i) (h.pursued i f g weak p e none) }
    where
      held : (i : ℕ) → (i ≡ m) ⊎ (row i ≡ true) → Is i
      held i (inl e) = subst Is (sym e) is
      held i (inr e) = h.holds i e

  -- one more member that is treated
  met_treat : (row treated : Members) (m : ℕ) → row m ≡ true → ((f g : ℕ) (all weak : Bool) → part_of c m ≡ Until all weak f g → Is g → row g ≡ true) → ((f g : ℕ) (weak : Bool) → part_of c m ≡ Until false weak f g → (Is g → ⊥) → row (after c (chosen m) m) ≡ true) → IsMet c chosen Is row treated → IsMet c chosen Is row (add treated m)
  met_treat row treated m there goal pursued h = record { holds = h.holds; kept = λ i e. kept i (add_back treated m i e); goal = λ i f g all weak p e. goals i f g all weak p (add_back treated m i e); pursued = λ i f g weak p e. pursues i f g weak p (add_back treated m i e) }
    where
      kept : (i : ℕ) → (i ≡ m) ⊎ (treated i ≡ true) → row i ≡ true
      kept i (inl e) = subst (λ k. row k ≡ true) (sym e) there
      kept i (inr e) = h.kept i e

      goals : (i f g : ℕ) (all weak : Bool) → part_of c i ≡ Until all weak f g → (i ≡ m) ⊎ (treated i ≡ true) → Is g → row g ≡ true
      goals i f g all weak p (inl e) = goal f g all weak (subst (λ k. part_of c k ≡ Until all weak f g) e p)
      goals i f g all weak p (inr e) = h.goal i f g all weak p e

      pursues : (i f g : ℕ) (weak : Bool) → part_of c i ≡ Until false weak f g → (i ≡ m) ⊎ (treated i ≡ true) → (Is g → ⊥) → row (after c (chosen i) i) ≡ true
      pursues i f g weak p (inl e) none = subst (λ k. row (after c (chosen k) k) ≡ true) (sym e) (pursued f g weak (subst (λ k. part_of c k ≡ Until false weak f g) e p) none)
      pursues i f g weak p (inr e) none = h.pursued i f g weak p e none

  -- a member that is no until
  met_other : (row treated : Members) (m : ℕ) → row m ≡ true → ((f g : ℕ) (all weak : Bool) → part_of c m ≡ Until all weak f g → ⊥) → IsMet c chosen Is row treated → IsMet c chosen Is row (add treated m)
  met_other row treated m there not_until h = met_treat row treated m there (λ f g all weak p. absurd (not_until f g all weak p)) (λ f g weak p. absurd (not_until f g false weak p)) h

  either_met : (row treated : Members) (m f g : ℕ) → row m ≡ true → part_of c m ≡ Either f g → IsMet c chosen Is row treated → Is f ⊎ Is g → Among (λ r. IsMet c chosen Is r (add treated m)) (ways c None easy row m (Either f g))
  either_met row treated m f g there p h is = if_cases (Among (λ r. IsMet c chosen Is r (add treated m))) (row f || row g) (row ∷ []) _ (λ _. inl (met_other row treated m there other h))
      (λ _. if_cases (Among (λ r. IsMet c chosen Is r (add treated m))) (easy f) (add row f ∷ []) _ (λ e. inl (with f (t.plain f e)))
      (λ _. if_cases (Among (λ r. IsMet c chosen Is r (add treated m))) (easy g) (add row g ∷ []) _ (λ e. inl (with g (t.plain g e)))
      (λ _. elim is [ inl x ↦ inl (with f x) | inr y ↦ inr (inl (with g y)) ])))
    where
      other : (f' g' : ℕ) (all weak : Bool) → part_of c m ≡ Until all weak f' g' → ⊥
      other f' g' all weak e = cc

      with : (k : ℕ) → Is k → IsMet c chosen Is (add row k) (add treated m)
      with k x = met_other (add row k) treated m (add_keeps row k m there) other (met_add row treated k x h)

  same_goal : (p : Part) (all all' weak weak' : Bool) (f f' g g' : ℕ) → p ≡ Until all weak f g → p ≡ Until all' weak' f' g' → g ≡ g'
  same_goal p all all' weak weak' f f' g g' e e' = cc

  -- a row that has the second part
  with_goal : (row treated : Members) (m f g : ℕ) (all weak : Bool) → row m ≡ true → row g ≡ true → part_of c m ≡ Until all weak f g → IsMet c chosen Is row treated → IsMet c chosen Is row (add treated m)
  with_goal row treated m f g all weak there has p h = met_treat row treated m there (λ f' g' all' weak' p' _. subst (λ k. row k ≡ true) (same_goal (part_of c m) all all' weak weak' f f' g g' p p') has) (λ f' g' weak' p' none. absurd (none (h.holds g' (subst (λ k. row k ≡ true) (same_goal (part_of c m) all false weak weak' f f' g g' p p') has)))) h

  later_met : (row treated : Members) (m f g : ℕ) (all weak : Bool) → row m ≡ true → part_of c m ≡ Until all weak f g → IsMet c chosen Is row treated → (Is g → ⊥) → Among (λ r. IsMet c chosen Is r (add treated m)) (later_rows c None all row m f)
  later_met row treated m f g true weak there p h none = inl (met_treat rest treated m (add_keeps (add (add row f) (after c A m)) (after c B m) m (add_keeps (add row f) (after c A m) m (add_keeps row f m there))) (λ f' g' all' weak' p' y. absurd (none (subst Is (sym (same_goal (part_of c m) true all' weak weak' f f' g g' p p')) y))) (λ f' g' weak' p'. absurd (differ p p')) met)
    where
      rest : Members
      rest = add (add (add row f) (after c A m)) (after c B m)

      differ : {f f' g g' : ℕ} {weak weak' : Bool} → part_of c m ≡ Until true weak f g → part_of c m ≡ Until false weak' f' g' → ⊥
      differ e e' = cc

      parts : Is f × Is (after c A m) × Is (after c B m)
      parts = elim (t.each m f g weak p (h.holds m there)) [ inl y ↦ absurd (none y) | inr u ↦ u ]

      met : IsMet c chosen Is rest treated
      met = met_add (add (add row f) (after c A m)) treated (after c B m) parts.2 (met_add (add row f) treated (after c A m) parts.1 (met_add row treated f parts.0 h))
  later_met row treated m f g false weak there p h none = by_side (chosen m) refl
    where
      parts : Is f × Is (after c (chosen m) m)
      parts = t.along m f g weak p (h.holds m there) none

      one : (side : Side) → chosen m ≡ side → IsMet c chosen Is (add (add row f) (after c side m)) (add treated m)
      one side e = met_treat (add (add row f) (after c side m)) treated m (add_keeps (add row f) (after c side m) m (add_keeps row f m there)) (λ f' g' all' weak' p' y. absurd (none (subst Is (sym (same_goal (part_of c m) false all' weak weak' f f' g g' p p')) y)))
          (λ f' g' weak' p' _. subst (λ k. add (add row f) (after c side m) (after c k m) ≡ true) (sym e) (add_same (add row f) (after c side m)))
          (met_add (add row f) treated (after c side m) (subst (λ k. Is (after c k m)) e parts.1) (met_add row treated f parts.0 h))

      by_side : (side : Side) → chosen m ≡ side → Among (λ r. IsMet c chosen Is r (add treated m)) (later_rows c None false row m f)
      by_side A e = inl (one A e)
      by_side B e = inr (inl (one B e))

  until_met : (row treated : Members) (m f g : ℕ) (all weak : Bool) → row m ≡ true → part_of c m ≡ Until all weak f g → IsMet c chosen Is row treated → Is g ⊎ (Is g → ⊥) → Among (λ r. IsMet c chosen Is r (add treated m)) (ways c None easy row m (Until all weak f g))
  until_met row treated m f g all weak there p h d = if_cases (Among (λ r. IsMet c chosen Is r (add treated m))) (row g) (row ∷ []) _ (λ has. inl (with_goal row treated m f g all weak there has p h))
      (λ _. if_cases (Among (λ r. IsMet c chosen Is r (add treated m))) (easy g) (add row g ∷ []) _ (λ e. inl (now (t.plain g e)))
      (λ _. elim d [ inl y ↦ inl (now y) | inr none ↦ inr (later_met row treated m f g all weak there p h none) ]))
    where
      now : Is g → IsMet c chosen Is (add row g) (add treated m)
      now y = with_goal (add row g) treated m f g all weak (add_keeps row g m there) (add_same row g) p (met_add row treated g y h)

  ways_met : (row treated : Members) (m : ℕ) (part : Part) → row m ≡ true → part_of c m ≡ part → IsMet c chosen Is row treated → Among (λ r. IsMet c chosen Is r (add treated m)) (ways c None easy row m part)
  ways_met row treated m (Both f g) there p h = let u = t.both m f g p (h.holds m there) in inl (met_other (add (add row f) g) treated m (add_keeps (add row f) g m (add_keeps row f m there)) (λ f' g' all weak e. cc) (met_add (add row f) treated g u.1 (met_add row treated f u.0 h)))
  ways_met row treated m (Either f g) there p h = either_met row treated m f g there p h (t.either m f g p (h.holds m there))
  ways_met row treated m (Until all weak f g) there p h = until_met row treated m f g all weak there p h (t.decided g)
  ways_met row treated m Yes there p h = inl (met_other row treated m there (λ f' g' all weak e. cc) h)
  ways_met row treated m No there p h = inl (met_other row treated m there (λ f' g' all weak e. cc) h)
  ways_met row treated m (Lit side local is) there p h = inl (met_other row treated m there (λ f' g' all weak e. cc) h)
  ways_met row treated m (Next all side f) there p h = inl (met_other row treated m there (λ f' g' all' weak e. cc) h)

  -- all members are treated
  abbrev AllTreated : Members → Members → Type 0
  AllTreated row treated = (i : ℕ) → i < count c → row i ≡ true → treated i ≡ true

  whole : (row treated : Members) → AllTreated row treated → IsMet c chosen Is row treated → IsMetRow c chosen Is row
  whole row treated all h = record { holds = h.holds; goal = λ i f g each weak lt p e. h.goal i f g each weak p (all i lt e); pursued = λ i f g weak lt p e. h.pursued i f g weak p (all i lt e) }

  with_some : (row : Members) (side : Side) → Is (some_move c side) → IsMetRow c chosen Is row → IsMetRow c chosen Is (add row (some_move c side))
  with_some row side is h = record { holds = λ i e. held i (add_back row (some_move c side) i e); goal = λ i f g all weak lt p e y. add_keeps row (some_move c side) g (h.goal i f g all weak lt p (old i f g all weak p (add_back row (some_move c side) i e)) y); pursued = λ i f g weak lt p e none. add_keeps row (some_move c side) (after c (chosen i) i) (h.pursued i f g weak lt p (old i f g false weak p (add_back row (some_move c side) i e)) none) }
    where
      held : (i : ℕ) → (i ≡ some_move c side) ⊎ (row i ≡ true) → Is i
      held i (inl e) = subst Is (sym e) is
      held i (inr e) = h.holds i e

      old : (i f g : ℕ) (all weak : Bool) → part_of c i ≡ Until all weak f g → (i ≡ some_move c side) ⊎ (row i ≡ true) → row i ≡ true
      old i f g all weak p (inr e) = e
      old i f g all weak p (inl e) = absurd (let q : part_of c (some_move c side) ≡ Next false side (some side).0 = (some side).1 in let r : part_of c (some_move c side) ≡ Until all weak f g = subst (λ k. part_of c k ≡ Until all weak f g) e p in cc)

  finish_met : (row : Members) → IsMetRow c chosen Is row → Among (IsMetRow c chosen Is) (finish c row)
  finish_met row h = if_cases (Among (IsMetRow c chosen Is)) (row (some_move c A) || row (some_move c B)) (row ∷ []) _ (λ _. inl h) (λ _. elim t.onward [ inl x ↦ inl (with_some row A x h) | inr y ↦ inr (inl (with_some row B y h)) ])

  at_lowest_met : (row treated : Members) (o : Option ℕ) (f : ℕ → List Members) → IsLowest (count c) (is_open row treated) o → IsMet c chosen Is row treated → ((m : ℕ) → m < count c → row m ≡ true → treated m ≡ false → Among (IsMetRow c chosen Is) (f m)) → Among (IsMetRow c chosen Is) (at_lowest o (finish c row) f)
  at_lowest_met row treated None f l h go = finish_met row (whole row treated (λ i lt e. both_false (row i) (treated i) (l i lt) e) h)
  at_lowest_met row treated (Some m) f l h go = let u = and_parts (row m) (not (treated m)) l.1 in go m l.0 u.0 (not-true (treated m) u.1)

  expand_met : (d : ℕ) (row treated : Members) → untreated (count c) treated ≤ d → IsMet c chosen Is row treated → Among (IsMetRow c chosen Is) (expand c None easy clash d row treated)
  expand_met zero row treated le h = if_cases (Among (IsMetRow c chosen Is)) (clash row) [] _ (λ bad. absurd (t.consistent row h.holds bad)) (λ _. finish_met row (whole row treated (λ i lt _. all_treated (count c) treated le i lt) h))
  expand_met (suc d) row treated le h = if_cases (Among (IsMetRow c chosen Is)) (clash row) [] _ (λ bad. absurd (t.consistent row h.holds bad))
      (λ _. at_lowest_met row treated (lowest (count c) (is_open row treated)) _ (lowest_is (count c) (is_open row treated)) h
      (λ m lt there fresh. among_of (IsMetRow c chosen Is) (λ r. expand c None easy clash d r (add treated m)) (ways c None easy row m (part_of c m)) (among_map (λ r. IsMet c chosen Is r (add treated m)) (λ r. Among (IsMetRow c chosen Is) (expand c None easy clash d r (add treated m))) (ways c None easy row m (part_of c m)) (λ r k. expand_met d r (add treated m) (omega (arith, untreated_less (count c) treated m lt fresh)) k) (ways_met row treated m (part_of c m) there refl h))))

-- the rows cover, over any truth of members
pub expand_covers : (c : ClosureParts) (easy : ℕ → Bool) (clash : Members → Bool) (chosen : ℕ → Side) (Is : ℕ → Type 0) → HasSome c → IsTruth c easy clash chosen Is → (seed : Members) → ((i : ℕ) → seed i ≡ true → Is i) → Among (IsMetRow c chosen Is) (expand c None easy clash (count c) seed no_members)
expand_covers c easy clash chosen Is some t seed h = expand_met c easy clash chosen Is some t (count c) seed no_members (untreated_all (count c) no_members) (record { holds = h; kept = λ i e. absurd (never e); goal = λ i f g all weak p e. absurd (never e); pursued = λ i f g weak p e. absurd (never e) })
  where
    never : false ≡ true → ⊥
    never e = cc

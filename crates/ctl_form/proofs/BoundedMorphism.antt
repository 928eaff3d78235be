-- Bounded morphisms keep the truth of each formula: part of a structure stands in another one, where its states have other numbers and several
-- may be one.
use Rattle.std.proofs.Common.{ℕ, ◌≡◌, ◌⊎◌, ◌↔◌, inl, inr, Bool, true, false, Option, Some, None, List, [], ◌∷◌, map, length, refl, sym, subst, ap, ◌∙◌, slice_get}
use Rattle.std.proofs.lemmas.List.{length-map}
use Rattle.pair_structure.specs.Structure.{Structure, HasMove, Reaches}
use Rattle.pair_structure.specs.declared.side.Side.{Side}
use Rattle.pair_structure.specs.declared.side.Side.TheVariants.{A, B}
use Rattle.ctl_form.specs.Form.{Form, truth, falsity, at, neg, both, either, implies, next, always, sometime, until}
use Rattle.ctl_form.specs.Path.{IsPath, LastAfter, SomeAfter, EachUnless}
use Rattle.ctl_form.specs.Truth.{HasLocal, AfterOne, After, AlongPaths, Holds}

-- no move leads out of the part; in the whole each of its states has its label, and its moves forth and back
pub record IsBoundedMorphism (m whole : Structure) (In : ℕ → Type 0) (place : ℕ → ℕ) : Type 0 where
  pub closed : (side : Side) (s t : ℕ) → In s → HasMove m side s t → In t
  pub label : (s : ℕ) → In s → slice_get whole.states (place s) ≡ slice_get m.states s
  pub forth : (side : Side) (s t : ℕ) → In s → HasMove m side s t → HasMove whole side (place s) (place t)
  pub back : (side : Side) (s u : ℕ) → In s → HasMove whole side (place s) u → (t : ℕ) × HasMove m side s t × (place t ≡ u)

-- facts that say the same, by pairs and by either
both_same : {X Y V W : Type 0} → X ↔ Y → V ↔ W → (X × V) ↔ (Y × W)
both_same f g = (λ h. (f.0 h.0, g.0 h.1), λ h. (f.1 h.0, g.1 h.1))

either_same : {X Y V W : Type 0} → X ↔ Y → V ↔ W → (X ⊎ V) ↔ (Y ⊎ W)
either_same f g = (λ h. elim h [ inl x ↦ inl (f.0 x) | inr v ↦ inr (g.0 v) ], λ h. elim h [ inl y ↦ inl (f.1 y) | inr w ↦ inr (g.1 w) ])

module _ (m whole : Structure) (In : ℕ → Type 0) (place : ℕ → ℕ) (inside : IsBoundedMorphism m whole In place) where
  -- at the states of the part the first says what the second says at their places
  abbrev Same : (ℕ → Type 0) → (ℕ → Type 0) → Type 0
  Same P R = (s : ℕ) → In s → P s ↔ R (place s)

  closed : (s t : ℕ) → In s → Reaches m s t → In t
  closed s t i step = elim step [ inl a ↦ inside.closed A s t i a | inr b ↦ inside.closed B s t i b ]

  forth : (s t : ℕ) → In s → Reaches m s t → Reaches whole (place s) (place t)
  forth s t i step = elim step [ inl a ↦ inl (inside.forth A s t i a) | inr b ↦ inr (inside.forth B s t i b) ]

  back : (s u : ℕ) → In s → Reaches whole (place s) u → (t : ℕ) × Reaches m s t × (place t ≡ u)
  back s u i step = elim step [
    | inl a ↦ (let x = inside.back A s u i a in (x.0, inl x.1, x.2))
    | inr b ↦ (let x = inside.back B s u i b in (x.0, inr x.1, x.2))
  ]

  path_forth : (s : ℕ) (later : List ℕ) → In s → IsPath m s later → IsPath whole (place s) (map place later)
  path_forth s [] i path = tt
  path_forth s (t ∷ later) i path = (forth s t i path.0, path_forth t later (closed s t i path.0) path.1)

  cons_same : (u : ℕ) (later : List ℕ) (t : ℕ) (before : List ℕ) → place t ≡ u → map place before ≡ later → place t ∷ map place before ≡ u ∷ later
  cons_same u later t before head tail = rw (head, tail) refl

  path_back : (s : ℕ) (later : List ℕ) → In s → IsPath whole (place s) later → (before : List ℕ) × IsPath m s before × (map place before ≡ later)
  path_back s [] i path = ([], tt, refl)
  path_back s (u ∷ later) i path =
      let step = back s u i path.0 in
      let rest = path_back step.0 later (closed s step.0 i step.1) (subst (λ x. IsPath whole x later) (sym step.2) path.1) in
      (step.0 ∷ rest.0, (step.1, rest.1), cons_same u later step.0 rest.0 step.2 rest.2)

  module _ (P Q R T : ℕ → Type 0) (first : Same P R) (second : Same Q T) where
    last_same : (s : ℕ) (later : List ℕ) → In s → IsPath m s later → LastAfter P Q s later ↔ LastAfter R T (place s) (map place later)
    last_same s [] i path = second s i
    last_same s (t ∷ later) i path = both_same (first s i) (last_same t later (closed s t i path.0) path.1)

    some_same : (s : ℕ) (later : List ℕ) → In s → IsPath m s later → SomeAfter P Q s later ↔ SomeAfter R T (place s) (map place later)
    some_same s [] i path = second s i
    some_same s (t ∷ later) i path = either_same (second s i) (both_same (first s i) (some_same t later (closed s t i path.0) path.1))

    each_same : (s : ℕ) (later : List ℕ) → In s → IsPath m s later → EachUnless P Q s later ↔ EachUnless R T (place s) (map place later)
    each_same s [] i path = either_same (first s i) (second s i)
    each_same s (t ∷ later) i path = either_same (second s i) (both_same (first s i) (each_same t later (closed s t i path.0) path.1))

    long : (before later : List ℕ) → map place before ≡ later → length before ≡ length later
    long before later is = sym (length-map before place) ∙ ap length is

    along_same : (all weak : Bool) → Same (AlongPaths m all weak P Q) (AlongPaths whole all weak R T)
    along_same true true s i = (
      λ h later path. (let b = path_back s later i path in subst (EachUnless R T (place s)) b.2 ((each_same s b.0 i b.1).0 (h b.0 b.1))),
      λ h later path. (each_same s later i path).1 (h (map place later) (path_forth s later i path)),
    )
    along_same true false s i = (
      λ h. (h.0, λ later e path. (let b = path_back s later i path in subst (SomeAfter R T (place s)) b.2 ((some_same s b.0 i b.1).0 (h.1 b.0 (long b.0 later b.2 ∙ e) b.1)))),
      λ h. (h.0, λ later e path. (some_same s later i path).1 (h.1 (map place later) (length-map later place ∙ e) (path_forth s later i path))),
    )
    along_same false true s i = (
      λ h n. (let u = h n in (map place u.0, length-map u.0 place ∙ u.1, path_forth s u.0 i u.2, (each_same s u.0 i u.2).0 u.3)),
      λ h n. (let u = h n in let b = path_back s u.0 i u.2 in (b.0, long b.0 u.0 b.2 ∙ u.1, b.1, (each_same s b.0 i b.1).1 (subst (EachUnless R T (place s)) (sym b.2) u.3))),
    )
    along_same false false s i = (
      λ h. (map place h.0, path_forth s h.0 i h.1, (last_same s h.0 i h.1).0 h.2),
      λ h. (let b = path_back s h.0 i h.1 in (b.0, b.1, (last_same s b.0 i b.1).1 (subst (LastAfter R T (place s)) (sym b.2) h.2))),
    )

  module _ (P R : ℕ → Type 0) (same : Same P R) where
    one_same : (all : Bool) (side : Side) → Same (AfterOne m all side P) (AfterOne whole all side R)
    one_same true side s i = (
      λ h u step. (let b = inside.back side s u i step in subst R b.2 ((same b.0 (inside.closed side s b.0 i b.1)).0 (h b.0 b.1))),
      λ h t step. (same t (inside.closed side s t i step)).1 (h (place t) (inside.forth side s t i step)),
    )
    one_same false side s i = (
      λ h. (place h.0, inside.forth side s h.0 i h.1, (same h.0 (inside.closed side s h.0 i h.1)).0 h.2),
      λ h. (let b = inside.back side s h.0 i h.1 in (b.0, b.1, (same b.0 (inside.closed side s b.0 i b.1)).1 (subst R (sym b.2) h.2))),
    )

    after_same : (all : Bool) (side : Option Side) → Same (After m all side P) (After whole all side R)
    after_same true None s i = both_same (one_same true A s i) (one_same true B s i)
    after_same false None s i = either_same (one_same false A s i) (one_same false B s i)
    after_same true (Some side) s i = one_same true side s i
    after_same false (Some side) s i = one_same false side s i

  local_same : (side : Side) (local : ℕ) → Same (HasLocal m side local) (HasLocal whole side local)
  local_same A local s i = (λ h. (h.0, inside.label s i ∙ h.1), λ h. (h.0, sym (inside.label s i) ∙ h.1))
  local_same B local s i = (λ h. (h.0, inside.label s i ∙ h.1), λ h. (h.0, sym (inside.label s i) ∙ h.1))

  truth_same : (f : Form) → Same (Holds m f) (Holds whole f)
  truth_same truth s i = (λ h. h, λ h. h)
  truth_same falsity s i = (λ h. h, λ h. h)
  truth_same (at side local) s i = local_same side local s i
  truth_same (neg f) s i = let x = truth_same f s i in (λ h r. h (x.1 r), λ h p. h (x.0 p))
  truth_same (both f g) s i = both_same (truth_same f s i) (truth_same g s i)
  truth_same (either f g) s i = either_same (truth_same f s i) (truth_same g s i)
  truth_same (implies f g) s i = let x = truth_same f s i in let y = truth_same g s i in (λ h r. y.0 (h (x.1 r)), λ h p. y.1 (h (x.0 p)))
  truth_same (next all side f) s i = after_same (Holds m f) (Holds whole f) (truth_same f) all side s i
  truth_same (always all f) s i = along_same (Holds m f) (λ t. ⊥) (Holds whole f) (λ t. ⊥) (truth_same f) (λ t j. (λ h. h, λ h. h)) all true s i
  truth_same (sometime all f) s i = along_same (λ t. Unit {0}) (Holds m f) (λ t. Unit {0}) (Holds whole f) (λ t j. (λ h. h, λ h. h)) (truth_same f) all false s i
  truth_same (until all weak f g) s i = along_same (Holds m f) (Holds m g) (Holds whole f) (Holds whole g) (truth_same f) (truth_same g) all weak s i

pub morphism_keeps_truth : (m whole : Structure) (In : ℕ → Type 0) (place : ℕ → ℕ) → IsBoundedMorphism m whole In place → (f : Form) (s : ℕ) → In s → Holds m f s ↔ Holds whole f (place s)
morphism_keeps_truth m whole In place inside f s i = truth_same m whole In place inside f s i

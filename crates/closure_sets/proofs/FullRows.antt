-- Each row of an expansion is full.
use Rattle.std.proofs.Common.{ℕ, zero, suc, ◌≡◌, ◌⊎◌, ◌<◌, ◌≤◌, inl, inr, Bool, true, false, ◌||◌, not, Option, Some, None, List, [], ◌∷◌, ◌++◌, arith, refl, subst, sym}
use Rattle.std.proofs.lemmas.Bool.{or_cases, and_parts, not-true}
use Rattle.pair_structure.specs.declared.side.Side.{Side}
use Rattle.pair_structure.specs.declared.side.Side.TheVariants.{A, B}
use Rattle.ctl_form.specs.declared.part.Part.{Part}
use Rattle.ctl_form.specs.declared.part.Part.TheVariants.{Yes, No, Lit, Both, Either, Next, Until}
use Rattle.closure_sets.specs.ClosureParts.{ClosureParts, count, after, some_move}
use Rattle.closure_sets.specs.Expansion.{later_rows, ways, lowest, is_open, rows_of, finish, at_lowest, expand, no_members}
use Rattle.closure_sets.specs.Full.{Has, MeetsPart, EachRow, IsExpansion}
use Rattle.closure_sets.specs.Label.{part_of, is_wrong, wrong_of}
use Rattle.closure_sets.specs.Row.{Members, add}
use Rattle.closure_sets.proofs.Sets.{both_false, add_keeps, add_same, add_back, if_cases, IsLowest, lowest_is, untreated, untreated_less, all_treated, untreated_all}

abbrev Within : Members → Members → Type 0
Within row row' = (i : ℕ) → Has row i → Has row' i

either_map : {X Y X' Y' : Type 0} → (X → X') → (Y → Y') → X ⊎ Y → X' ⊎ Y'
either_map f g (inl x) = inl (f x)
either_map f g (inr y) = inr (g y)

-- a larger row meets what a row meets
meets_more : (c : ClosureParts) (row row' : Members) → Within row row' → (i : ℕ) (part : Part) → MeetsPart c row i part → MeetsPart c row' i part
meets_more c row row' up i (Both f g) h = (up f h.0, up g h.1)
meets_more c row row' up i (Either f g) h = either_map (up f) (up g) h
meets_more c row row' up i (Until true weak f g) h = either_map (up g) (λ v. (up f v.0, up (after c A i) v.1, up (after c B i) v.2)) h
meets_more c row row' up i (Until false weak f g) h = either_map (up g) (λ v. (up f v.0, either_map (up (after c A i)) (up (after c B i)) v.1)) h
meets_more c row row' up i Yes h = h
meets_more c row row' up i No h = h
meets_more c row row' up i (Lit side local is) h = h
meets_more c row row' up i (Next all side f) h = h

-- the treated members are met
record IsDone (c : ClosureParts) (seed row treated : Members) : Type 0 where
  seeded : Within seed row
  kept : Within treated row
  meets : (i : ℕ) → Has treated i → MeetsPart c row i (part_of c i)

has_goal : (c : ClosureParts) (row : Members) (i f g : ℕ) (all weak : Bool) → Has row g → MeetsPart c row i (Until all weak f g)
has_goal c row i f g true weak e = inl e
has_goal c row i f g false weak e = inl e

pub each_append : (X : Members → Type 0) (rs qs : List Members) → EachRow X rs → EachRow X qs → EachRow X (rs ++ qs)
each_append X [] qs h k = k
each_append X (r ∷ rs) qs h k = (h.0, each_append X rs qs h.1 k)

each_of : (X : Members → Type 0) (f : Members → List Members) (rs : List Members) → EachRow (λ r. EachRow X (f r)) rs → EachRow X (rows_of f rs)
each_of X f [] h = tt
each_of X f (r ∷ rs) h = each_append X (f r) (rows_of f rs) h.0 (each_of X f rs h.1)

each_map : (X Y : Members → Type 0) (rs : List Members) → ((r : Members) → X r → Y r) → EachRow X rs → EachRow Y rs
each_map X Y [] f h = tt
each_map X Y (r ∷ rs) f h = (f r h.0, each_map X Y rs f h.1)

-- neither 'false' nor a literal that the label makes false
abbrev pub AreRight : ClosureParts → ℕ × ℕ → Members → Type 0
AreRight c label row = (i : ℕ) → i < count c → Has row i → wrong_of c label i ≡ false

module _ (c : ClosureParts) (only : Option Side) (label : ℕ × ℕ) (easy : ℕ → Bool) (clash : Members → Bool) (right : (row : Members) → clash row ≡ false → AreRight c label row) (seed : Members) (some : (side : Side) → (f : ℕ) × (part_of c (some_move c side) ≡ Next false side f)) where
  -- a larger row in which the member m is met too
  treat : (row row' treated : Members) (m : ℕ) → Has row m → Within row row' → MeetsPart c row' m (part_of c m) → IsDone c seed row treated → IsDone c seed row' (add treated m)
  treat row row' treated m there up here h = record { seeded = λ i e. up i (h.seeded i e); kept = λ i e. elim (add_back treated m i e) [ inl q ↦ subst (λ k. Has row' k) (sym q) (up m there) | inr t ↦ up i (h.kept i t) ]; meets = λ i e. elim (add_back treated m i e) [ inl q ↦ subst (λ k. MeetsPart c row' k (part_of c k)) (sym q) here | inr t ↦ meets_more c row row' up i (part_of c i) (h.meets i t) ] }

  later_done : (row treated : Members) (m f g : ℕ) (all weak : Bool) → Has row m → part_of c m ≡ Until all weak f g → IsDone c seed row treated → EachRow (λ r. IsDone c seed r (add treated m)) (later_rows c only all row m f)
  later_done row treated m f g true weak there p h = (treat row r3 treated m there (λ i e. add_keeps r2 b i (add_keeps r1 a i (add_keeps row f i e))) (subst (MeetsPart c r3 m) (sym p) (inr (add_keeps r2 b f (add_keeps r1 a f (add_same row f)), add_keeps r2 b a (add_same r1 a), add_same r2 b))) h, tt)
    where
      a : ℕ
      a = after c A m

      b : ℕ
      b = after c B m

      r1 : Members
      r1 = add row f

      r2 : Members
      r2 = add r1 a

      r3 : Members
      r3 = add r2 b
  later_done row treated m f g false weak there p h = by only
    where
      one : (side : Side) → Has (add (add row f) (after c side m)) (after c A m) ⊎ Has (add (add row f) (after c side m)) (after c B m) → IsDone c seed (add (add row f) (after c side m)) (add treated m)
      one side e = treat row (add (add row f) (after c side m)) treated m there (λ i x. add_keeps (add row f) (after c side m) i (add_keeps row f i x)) (subst (MeetsPart c (add (add row f) (after c side m)) m) (sym p) (inr (add_keeps (add row f) (after c side m) f (add_same row f), e))) h

      by : (o : Option Side) → EachRow (λ r. IsDone c seed r (add treated m)) (later_rows c o false row m f)
      by None = (one A (inl (add_same (add row f) (after c A m))), (one B (inr (add_same (add row f) (after c B m))), tt))
      by (Some A) = (one A (inl (add_same (add row f) (after c A m))), tt)
      by (Some B) = (one B (inr (add_same (add row f) (after c B m))), tt)

  ways_done : (row treated : Members) (m : ℕ) (part : Part) → Has row m → part_of c m ≡ part → IsDone c seed row treated → EachRow (λ r. IsDone c seed r (add treated m)) (ways c only easy row m part)
  ways_done row treated m (Both f g) there p h = (treat row (add (add row f) g) treated m there (λ i e. add_keeps (add row f) g i (add_keeps row f i e)) (subst (MeetsPart c (add (add row f) g) m) (sym p) (add_keeps (add row f) g f (add_same row f), add_same (add row f) g)) h, tt)
  ways_done row treated m (Either f g) there p h = if_cases (EachRow (λ r. IsDone c seed r (add treated m))) (row f || row g) (row ∷ []) _ (λ e. (treat row row treated m there (λ i x. x) (subst (MeetsPart c row m) (sym p) (or_cases (row f) (row g) e)) h, tt))
      (λ _. if_cases (EachRow (λ r. IsDone c seed r (add treated m))) (easy f) (add row f ∷ []) _ (λ _. (one f (inl (add_same row f)), tt))
      (λ _. if_cases (EachRow (λ r. IsDone c seed r (add treated m))) (easy g) (add row g ∷ []) _ (λ _. (one g (inr (add_same row g)), tt))
      (λ _. (one f (inl (add_same row f)), (one g (inr (add_same row g)), tt)))))
    where
      one : (k : ℕ) → Has (add row k) f ⊎ Has (add row k) g → IsDone c seed (add row k) (add treated m)
      one k e = treat row (add row k) treated m there (add_keeps row k) (subst (MeetsPart c (add row k) m) (sym p) e) h
  ways_done row treated m (Until all weak f g) there p h = if_cases (EachRow (λ r. IsDone c seed r (add treated m))) (row g) (row ∷ []) _ (λ e. (treat row row treated m there (λ i x. x) (subst (MeetsPart c row m) (sym p) (has_goal c row m f g all weak e)) h, tt))
      (λ _. if_cases (EachRow (λ r. IsDone c seed r (add treated m))) (easy g) (add row g ∷ []) _ (λ _. (now, tt)) (λ _. (now, later_done row treated m f g all weak there p h)))
    where
      now : IsDone c seed (add row g) (add treated m)
      now = treat row (add row g) treated m there (add_keeps row g) (subst (MeetsPart c (add row g) m) (sym p) (has_goal c (add row g) m f g all weak (add_same row g))) h
  ways_done row treated m Yes there p h = (treat row row treated m there (λ i x. x) (subst (MeetsPart c row m) (sym p) tt) h, tt)
  ways_done row treated m No there p h = (treat row row treated m there (λ i x. x) (subst (MeetsPart c row m) (sym p) tt) h, tt)
  ways_done row treated m (Lit side local is) there p h = (treat row row treated m there (λ i x. x) (subst (MeetsPart c row m) (sym p) tt) h, tt)
  ways_done row treated m (Next all side f) there p h = (treat row row treated m there (λ i x. x) (subst (MeetsPart c row m) (sym p) tt) h, tt)

  -- all members are treated
  abbrev AllTreated : Members → Members → Type 0
  AllTreated row treated = (i : ℕ) → i < count c → Has row i → Has treated i

  -- of a row that is met, with a next-time more
  met_some : (row : Members) (side : Side) → AreRight c label row → Within seed row → ((i : ℕ) → i < count c → Has row i → MeetsPart c row i (part_of c i)) → IsExpansion c label seed (add row (some_move c side))
  met_some row side fits s h = record { seeded = λ i e. add_keeps row (some_move c side) i (s i e); full = record { meets = λ i lt e. elim (add_back row (some_move c side) i e) [ inl q ↦ subst (MeetsPart c (add row (some_move c side)) i) (sym (subst (λ k. part_of c k ≡ Next false side (some side).0) (sym q) (some side).1)) tt | inr x ↦ meets_more c row (add row (some_move c side)) (add_keeps row (some_move c side)) i (part_of c i) (h i lt x) ]; onward = here side }; literals = λ i lt e. elim (add_back row (some_move c side) i e) [ inl q ↦ subst (λ p. is_wrong label p ≡ false) (sym (subst (λ k. part_of c k ≡ Next false side (some side).0) (sym q) (some side).1)) refl | inr x ↦ fits i lt x ] }
    where
      here : (side : Side) → Has (add row (some_move c side)) (some_move c A) ⊎ Has (add row (some_move c side)) (some_move c B)
      here A = inl (add_same row (some_move c A))
      here B = inr (add_same row (some_move c B))

  finish_full : (row treated : Members) → AreRight c label row → AllTreated row treated → IsDone c seed row treated → EachRow (IsExpansion c label seed) (finish c row)
  finish_full row treated fits all h = if_cases (EachRow (IsExpansion c label seed)) (row (some_move c A) || row (some_move c B)) (row ∷ []) _ (λ e. (record { seeded = h.seeded; full = record { meets = λ i lt x. h.meets i (all i lt x); onward = or_cases (row (some_move c A)) (row (some_move c B)) e }; literals = fits }, tt)) (λ _. (met_some row A fits h.seeded (λ i lt x. h.meets i (all i lt x)), (met_some row B fits h.seeded (λ i lt x. h.meets i (all i lt x)), tt)))

  at_lowest_full : (row treated : Members) (o : Option ℕ) (f : ℕ → List Members) → IsLowest (count c) (is_open row treated) o → AreRight c label row → IsDone c seed row treated → ((m : ℕ) → m < count c → Has row m → treated m ≡ false → EachRow (IsExpansion c label seed) (f m)) → EachRow (IsExpansion c label seed) (at_lowest o (finish c row) f)
  at_lowest_full row treated None f l fits h go = finish_full row treated fits (λ i lt e. both_false (row i) (treated i) (l i lt) e) h
  at_lowest_full row treated (Some m) f l fits h go = let u = and_parts (row m) (not (treated m)) l.1 in go m l.0 u.0 (not-true (treated m) u.1)

  expand_full : (d : ℕ) (row treated : Members) → untreated (count c) treated ≤ d → IsDone c seed row treated → EachRow (IsExpansion c label seed) (expand c only easy clash d row treated)
  expand_full zero row treated le h = if_cases (EachRow (IsExpansion c label seed)) (clash row) [] _ (λ _. tt) (λ e. finish_full row treated (right row e) (λ i lt _. all_treated (count c) treated le i lt) h)
  expand_full (suc d) row treated le h = if_cases (EachRow (IsExpansion c label seed)) (clash row) [] _ (λ _. tt)
      (λ e. at_lowest_full row treated (lowest (count c) (is_open row treated)) _ (lowest_is (count c) (is_open row treated)) (right row e) h
      (λ m lt there fresh. each_of (IsExpansion c label seed) (λ r. expand c only easy clash d r (add treated m)) (ways c only easy row m (part_of c m)) (each_map (λ r. IsDone c seed r (add treated m)) (λ r. EachRow (IsExpansion c label seed) (expand c only easy clash d r (add treated m))) (ways c only easy row m (part_of c m)) (λ r k. expand_full d r (add treated m) (omega (arith, untreated_less (count c) treated m lt fresh)) k) (ways_done row treated m (part_of c m) there refl h))))

-- the rows of an expansion, whatever test the members pass
pub rows_are_full : (c : ClosureParts) (only : Option Side) (label : ℕ × ℕ) (easy : ℕ → Bool) (clash : Members → Bool) → ((row : Members) → clash row ≡ false → AreRight c label row) → (seed : Members) → ((side : Side) → (f : ℕ) × (part_of c (some_move c side) ≡ Next false side f)) → EachRow (IsExpansion c label seed) (expand c only easy clash (count c) seed no_members)
rows_are_full c only label easy clash right seed some = expand_full c only label easy clash right seed some (count c) seed no_members (untreated_all (count c) no_members) (record { seeded = λ i e. e; kept = λ i e. absurd (never e); meets = λ i e. absurd (never e) })
  where
    never : false ≡ true → ⊥
    never e = cc

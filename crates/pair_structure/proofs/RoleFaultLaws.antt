-- Which fault of a role's parts comes first, and that parts are lawful exactly where no fault stands.
use Rattle.std.proofs.Common.{ℕ, ◌≡◌, ◌≢◌, ◌<◌, ◌≤◌, inl, inr, List, [], length, AllPairs, Some, None, true, false, arith, subst, get_or, take, sym, ◌∙◌, eqb, eqb-true}
use Rattle.std.proofs.lemmas.Bool.{cases_lt}
use Rattle.std.proofs.lemmas.Bool.Decides.{Decides-eqb}
use Rattle.std.proofs.lemmas.List.{get_or_default, get_or-take, length-take, length-take-le, take-take}
use Rattle.std.proofs.lemmas.List.Folds.{Any-from_list_any}
use Rattle.std.proofs.lemmas.Map.Made.{IsDistinct-from_AllPairs}
use Rattle.std.proofs.lemmas.Map.Steps.{length-le_from_distinct_below}
use Rattle.std.specs.List.{list_any}
use Rattle.pair_structure.specs.declared.side.LocalArc.{LocalArc}
use Rattle.pair_structure.specs.declared.role_fault.RoleFault.{RoleFault}
use Rattle.pair_structure.specs.declared.role_fault.RoleFault.TheVariants.{NoLocal, TooManyLocals, LocalTwice, NoStart, StartRange, StartTwice, TooManyArcs, ArcRange, SelfArc, ArcTwice, NoArc}
use Rattle.pair_structure.specs.inside.Least.{IsLeast}
use Rattle.pair_structure.specs.Role.{AreLawful, JoinsTwo, HasArcFrom}
use Rattle.pair_structure.specs.RoleFault.{arc_at, HasEarlierName, StartsOutside, HasEarlierStart, EndsOutside, JoinsItself, HasEarlierEnds, IsNeverLeft, Stands, kind_of, place_of, IsFirstRoleFault, NoneBefore}
use Rattle.pair_structure.proofs.AllPairsLaws.{AllPairs-from_none_earlier, none_earlier-from_AllPairs}
use Rattle.pair_structure.proofs.FirstLaws.{IsFirst-from_order}

not_above : (limit n : ℕ) → (limit < n → ⊥) → n ≤ limit
not_above limit n never = elim (cases_lt limit n) [ inl above ↦ absurd (never above) | inr within ↦ within ]

below : (n limit : ℕ) → (limit ≤ n → ⊥) → n < limit
below n limit never = elim (cases_lt n limit) [ inl lt ↦ lt | inr above ↦ absurd (never above) ]

above_none : (n : ℕ) → n ≢ 0 → 0 < n
above_none n some = omega (arith, some)

abbrev SameEnds : LocalArc → LocalArc → Type 0
SameEnds x y = (x.from ≡ y.from) × (x.to ≡ y.to)

abbrev past_end : LocalArc
past_end = record { from = 0; to = 0; free = false }

module _ (locals : List (List ℕ)) (starts : List ℕ) (arcs : List LocalArc) where
  -- no fault before a kind stands, where none before an earlier kind does, and none of the kinds between

  pub none_before_LocalTwice : length locals ≢ 0 → length locals ≤ 32 → NoneBefore locals starts arcs (LocalTwice 0)
  none_before_LocalTwice some few NoLocal lt stands = some stands
  none_before_LocalTwice some few TooManyLocals lt stands = omega (arith, few, stands)
  none_before_LocalTwice some few other lt stands = omega (arith, lt)

  pub none_before_NoStart : NoneBefore locals starts arcs (LocalTwice 0) → IsLeast (HasEarlierName locals) (length locals) None → NoneBefore locals starts arcs NoStart
  none_before_NoStart before none (LocalTwice local) lt stands = none local stands.0 stands.1
  none_before_NoStart before none other lt stands = before other (omega (arith, lt)) stands

  pub none_before_StartTwice : NoneBefore locals starts arcs NoStart → length starts ≢ 0 → (StartsOutside (length locals) starts → ⊥) → NoneBefore locals starts arcs (StartTwice 0)
  none_before_StartTwice before some inside NoStart lt stands = some stands
  none_before_StartTwice before some inside StartRange lt stands = inside stands
  none_before_StartTwice before some inside other lt stands = before other (omega (arith, lt)) stands

  pub none_before_TooManyArcs : NoneBefore locals starts arcs (StartTwice 0) → IsLeast (HasEarlierStart starts) (length starts) None → NoneBefore locals starts arcs TooManyArcs
  none_before_TooManyArcs before none (StartTwice place) lt stands = none place stands.0 stands.1
  none_before_TooManyArcs before none other lt stands = before other (omega (arith, lt)) stands

  pub none_before_ArcTwice : NoneBefore locals starts arcs TooManyArcs → length arcs ≤ 128 → IsLeast (EndsOutside (length locals) arcs) (length arcs) None → IsLeast (JoinsItself arcs) (length arcs) None → NoneBefore locals starts arcs (ArcTwice 0)
  none_before_ArcTwice before few inside differ TooManyArcs lt stands = omega (arith, few, stands)
  none_before_ArcTwice before few inside differ (ArcRange arc) lt stands = inside arc stands.0 stands.1
  none_before_ArcTwice before few inside differ (SelfArc arc) lt stands = differ arc stands.0 stands.1
  none_before_ArcTwice before few inside differ other lt stands = before other (omega (arith, lt)) stands

  pub none_before_NoArc : NoneBefore locals starts arcs (ArcTwice 0) → IsLeast (HasEarlierEnds arcs) (length arcs) None → NoneBefore locals starts arcs (NoArc 0)
  none_before_NoArc before none (ArcTwice arc) lt stands = none arc stands.0 stands.1
  none_before_NoArc before none other lt stands = before other (omega (arith, lt)) stands

  pub few_locals : NoneBefore locals starts arcs NoStart → length locals ≤ 32
  few_locals before = not_above 32 (length locals) (before TooManyLocals (omega arith))

  pub few_locals_still : NoneBefore locals starts arcs TooManyArcs → length locals ≤ 32
  few_locals_still before = not_above 32 (length locals) (before TooManyLocals (omega arith))

  -- starts below a count, none of them twice before this place
  pub few_places : (place : ℕ) → (StartsOutside (length locals) starts → ⊥) → IsLeast (HasEarlierStart starts) (length starts) (Some place) → place ≤ length locals
  few_places place inside least =
      let so_many : length (take place starts) ≡ place = length-take-le place starts (omega (arith, least.0)) in
      subst (λ n. n ≤ length locals) so_many (length-le_from_distinct_below (take place starts) (length locals) (IsDistinct-from_AllPairs Decides-eqb (take place starts) differ) each)
    where
      differ : AllPairs (λ x y. x ≢ y) (take place starts)
      differ = AllPairs-from_none_earlier (λ (x y : ℕ). x ≡ y) (take place starts) 0 (λ j within earlier.
          let before : j < place = omega (arith, within, length-take place starts) in
          least.2 j before (rw (take-take j place starts (omega (arith, before)), get_or-take place starts j 0 before) at earlier))

      each : (q : ℕ) → list_any (eqb q) (take place starts) ≡ true → q < length locals
      each q found =
          let (i, x, within, is, same) = Any-from_list_any (eqb q) (take place starts) found in
          let before : i < place = omega (arith, within, length-take place starts) in
          let here : x ≡ get_or starts i x = sym is ∙ get_or-take place starts i x before in
          let same_number : q ≡ x = eqb-true q x same in
          below q (length locals) (λ outside. inside (i, x, omega (arith, before, least.0), sym here, subst (λ n. length locals ≤ n) same_number outside))

  -- a fault is the first, where none of an earlier kind stands and it is the least of its own

  pub first_LocalTwice : (local : ℕ) → NoneBefore locals starts arcs (LocalTwice 0) → IsLeast (HasEarlierName locals) (length locals) (Some local) → IsFirstRoleFault locals starts arcs (LocalTwice local)
  first_LocalTwice local before least = IsFirst-from_order kind_of place_of (Stands locals starts arcs) (LocalTwice local) (least.0, least.1) before lower
    where
      lower : (other : RoleFault) → kind_of other ≡ 3 → place_of other < local → Stands locals starts arcs other → ⊥
      lower (LocalTwice earlier) same lt stands = least.2 earlier lt stands.1
      lower other same lt stands = omega (arith, same)

  pub first_NoStart : NoneBefore locals starts arcs NoStart → length starts ≡ 0 → IsFirstRoleFault locals starts arcs NoStart
  first_NoStart before stands = IsFirst-from_order kind_of place_of (Stands locals starts arcs) NoStart stands before (λ other same lt. omega (arith, lt))

  pub first_StartRange : NoneBefore locals starts arcs NoStart → length starts ≢ 0 → StartsOutside (length locals) starts → IsFirstRoleFault locals starts arcs StartRange
  first_StartRange before some stands = IsFirst-from_order kind_of place_of (Stands locals starts arcs) StartRange stands earlier (λ other same lt. omega (arith, lt))
    where
      earlier : NoneBefore locals starts arcs StartRange
      earlier NoStart lt none = some none
      earlier other lt stands = before other (omega (arith, lt)) stands

  pub first_StartTwice : (place : ℕ) → NoneBefore locals starts arcs (StartTwice 0) → IsLeast (HasEarlierStart starts) (length starts) (Some place) → IsFirstRoleFault locals starts arcs (StartTwice place)
  first_StartTwice place before least = IsFirst-from_order kind_of place_of (Stands locals starts arcs) (StartTwice place) (least.0, least.1) before lower
    where
      lower : (other : RoleFault) → kind_of other ≡ 6 → place_of other < place → Stands locals starts arcs other → ⊥
      lower (StartTwice earlier) same lt stands = least.2 earlier lt stands.1
      lower other same lt stands = omega (arith, same)

  pub first_ArcTwice : (arc : ℕ) → NoneBefore locals starts arcs (ArcTwice 0) → IsLeast (HasEarlierEnds arcs) (length arcs) (Some arc) → IsFirstRoleFault locals starts arcs (ArcTwice arc)
  first_ArcTwice arc before least = IsFirst-from_order kind_of place_of (Stands locals starts arcs) (ArcTwice arc) (least.0, least.1) before lower
    where
      lower : (other : RoleFault) → kind_of other ≡ 10 → place_of other < arc → Stands locals starts arcs other → ⊥
      lower (ArcTwice earlier) same lt stands = least.2 earlier lt stands.1
      lower other same lt stands = omega (arith, same)

  pub first_NoArc : (local : ℕ) → NoneBefore locals starts arcs (NoArc 0) → IsLeast (IsNeverLeft arcs) (length locals) (Some local) → IsFirstRoleFault locals starts arcs (NoArc local)
  first_NoArc local before least = IsFirst-from_order kind_of place_of (Stands locals starts arcs) (NoArc local) (least.0, least.1) before lower
    where
      lower : (other : RoleFault) → kind_of other ≡ 11 → place_of other < local → Stands locals starts arcs other → ⊥
      lower (NoArc earlier) same lt stands = least.2 earlier lt stands.1
      lower other same lt stands = omega (arith, same)

  -- lawful parts, and no fault

  pub AreLawful-from_NoneBefore : NoneBefore locals starts arcs (NoArc 0) → ((local : ℕ) → local < length locals → HasArcFrom arcs local) → AreLawful locals starts arcs
  AreLawful-from_NoneBefore none leaves =
      let some : length locals ≢ 0 = none NoLocal (omega arith) in record {
        some = omega arith;
        few_locals = not_above 32 (length locals) (none TooManyLocals (omega arith));
        names_differ = AllPairs-from_none_earlier (λ (x y : List ℕ). x ≡ y) locals [] (λ local within earlier. none (LocalTwice local) (omega arith) (within, earlier));
        begins = above_none (length starts) (none NoStart (omega arith));
        starts_within = λ place d within. below (get_or starts place d) (length locals) (λ outside. none StartRange (omega arith) (place, get_or starts place d, within, get_or_default starts place (get_or starts place d) d within, outside));
        starts_differ = AllPairs-from_none_earlier (λ (x y : ℕ). x ≡ y) starts 0 (λ place within earlier. none (StartTwice place) (omega arith) (within, earlier));
        few_arcs = not_above 128 (length arcs) (none TooManyArcs (omega arith));
        joins = λ arc d within. subst (JoinsTwo (length locals)) (get_or_default arcs arc past_end d within) (joins arc within);
        ends_differ = λ i j d lt within from to. ends_differ i j d lt within (from, to);
        leaves = leaves;
      }
    where
      joins : (arc : ℕ) → arc < length arcs → JoinsTwo (length locals) (arc_at arcs arc)
      joins arc within = record {
        from = below (arc_at arcs arc).from (length locals) (λ outside. none (ArcRange arc) (omega arith) (within, inl outside));
        to = below (arc_at arcs arc).to (length locals) (λ outside. none (ArcRange arc) (omega arith) (within, inr outside));
        differ = λ same. none (SelfArc arc) (omega arith) (within, same);
      }

      ends_differ : AllPairs (λ x y. SameEnds x y → ⊥) arcs
      ends_differ = AllPairs-from_none_earlier SameEnds arcs past_end (λ arc within earlier. none (ArcTwice arc) (omega arith) (within, earlier))

  pub none_stands-from_AreLawful : AreLawful locals starts arcs → (fault : RoleFault) → Stands locals starts arcs fault → ⊥
  none_stands-from_AreLawful lawful NoLocal stands = omega arith
  none_stands-from_AreLawful lawful TooManyLocals stands = omega arith
  none_stands-from_AreLawful lawful (LocalTwice local) stands = none_earlier-from_AllPairs (λ (x y : List ℕ). x ≡ y) locals [] lawful.names_differ local stands.0 stands.1
  none_stands-from_AreLawful lawful NoStart stands = omega (arith, lawful.begins, stands)
  none_stands-from_AreLawful lawful StartRange (place, start, within, is, outside) = omega (arith, lawful.starts_within place start within, is, outside)
  none_stands-from_AreLawful lawful (StartTwice place) stands = none_earlier-from_AllPairs (λ (x y : ℕ). x ≡ y) starts 0 lawful.starts_differ place stands.0 stands.1
  none_stands-from_AreLawful lawful TooManyArcs stands = omega arith
  none_stands-from_AreLawful lawful (ArcRange arc) stands =
      let joins = lawful.joins arc past_end stands.0 in
      elim stands.1 [ inl from ↦ omega (arith, joins.from, from) | inr to ↦ omega (arith, joins.to, to) ]
  none_stands-from_AreLawful lawful (SelfArc arc) stands = (lawful.joins arc past_end stands.0).differ stands.1
  none_stands-from_AreLawful lawful (ArcTwice arc) stands =
      none_earlier-from_AllPairs SameEnds arcs past_end (λ i j d lt within same. lawful.ends_differ i j d lt within same.0 same.1) arc stands.0 stands.1
  none_stands-from_AreLawful lawful (NoArc local) stands = stands.1 (lawful.leaves local stands.0)

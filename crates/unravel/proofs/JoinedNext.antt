-- One more structure is joined at the next start state.
use Rattle.std.proofs.Common.{ℕ, ◌≡◌, ◌<◌, ◌≤◌, ◌⊎◌, ◌+◌, ◌-◌, ◌*◌, inl, inr, Some, List, length, map, drop, get_or, refl, sym, subst, ap, ◌∙◌, arith, slice_get, Contains, All, slice_index_or, length-append}
use Rattle.std.proofs.lemmas.Bool.{cases_lt}
use Rattle.std.proofs.lemmas.Bool.Decides.{eqb_tells}
use Rattle.std.proofs.lemmas.List.{get_or-map, get_or-drop, get_or-append_right, get_or_append_left, length-map, length-drop}
use Rattle.std.proofs.lemmas.List.Elements.{All-append, All-drop, Contains-append_left, Contains-append_right, Contains-append_cases, Contains-get_or}
use Rattle.std.proofs.lemmas.Option.{slice_get-get_or, get_or_from_slice_get}
use Rattle.pair_structure.specs.declared.side.Move.{Move}
use Rattle.pair_structure.specs.declared.side.Side.{Side}
use Rattle.pair_structure.specs.declared.side.Side.TheVariants.{A, B}
use Rattle.pair_structure.specs.Role.{RoleParts, start_at, starting_at}
use Rattle.pair_structure.specs.Structure.{Structure, HasMove, Reaches, IsLabel, IsLawfulMove, label_at, start_count}
use Rattle.pair_structure.proofs.FirstState.{first_state}
use Rattle.ctl_form.specs.NormalParts.{NormalParts, formula_of}
use Rattle.ctl_form.specs.Truth.{Holds}
use Rattle.ctl_form.proofs.BoundedMorphism.{IsBoundedMorphism, morphism_keeps_truth}
use Rattle.tableau_graph.proofs.Places.{kept_before}
use Rattle.unravel.specs.inside.Joining.{HaveRoots, IsBegun, IsJoined, moved, place_of, with_joined}
use Rattle.unravel.specs.Outcome.{SatisfiesRoots}

contains_map : {X Y : Type 0} (f : X → Y) (xs : List X) (x : X) → Contains xs x → Contains (map f xs) (f x)
contains_map f xs x (i, lt, is) = (i, omega (arith, lt, length-map xs f), get_or-map f xs i x (f x) lt ∙ ap f is)

from_map : {X Y : Type 0} (f : X → Y) (xs : List X) (d : X) (y : Y) → Contains (map f xs) y → (x : X) × Contains xs x × (f x ≡ y)
from_map f xs d y (i, lt, is) =
    let within : i < length xs = omega (arith, lt, length-map xs f) in
    (get_or xs i d, Contains-get_or xs i d within, sym (get_or-map f xs i d y within) ∙ is)

abbrev move_of : ℕ → Side → ℕ → Move
move_of from side to = record { from = from; side = side; to = to }

module _ (a b : RoleParts) (n : NormalParts) (begun : ℕ) (w m : Structure) (p q : ℕ) (j : IsJoined a b begun w) (lt : begun < start_count a b) (at : slice_get w.states begun ≡ Some (p, q)) (sat : SatisfiesRoots (starting_at a p) (starting_at b q) n m) where
  abbrev count : ℕ
  count = start_count a b

  abbrev size : ℕ
  size = length w.states

  abbrev place : ℕ → ℕ
  place = place_of begun size

  abbrev after : Structure
  after = with_joined begun w m

  total : length after.states ≡ size + (length m.states - 1)
  total = length-append w.states (drop 1 m.states) ∙ ap (λ x. size + x) (length-drop 1 m.states)

  placed : (s : ℕ) → ((s ≡ 0) × (place s ≡ begun)) ⊎ ((0 < s) × (place s ≡ size + (s - 1)))
  placed s = elim (eqb_tells s 0) [ inl is ↦ inl (is.1, rw is.0 refl) | inr ne ↦ inr (omega (arith, ne.1), rw ne.0 refl) ]

  begun_in : begun < size
  begun_in = omega (arith, lt, j.long)

  place_within : (s : ℕ) → s < length m.states → place s < length after.states
  place_within s l = elim (placed s) [ inl (z, e) ↦ omega (arith, e, total, begun_in) | inr (pos, e) ↦ omega (arith, e, total, l, pos) ]

  place_once : (s t : ℕ) → place s ≡ place t → s ≡ t
  place_once s t same = elim (placed s) [
    | inl (z, e) ↦ elim (placed t) [ inl (z', e') ↦ z ∙ sym z' | inr (pos', e') ↦ absurd (omega (arith, e, e', same, begun_in)) ]
    | inr (pos, e) ↦ elim (placed t) [ inl (z', e') ↦ absurd (omega (arith, e, e', same, begun_in)) | inr (pos', e') ↦ omega (arith, e, e', same, pos, pos') ]
  ]

  not_begun : (s : ℕ) → IsBegun count begun size (place s) → ⊥
  not_begun s (l, how) = elim (placed s) [
    | inl (z, e) ↦ elim how [ inl low ↦ absurd (omega (arith, e, low)) | inr high ↦ absurd (omega (arith, e, high, lt)) ]
    | inr (pos, e) ↦ absurd (omega (arith, e, l))
  ]

  now_begun : (s : ℕ) → s < length m.states → IsBegun count (begun + 1) (length after.states) (place s)
  now_begun s l = (place_within s l, elim (placed s) [ inl (z, e) ↦ inl (omega (arith, e)) | inr (pos, e) ↦ inr (omega (arith, e, j.long)) ])

  still_begun : (s : ℕ) → IsBegun count begun size s → IsBegun count (begun + 1) (length after.states) s
  still_begun s (l, how) = (omega (arith, l, total), elim how [ inl low ↦ inl (omega (arith, low)) | inr high ↦ inr high ])

  read : (s : ℕ) → s < size → slice_get after.states s ≡ Some (label_at w.states s)
  read s l = kept_before w.states (drop 1 m.states) s (label_at w.states s) (slice_get-get_or w.states s (0, 0) l)

  behind : (s : ℕ) → 0 < s → s < length m.states → slice_get after.states (size + (s - 1)) ≡ Some (label_at m.states s)
  behind s pos l =
      let past : size ≤ size + (s - 1) = omega arith in
      let place_in : size + (s - 1) < length after.states = omega (arith, total, pos, l) in
      let back : size + (s - 1) - size ≡ s - 1 = omega arith in
      let next : 1 + (s - 1) ≡ s = omega (arith, pos) in
      slice_get-get_or after.states (size + (s - 1)) (0, 0) place_in
      ∙ ap (λ x. Some x) (get_or-append_right w.states (drop 1 m.states) size (size + (s - 1)) (0, 0) refl past ∙ ap (λ i. get_or (drop 1 m.states) i (0, 0)) back ∙ get_or-drop 1 m.states (s - 1) (0, 0) ∙ ap (λ i. get_or m.states i (0, 0)) next)

  new_read : (s : ℕ) → s < length m.states → slice_get after.states (place s) ≡ Some (label_at m.states s)
  new_read s l = elim (placed s) [
    | inl (z, e) ↦ rw (e, z) (kept_before w.states (drop 1 m.states) begun (p, q) at ∙ sym first ∙ slice_get-get_or m.states 0 (0, 0) sat.over.some)
    | inr (pos, e) ↦ rw e (behind s pos l)
  ]
    where
      first : slice_get m.states 0 ≡ Some (p, q)
      first = first_state (starting_at a p) (starting_at b q) m.states sat.over.starts (omega arith) (omega arith)

  old_move : (side : Side) (s t : ℕ) → HasMove w side s t → HasMove after side s t
  old_move side s t h = Contains-append_left w.moves (map (moved begun size) m.moves) (move_of s side t) h

  new_move : (side : Side) (s t : ℕ) → HasMove m side s t → HasMove after side (place s) (place t)
  new_move side s t h = Contains-append_right w.moves (map (moved begun size) m.moves) (move_of (place s) side (place t)) (contains_map (moved begun size) m.moves (move_of s side t) h)

  pub IsNew : Side → ℕ → ℕ → Type 0
  IsNew side x y = (s : ℕ) × (t : ℕ) × HasMove m side s t × (place s ≡ x) × (place t ≡ y)

  pub which_move : (side : Side) (x y : ℕ) → HasMove after side x y → HasMove w side x y ⊎ IsNew side x y
  unfolding IsNew
  which_move side x y h = elim (Contains-append_cases w.moves (map (moved begun size) m.moves) (move_of x side y) h) [
    | inl old ↦ inl old
    | inr new ↦ (
        let (z, has, is) = from_map (moved begun size) m.moves (move_of 0 A 0) (move_of x side y) new in
        let same : z.side ≡ side = ap (λ (v : Move). v.side) is in
        inr (z.from, z.to, subst (λ v. HasMove m v z.from z.to) same has, ap (λ (v : Move). v.from) is, ap (λ (v : Move). v.to) is))
  ]

  inside_old : IsBoundedMorphism w after (IsBegun count begun size) (λ s. s)
  unfolding IsNew
  inside_old = record {
    closed = λ side s t i h. j.within side s t h;
    label = λ s i. read s i.0 ∙ sym (slice_get-get_or w.states s (0, 0) i.0);
    forth = λ side s t i h. old_move side s t h;
    back = λ side s u i h. elim (which_move side s u h) [ inl old ↦ (u, old, refl) | inr (s', t', step, from, to) ↦ absurd (not_begun s' (subst (IsBegun count begun size) (sym from) i)) ];
  }

  inside_new : IsBoundedMorphism m after (λ s. s < length m.states) place
  unfolding IsNew
  inside_new = record {
    closed = λ side s t i h. sat.over.goes_on.within side s t h;
    label = λ s i. new_read s i ∙ sym (slice_get-get_or m.states s (0, 0) i);
    forth = λ side s t i h. new_move side s t h;
    back = λ side s u i h. elim (which_move side (place s) u h) [
      | inl old ↦ absurd (not_begun s (j.leaves side (place s) u old))
      | inr (s', t', step, from, to) ↦ (t', subst (λ x. HasMove m side x t') (place_once s' s from) step, to)
    ];
  }

  old_lawful : (x : Move) → IsLawfulMove a b w.states x → IsLawfulMove a b after.states x
  old_lawful x h = record {
    from = omega (arith, h.from, total);
    to = omega (arith, h.to, total);
    arc = rw (get_or_append_left w.states (drop 1 m.states) (0, 0) x.from h.from, get_or_append_left w.states (drop 1 m.states) (0, 0) x.to h.to) h.arc;
    stays = rw (get_or_append_left w.states (drop 1 m.states) (0, 0) x.from h.from, get_or_append_left w.states (drop 1 m.states) (0, 0) x.to h.to) h.stays;
  }

  new_label : (s : ℕ) → s < length m.states → label_at after.states (place s) ≡ label_at m.states s
  new_label s l = get_or_from_slice_get after.states (place s) (label_at m.states s) (0, 0) (new_read s l)

  new_lawful : (x : Move) → IsLawfulMove (starting_at a p) (starting_at b q) m.states x → IsLawfulMove a b after.states (moved begun size x)
  new_lawful x h = record {
    from = place_within x.from h.from;
    to = place_within x.to h.to;
    arc = rw (new_label x.from h.from, new_label x.to h.to) h.arc;
    stays = rw (new_label x.from h.from, new_label x.to h.to) h.stays;
  }

  lawful : All (IsLawfulMove a b after.states) after.moves
  lawful = All-append (IsLawfulMove a b after.states) w.moves (map (moved begun size) m.moves)
      (λ i d l. old_lawful (slice_index_or w.moves i d) (j.lawful i d l))
      (λ i d l. (let within : i < length m.moves = omega (arith, l, length-map m.moves (moved begun size)) in
      rw (get_or-map (moved begun size) m.moves i (move_of 0 A 0) d within) (new_lawful (slice_index_or m.moves i (move_of 0 A 0)) (sat.over.lawful i (move_of 0 A 0) within))))

  labels : All (IsLabel a b) after.states
  labels = All-append (IsLabel a b) w.states (drop 1 m.states) j.labels (All-drop (IsLabel a b) 1 m.states (λ i d l. sat.over.labels i d l))

  step_old : (s : ℕ) → IsBegun count begun size s → (t : ℕ) × Reaches after s t
  step_old s i = let (t, reach) = j.onward s i in (t, elim reach [ inl x ↦ inl (old_move A s t x) | inr y ↦ inr (old_move B s t y) ])

  step_new : (s : ℕ) → s < length m.states → (t : ℕ) × Reaches after (place s) t
  step_new s l = let (t, reach) = sat.over.goes_on.onward s l in (place t, elim reach [ inl x ↦ inl (new_move A s t x) | inr y ↦ inr (new_move B s t y) ])

  onward : (s : ℕ) → IsBegun count (begun + 1) (length after.states) s → (t : ℕ) × Reaches after s t
  onward s (l, how) = elim (cases_lt s size) [
    | inr past ↦ (
        let k : ℕ = s - size + 1 in
        let k_in : k < length m.states = omega (arith, l, past, total) in
        let there : place k ≡ s = elim (placed k) [ inl (z, e) ↦ absurd (omega (arith, z)) | inr (pos, e) ↦ omega (arith, e, past) ] in
        subst (λ x. (t : ℕ) × Reaches after x t) there (step_new k k_in))
    | inl old ↦ elim how [
      | inr high ↦ step_old s (old, inr high)
      | inl low ↦ elim (cases_lt s begun) [
        | inl before ↦ step_old s (old, inl before)
        | inr here ↦ (
            let there : place 0 ≡ s = elim (placed 0) [ inl (z, e) ↦ omega (arith, e, here, low) | inr (pos, e) ↦ absurd (omega (arith, pos)) ] in
            subst (λ x. (t : ℕ) × Reaches after x t) there (step_new 0 sat.over.some))
      ]
    ]
  ]

  pub roots_more : HaveRoots n begun w → HaveRoots n (begun + 1) after
  roots_more old s l i d lt_i = elim (cases_lt s begun) [
    | inl before ↦ (morphism_keeps_truth w after (IsBegun count begun size) (λ s. s) inside_old (formula_of n (slice_index_or n.roots i d)) s (omega (arith, before, begun_in), inl before)).0 (old s before i d lt_i)
    | inr here ↦ (
        let there : place 0 ≡ s = elim (placed 0) [ inl (z, e) ↦ omega (arith, e, here, l) | inr (pos, e) ↦ absurd (omega (arith, pos)) ] in
        subst (Holds after (formula_of n (slice_index_or n.roots i d))) there ((morphism_keeps_truth m after (λ s. s < length m.states) place inside_new (formula_of n (slice_index_or n.roots i d)) 0 sat.over.some).0 (sat.roots 0 (omega arith) i d lt_i)))
  ]

  begun_ends : (side : Side) (s t : ℕ) → HasMove after side s t → IsBegun count (begun + 1) (length after.states) s × IsBegun count (begun + 1) (length after.states) t
  unfolding IsNew
  begun_ends side s t h = elim (which_move side s t h) [
    | inl old ↦ (still_begun s (j.leaves side s t old), still_begun t (j.within side s t old))
    | inr (s', t', step, from, to) ↦ (
      subst (IsBegun count (begun + 1) (length after.states)) from (now_begun s' (sat.over.goes_on.leaves side s' t' step)),
      subst (IsBegun count (begun + 1) (length after.states)) to (now_begun t' (sat.over.goes_on.within side s' t' step)),
    )
  ]

  pub joined_more : IsJoined a b (begun + 1) after
  joined_more = record {
    long = omega (arith, total, j.long);
    starts = λ i k li lk. kept_before w.states (drop 1 m.states) (i * length b.starts + k) (start_at a.starts i, start_at b.starts k) (j.starts i k li lk);
    labels = labels;
    lawful = lawful;
    leaves = λ side s t h. (begun_ends side s t h).0;
    within = λ side s t h. (begun_ends side s t h).1;
    onward = onward;
  }

-- A structure in which state 0 and another state change places, so that a start state comes first.
use Rattle.std.proofs.Common.{ℕ, ◌≡◌, ◌≢◌, ◌<◌, ◌&&◌, inl, inr, Bool, true, cond, Some, length, map, ◌==◌, ◌⊎◌, refl, sym, subst, ap, ◌∙◌, arith, slice_get, Contains, slice_index_or}
use Rattle.std.specs.List.{list_any, range_with_len}
use Rattle.std.proofs.lemmas.Bool.{eq-eqb, ne_eqb}
use Rattle.std.proofs.lemmas.Bool.Decides.{eqb_tells, nat_tests}
use Rattle.std.proofs.lemmas.List.Elements.{All-contains, Contains-get_or}
use Rattle.std.proofs.lemmas.List.Folds.{Any-from_list_any, list_any-from_Any}
use Rattle.std.proofs.lemmas.List.FromFn.{get_or-map-range_with_len, length-map-range_with_len}
use Rattle.std.proofs.lemmas.Option.{slice_get-get_or}
use Rattle.pair_structure.specs.declared.side.Move.{Move}
use Rattle.pair_structure.specs.declared.side.Side.{Side}
use Rattle.pair_structure.specs.declared.side.Side.TheVariants.{A, B}
use Rattle.pair_structure.specs.Ordinal.{is_same_side}
use Rattle.pair_structure.specs.Role.{RoleParts, starting_at}
use Rattle.pair_structure.specs.Structure.{Structure, HasMove, Reaches, GoesOn, IsLawfulMove, IsOver, label_at}
use Rattle.pair_structure.proofs.FirstState.{one_state}
use Rattle.ctl_form.proofs.BoundedMorphism.{IsBoundedMorphism}
use Rattle.deletion_rules.proofs.MoveList.{moves_below, moves_are, moves_have, moves_rise}

equal_or_not : (x y : ℕ) → (x ≡ y) ⊎ (x ≢ y)
equal_or_not x y = elim (eqb_tells x y) [ inl is ↦ inl is.1 | inr ne ↦ inr ne.1 ]

-- state 0 and state k change places
pub swap : ℕ → ℕ → ℕ
swap k s = cond (s == 0) k (cond (s == k) 0 s)

swap_first : (k s : ℕ) → s ≡ 0 → swap k s ≡ k
unfolding swap
swap_first k s is = rw (eq-eqb s 0 is) refl

pub swap_there : (k s : ℕ) → s ≡ k → swap k s ≡ 0
unfolding swap
swap_there k s is = elim (equal_or_not s 0) [ inl first ↦ rw (eq-eqb s 0 first) (sym is ∙ first) | inr ne ↦ rw (ne_eqb s 0 ne, eq-eqb s k is) refl ]

swap_other : (k s : ℕ) → s ≢ 0 → s ≢ k → swap k s ≡ s
unfolding swap
swap_other k s ne ne_k = rw (ne_eqb s 0 ne, ne_eqb s k ne_k) refl

pub swap_back : (k s : ℕ) → swap k (swap k s) ≡ s
swap_back k s = elim (equal_or_not s 0) [
  | inl e ↦ swap_there k (swap k s) (swap_first k s e) ∙ sym e
  | inr ne ↦ elim (equal_or_not s k) [
    | inl e ↦ swap_first k (swap k s) (swap_there k s e) ∙ sym e
    | inr ne_k ↦ ap (swap k) (swap_other k s ne ne_k) ∙ swap_other k s ne ne_k
  ]
]

pub swap_within : (k s n : ℕ) → k < n → s < n → swap k s < n
swap_within k s n lt_k lt = elim (equal_or_not s 0) [
  | inl e ↦ subst (λ x. x < n) (sym (swap_first k s e)) lt_k
  | inr ne ↦ elim (equal_or_not s k) [
    | inl e ↦ subst (λ x. x < n) (sym (swap_there k s e)) (omega (arith, lt))
    | inr ne_k ↦ subst (λ x. x < n) (sym (swap_other k s ne ne_k)) lt
  ]
]

abbrev move_of : ℕ → Side → ℕ → Move
move_of from side to = record { from = from; side = side; to = to }

is_move : ℕ → Side → ℕ → Move → Bool
is_move s side t x = (x.from == s) && (is_same_side x.side side && (x.to == t))

is_move_self : (s t : ℕ) (side : Side) → is_move s side t (move_of s side t) ≡ true
unfolding is_move
is_move_self s t A = grind (arith, nat_tests)
is_move_self s t B = grind (arith, nat_tests)

same_move : (s t s' t' : ℕ) (side side' : Side) → is_move s side t (move_of s' side' t') ≡ true → move_of s' side' t' ≡ move_of s side t
unfolding is_move
same_move s t s' t' A A same = grind (arith, nat_tests)
same_move s t s' t' A B same = grind (arith, nat_tests)
same_move s t s' t' B A same = grind (arith, nat_tests)
same_move s t s' t' B B same = grind (arith, nat_tests)

module _ (a b : RoleParts) (m : Structure) (over : IsOver a b m) (k : ℕ) (lt : k < length m.states) where
  abbrev count : ℕ
  count = length m.states

  pub link : ℕ → Side → ℕ → Bool
  link s side t = list_any (is_move (swap k s) side (swap k t)) m.moves

  link_from : (s t : ℕ) (side : Side) → HasMove m side (swap k s) (swap k t) → link s side t ≡ true
  unfolding link
  link_from s t side (i, within, is) =
      list_any-from_Any (is_move (swap k s) side (swap k t)) m.moves (i, move_of (swap k s) side (swap k t), within, is, is_move_self (swap k s) (swap k t) side)

  link_to : (s t : ℕ) (side : Side) → link s side t ≡ true → HasMove m side (swap k s) (swap k t)
  unfolding link
  link_to s t side found =
      let (i, x, within, is, hit) = Any-from_list_any (is_move (swap k s) side (swap k t)) m.moves found in
      let same : x ≡ move_of (swap k s) side (swap k t) = same_move (swap k s) (swap k t) x.from x.to side x.side hit in
      subst (λ (y : Move). Contains m.moves y) same (i, within, is)

  abbrev pub renumbered : Structure
  renumbered = record { states = map (λ s. label_at m.states (swap k s)) (range_with_len 0 count); moves = moves_below link count count }

  long : length renumbered.states ≡ count
  long = length-map-range_with_len (λ s. label_at m.states (swap k s)) 0 count

  label_there : (s : ℕ) (d : ℕ × ℕ) → s < count → slice_index_or renumbered.states s d ≡ label_at m.states (swap k s)
  label_there s d l = get_or-map-range_with_len (λ s. label_at m.states (swap k s)) 0 count s s d l (omega arith)

  has : (side : Side) (s t : ℕ) → HasMove renumbered side s t → (s < count) × (t < count) × HasMove m side (swap k s) (swap k t)
  has side s t h = let u = moves_are link count count (move_of s side t) h in (u.0, u.1, link_to s t side u.2)

  gives : (side : Side) (s t : ℕ) → s < count → t < count → HasMove m side (swap k s) (swap k t) → HasMove renumbered side s t
  gives side s t ls l h = moves_have link count count s t side ls l (link_from s t side h)

  read : (s : ℕ) → s < count → slice_get m.states s ≡ Some (label_at m.states s)
  read s l = slice_get-get_or m.states s (0, 0) l

  read_there : (s : ℕ) → s < count → slice_get renumbered.states s ≡ Some (label_at m.states (swap k s))
  read_there s l = slice_get-get_or renumbered.states s (0, 0) (omega (arith, l, long)) ∙ ap (λ x. Some x) (label_there s (0, 0) l)

  pub renumbered_inside : IsBoundedMorphism m renumbered (λ s. s < count) (swap k)
  renumbered_inside = record {
    closed = λ side s t l h. over.goes_on.within side s t h;
    label = λ s l. read_there (swap k s) (swap_within k s count lt l) ∙ ap (λ x. Some (label_at m.states x)) (swap_back k s) ∙ sym (read s l);
    forth = λ side s t l h.
        gives side (swap k s) (swap k t) (swap_within k s count lt l) (swap_within k t count lt (over.goes_on.within side s t h)) (rw (swap_back k s, swap_back k t) h);
    back = λ side s u l h. (let v = has side (swap k s) u h in (swap k u, subst (λ x. HasMove m side x (swap k u)) (swap_back k s) v.2, swap_back k u));
  }

  goes_on : GoesOn renumbered
  goes_on = record {
    leaves = λ side s t h. (let v = has side s t h in omega (arith, v.0, long));
    within = λ side s t h. (let v = has side s t h in omega (arith, v.1, long));
    onward = λ s l. onward s (omega (arith, l, long));
  }
    where
      step : (side : Side) (s t : ℕ) → s < count → HasMove m side (swap k s) t → HasMove renumbered side s (swap k t)
      step side s t l h = gives side s (swap k t) l (swap_within k t count lt (over.goes_on.within side (swap k s) t h)) (rw (swap_back k t) h)

      onward : (s : ℕ) → s < count → (t : ℕ) × Reaches renumbered s t
      onward s l =
          let (t, reach) = over.goes_on.onward (swap k s) (swap_within k s count lt l) in
          (swap k t, elim reach [ inl x ↦ inl (step A s t l x) | inr y ↦ inr (step B s t l y) ])

  lawful_at : (x : Move) → Contains renumbered.moves x → IsLawfulMove a b renumbered.states x
  lawful_at x h =
      let v = has x.side x.from x.to h in
      let old = All-contains (IsLawfulMove a b m.states) m.moves (move_of (swap k x.from) x.side (swap k x.to)) over.lawful v.2 in record {
        from = omega (arith, v.0, long);
        to = omega (arith, v.1, long);
        arc = rw (label_there x.from (0, 0) v.0, label_there x.to (0, 0) v.1) old.arc;
        stays = rw (label_there x.from (0, 0) v.0, label_there x.to (0, 0) v.1) old.stays;
      }

  pub renumbered_over : (p q : ℕ) → slice_get m.states k ≡ Some (p, q) → IsOver (starting_at a p) (starting_at b q) renumbered
  renumbered_over p q is = record {
    some = omega (arith, lt, long);
    starts = one_state (starting_at a p) (starting_at b q) renumbered.states refl refl
        (read_there 0 (omega (arith, lt)) ∙ ap (λ x. Some (label_at m.states x)) (swap_first k 0 refl) ∙ sym (read k lt) ∙ is);
    labels = λ s d l. (let within : s < count = omega (arith, l, long) in rw (label_there s d within) (over.labels (swap k s) (0, 0) (swap_within k s count lt within)));
    lawful = λ i d l. (let old = lawful_at (slice_index_or renumbered.moves i d) (Contains-get_or renumbered.moves i d l) in record { from = old.from; to = old.to; arc = old.arc; stays = old.stays });
    rising = moves_rise link count count;
    goes_on = goes_on;
  }

-- One round of refining, as the steps of the code leave it.
use Rattle.std.proofs.Common.{ℕ, ◌≡◌, ◌≢◌, ◌⊎◌, ◌<◌, ◌≤◌, inl, inr, Bool, true, false, List, [], length, All, Contains, slice_index, slice_index_or, get_or, arith, refl, sym, ◌∙◌, subst, ap}
use Rattle.std.proofs.Math.Decide.{ℕ_discrete, dec_lt}
use Rattle.std.proofs.lemmas.List.{get_or_default}
use Rattle.std.proofs.lemmas.List.Elements.{All-contains}
use Rattle.std.specs.BTreeMap.{BTreeMap}
use Rattle.std.specs.Global.{Vec}
use Rattle.pair_structure.specs.declared.side.Move.{Move}
use Rattle.pair_structure.specs.declared.side.Side.{Side}
use Rattle.pair_structure.specs.declared.side.Side.TheVariants.{A, B}
use Rattle.pair_structure.specs.Structure.{Structure, GoesOn, HasMove, Reaches}
use Rattle.pair_quotient.specs.inside.Moving.{IsAmong, AreAgreed, HaveMoved}
use Rattle.pair_quotient.specs.inside.Naming.{IsNameOf}
use Rattle.pair_quotient.specs.inside.Partition.{IsMatched, IsSplit, IsStable}
use Rattle.pair_quotient.specs.inside.Refining.{AreBlocks, AreRefined, AreWaiting, IsAlone, IsElected, IsSettled}
use Rattle.pair_quotient.specs.inside.Splitting.{AreLed, AreTargets, IsMoved, IsPlaced}
use Rattle.pair_quotient.proofs.KeyLaws.{same_key}
use Rattle.pair_quotient.proofs.SplitByKeys.{IsSplit-from, goes_to_new, same_name}
use Rattle.pair_quotient.proofs.Splitting.{IsPartition-split, IsUntouched, matched-split}

-- a place of a list where a number stands
place_of : (xs : List ℕ) (x : ℕ) → Contains xs x → IsAmong xs (length xs) x
place_of xs x h = (h.0, h.1, get_or_default xs h.0 0 x h.1 ∙ h.2)

among_in : (xs : List ℕ) (x : ℕ) → IsAmong xs (length xs) x → Contains xs x
among_in xs x h = (h.0, h.1, get_or_default xs h.0 x 0 h.1 ∙ h.2)

-- the names of one state are equal
pub one_name_of : (m : Structure) (classes : List ℕ) (names : BTreeMap (Vec Move) ℕ) (s n k : ℕ) → IsNameOf m classes names s n → IsNameOf m classes names s k → n ≡ k
one_name_of m classes names s n k h g = same_name names h.key g.key n k (same_key m classes s s h.key.items g.key.items refl (λ side t step. (t, step, refl)) (λ side t step. (t, step, refl)) h.is g.is) h.named g.named

pub AreAgreed-targets : (m : Structure) (classes old : List ℕ) (before : BTreeMap (Vec Move) ℕ) (states leaders : List ℕ) (names : BTreeMap (Vec Move) ℕ) (targets : List ℕ) → AreTargets m classes old before states (length states) leaders names targets → AreAgreed states targets
AreAgreed-targets m classes old before states leaders names targets h j k lj lk e = one_name_of m classes names (slice_index states k) (slice_index targets j) (slice_index targets k) (subst (λ s. IsNameOf m classes names s (slice_index targets j)) e (h.each j lj)) (h.each k lk)

pub name_within : (m : Structure) (classes old : List ℕ) (before : BTreeMap (Vec Move) ℕ) (states : List ℕ) (n : ℕ) (leaders : List ℕ) (names : BTreeMap (Vec Move) ℕ) (targets : List ℕ) → AreTargets m classes old before states n leaders names targets → (s k : ℕ) → IsNameOf m classes names s k → k < length leaders
name_within m classes old before states n leaders names targets h s k name = elim (h.are.of name.key k name.named) [ inl lead ↦ (let l = lead.0 in omega (arith, l, h.more)) | inr past ↦ past.1 ]

pub targets_within : (m : Structure) (classes old : List ℕ) (before : BTreeMap (Vec Move) ℕ) (states leaders : List ℕ) (names : BTreeMap (Vec Move) ℕ) (targets : List ℕ) → AreTargets m classes old before states (length states) leaders names targets → All (λ t. t < length leaders) targets
targets_within m classes old before states leaders names targets h k d lt =
    let l : k < length states = omega (arith, lt, h.long) in
    subst (λ t. t < length leaders) (get_or_default targets k 0 d lt) (name_within m classes old before states (length states) leaders names targets h (slice_index states k) (slice_index targets k) (h.each k l))

pub HaveMoved-none : (n : ℕ) (states targets classes leaders : List ℕ) (members members' : List (List ℕ)) (count : ℕ) → AreBlocks n classes leaders members → length members' ≡ count → ((b : ℕ) → slice_index_or members' b [] ≡ slice_index_or members b []) → HaveMoved count states targets 0 classes classes members' []
HaveMoved-none n states targets classes leaders members members' count b lists same = record {
  long = refl;
  gone = λ j lt. absurd (omega (arith, lt));
  stayed = λ s. inl refl;
  changed = λ s differ. absurd (differ refl);
  listed_moved = λ k d lt. absurd (omega (arith, lt));
  lists = lists;
  in_range = λ c. subst (All (λ s. s < length classes)) (sym (same c)) (λ k d lt. let l = b.in_range c k d lt in omega (arith, l, b.long));
  listed = λ s lt. subst (λ l. Contains l s) (sym (same (slice_index classes s))) (b.listed s (omega (arith, lt, b.long)));
}

dec_settled : (settled : List Bool) (s : ℕ) → IsSettled settled s ⊎ (IsSettled settled s → ⊥)
dec_settled settled s = by (slice_index_or settled s false) refl
  where
    by : (b : Bool) → slice_index_or settled s false ≡ b → IsSettled settled s ⊎ (IsSettled settled s → ⊥)
    by true e = inl e
    by false e = inr (λ f. let h : true ≡ false = sym f ∙ e in cc)

-- what the steps of a round leave
pub record IsRound (m : Structure) (classes leaders : List ℕ) (settled : List Bool) (waiting touched : List ℕ) (before : BTreeMap (Vec Move) ℕ) (leaders' : List ℕ) (names : BTreeMap (Vec Move) ℕ) (targets new : List ℕ) (members' : List (List ℕ)) (moved : List ℕ) (settled' : List Bool) (waiting' : List ℕ) : Type 0 where
  pub touches : (s : ℕ) → Contains waiting s → Contains touched (slice_index classes s)
  pub elected : (b : ℕ) → Contains touched b → IsElected (length m.states) classes leaders settled b
  pub lead : All (λ b. IsNameOf m classes before (slice_index leaders b) b) touched
  pub aims : AreTargets m classes leaders before waiting (length waiting) leaders' names targets
  pub moves : HaveMoved (length leaders') waiting targets (length waiting) classes new members' moved
  pub waits : AreWaiting (length m.states) settled' waiting'
  pub unsettled : (s t : ℕ) → Contains moved t → Reaches m s t → IsSettled settled' s → IsAlone new s
  pub none : length moved ≡ 0 → waiting' ≡ []

module _ (m : Structure) (on : GoesOn m) (classes leaders : List ℕ) (members : List (List ℕ)) (settled : List Bool) (waiting touched : List ℕ) (before : BTreeMap (Vec Move) ℕ) (leaders' : List ℕ) (names : BTreeMap (Vec Move) ℕ) (targets new : List ℕ) (members' : List (List ℕ)) (moved : List ℕ) (settled' : List Bool) (waiting' : List ℕ)
    (h : AreRefined m classes leaders members settled waiting) (r : IsRound m classes leaders settled waiting touched before leaders' names targets new members' moved settled' waiting') where
  led : AreLed (length m.states) classes leaders
  led = record { within = h.blocks.within; states = h.blocks.states; led = h.blocks.led }

  placed : (s : ℕ) → IsAmong waiting (length waiting) s → IsPlaced m classes leaders settled names new s
  placed s a =
      let touch = r.touches s (among_in waiting s a) in
      let lead = All-contains (λ b. IsNameOf m classes before (slice_index leaders b) b) touched (slice_index classes s) r.lead touch in
      record {
        own = subst (λ x. IsNameOf m classes names x (slice_index new x)) a.2 (subst (IsNameOf m classes names (slice_index waiting a.0)) (sym (r.moves.gone a.0 a.1)) (r.aims.each a.0 a.1));
        lead = record { key = lead.key; is = lead.is; named = r.aims.named lead.key (slice_index classes s) lead.named };
        elected = r.elected (slice_index classes s) touch;
      }

  each : (s : ℕ) → s < length m.states → IsMoved m classes leaders settled names new s
  each s lt = elim (dec_settled settled s) [
    | inl is ↦ elim (r.moves.stayed s) [ inl e ↦ inl (is, e) | inr a ↦ inr (placed s a) ]
    | inr not_so ↦ inr (placed s (place_of waiting s (h.waits.each s lt not_so)))
  ]

  split : IsSplit m classes new
  split = IsSplit-from m on classes new leaders settled names (length leaders') led r.aims.are h.calm r.moves.long each

  within : (s : ℕ) → s < length m.states → slice_index new s < length leaders'
  within s lt = elim (each s lt) [
    | inl a ↦ (let e : slice_index new s ≡ slice_index classes s = a.1 in let l = h.blocks.within s lt in omega (arith, e, l, r.aims.more))
    | inr p ↦ name_within m classes leaders before waiting (length waiting) leaders' names targets r.aims s (slice_index new s) p.own
  ]

  in_waiting : (j : ℕ) → j < length waiting → slice_index waiting j < length m.states
  in_waiting j lt = h.waits.states j 0 lt

  states : (b : ℕ) → b < length leaders' → slice_index leaders' b < length m.states
  states b lt = elim (dec_lt b (length leaders)) [
    | yes l ↦ (let e = r.aims.kept b l in let s = h.blocks.states b l in omega (arith, e, s))
    | no g ↦ (let u = r.aims.leading b (omega (arith, g)) lt in subst (λ s. s < length m.states) u.2 (in_waiting u.0 u.1))
  ]

  stays_led : (b : ℕ) → b < length leaders → slice_index new (slice_index leaders b) ≡ b
  stays_led b lt = elim (each (slice_index leaders b) (h.blocks.states b lt)) [
    | inl a ↦ a.1 ∙ h.blocks.led b lt
    | inr p ↦ (let e = h.blocks.led b lt in
        let lead : IsNameOf m classes names (slice_index leaders b) b = subst (λ x. IsNameOf m classes names (slice_index leaders x) x) e p.lead in
        one_name_of m classes names (slice_index leaders b) (slice_index new (slice_index leaders b)) b p.own lead)
  ]

  new_led : (b : ℕ) → b < length leaders' → slice_index new (slice_index leaders' b) ≡ b
  new_led b lt = elim (dec_lt b (length leaders)) [
    | yes l ↦ ap (λ s. slice_index new s) (r.aims.kept b l) ∙ stays_led b l
    | no g ↦ (let u = r.aims.leading b (omega (arith, g)) lt in ap (λ s. slice_index new s) (sym u.2) ∙ r.moves.gone u.0 u.1 ∙ u.3)
  ]

  blocks : AreBlocks (length m.states) new leaders' members'
  blocks = record {
    long = r.moves.long ∙ h.blocks.long;
    within = within;
    states = states;
    led = new_led;
    lists = r.moves.lists;
    in_range = λ b k d lt. let l = r.moves.in_range b k d lt in omega (arith, l, h.blocks.long);
    listed = λ s lt. r.moves.listed s (omega (arith, lt, h.blocks.long));
  }

  reach : (side : Side) (s t : ℕ) → HasMove m side s t → Reaches m s t
  reach A s t step = inl step
  reach B s t step = inr step

  -- of two settled states of one block, neither reaches a state that changed its block
  untouched : (s t : ℕ) → t < length m.states → (t ≡ s → ⊥) → slice_index new t ≡ slice_index new s → IsSettled settled' s → IsUntouched m classes new s
  untouched s t lt other e is side s' step = elim (ℕ_discrete (slice_index new s') (slice_index classes s')) [
    | yes f ↦ f
    | no apart ↦ absurd (other (r.unsettled s s' (r.moves.changed s' apart) (reach side s s' step) is t (omega (arith, lt, r.moves.long, h.blocks.long)) e))
  ]

  calm : (s t : ℕ) → s < length m.states → t < length m.states → IsSettled settled' s → IsSettled settled' t → slice_index new s ≡ slice_index new t → IsMatched m new s t
  calm s t ls lt is it e = elim (ℕ_discrete s t) [
    | yes f ↦ subst (IsMatched m new s) f (λ side s' step. (s', step, refl))
    | no apart ↦ matched-split m classes new split s t ls lt (untouched s t lt (λ f. apart (sym f)) (sym e) is) (untouched t s ls apart e it) e
  ]

  pub refined : AreRefined m new leaders' members' settled' waiting'
  refined = record {
    partition = IsPartition-split m on classes new h.partition split;
    blocks = blocks;
    calm = record { matched = calm };
    waits = r.waits;
  }

  pub more : length leaders ≤ length leaders'
  more = r.aims.more

  pub progress : (waiting' ≡ []) ⊎ (length leaders < length leaders')
  progress = elim (ℕ_discrete (length moved) 0) [
    | yes e ↦ inl (r.none e)
    | no apart ↦ (let ne : length moved ≢ 0 = apart in
        let u = r.moves.listed_moved 0 0 (omega (arith, ne)) in
        let s : ℕ = get_or moved 0 0 in
        let v = goes_to_new m on classes new leaders settled names (length leaders') led r.aims.are h.calm (get_or moved 0 0) (let l = u.0 in omega (arith, l, h.blocks.long)) (placed (get_or moved 0 0) u.1) u.2 in
        inr (omega (arith, v.0, v.1)))
  ]

-- with nothing left to wait the partition is stable
pub IsStable-refined : (m : Structure) (classes leaders : List ℕ) (members : List (List ℕ)) (settled : List Bool) (waiting : List ℕ) → waiting ≡ [] → AreRefined m classes leaders members settled waiting → IsStable m classes
IsStable-refined m classes leaders members settled waiting e h = record { partition = h.partition; matched = λ s t ls lt f. h.calm.matched s t ls lt (is s ls) (is t lt) f }
  where
    is : (s : ℕ) → s < length m.states → IsSettled settled s
    is s lt = elim (dec_settled settled s) [
      | inl yes_so ↦ yes_so
      | inr not_so ↦ (let has : Contains [] s = subst (λ l. Contains l s) e (h.waits.each s lt not_so) in absurd (omega (arith, has.1)))
    ]

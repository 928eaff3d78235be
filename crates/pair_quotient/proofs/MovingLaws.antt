-- States on their way to their targets, one more each.
use Rattle.std.proofs.Common.{ℕ, ◌≡◌, ◌≢◌, ◌⊎◌, ◌<◌, ◌+◌, ◌++◌, inl, inr, List, [], ◌∷◌, length, All, Contains, slice_index, slice_index_or, get_or, arith, refl, sym, ◌∙◌, subst, ap, length-set, get_or-set_same, get_or-set_other}
use Rattle.std.proofs.Math.Decide.{ℕ_discrete, dec_lt}
use Rattle.std.proofs.lemmas.List.Elements.{All-contains, Contains-append_left, Contains-push, Contains-push_cases, Contains-get_or}
use Rattle.pair_quotient.specs.inside.Moving.{IsAmong, AreAgreed, HaveMoved, GoesTo, StaysIn}

among_more : (states : List ℕ) (n s : ℕ) → IsAmong states n s → IsAmong states (n + 1) s
among_more states n s h = (h.0, omega (arith, h.1), h.2)

pub HaveMoved-stays : (count : ℕ) (states targets : List ℕ) (n : ℕ) (old now new : List ℕ) (members members' : List (List ℕ)) (moved moved' : List ℕ)
    → StaysIn (slice_index states n) (slice_index targets n) now new members members' moved moved' → HaveMoved count states targets n old now members moved → HaveMoved count states targets (n + 1) old new members' moved'
HaveMoved-stays count states targets n old now new members members' moved moved' stays h = rw (stays.classes, stays.lists, stays.list) (record {
  long = h.long;
  gone = gone;
  stayed = λ s. elim (h.stayed s) [ inl e ↦ inl e | inr a ↦ inr (among_more states n s a) ];
  changed = h.changed;
  listed_moved = λ k d lt. let u = h.listed_moved k d lt in (u.0, among_more states n (get_or moved k d) u.1, u.2);
  lists = h.lists;
  in_range = h.in_range;
  listed = h.listed;
})
  where
    gone : (j : ℕ) → j < n + 1 → slice_index now (slice_index states j) ≡ slice_index targets j
    gone j lt = elim (dec_lt j n) [ yes l ↦ h.gone j l | no g ↦ (let e : n ≡ j = omega (arith, g, lt) in subst (λ i. slice_index now (slice_index states i) ≡ slice_index targets i) e stays.at) ]

pub HaveMoved-goes : (count : ℕ) (states targets : List ℕ) (n : ℕ) (old now new : List ℕ) (members members' : List (List ℕ)) (moved moved' : List ℕ) → n < length states → slice_index states n < length old → AreAgreed states targets
    → GoesTo (slice_index states n) (slice_index targets n) now new members members' moved moved' → HaveMoved count states targets n old now members moved → HaveMoved count states targets (n + 1) old new members' moved'
HaveMoved-goes count states targets n old now new members members' moved moved' ln lt agreed goes h = record {
  long = ap length goes.set ∙ length-set now (slice_index states n) (slice_index targets n) ∙ h.long;
  gone = gone;
  stayed = stayed;
  changed = changed;
  listed_moved = λ k d l. listed_moved (get_or moved' k d) (Contains-get_or moved' k d l);
  lists = goes.lists ∙ h.lists;
  in_range = in_range;
  listed = listed;
}
  where
    here : slice_index new (slice_index states n) ≡ slice_index targets n
    here = ap (λ l. slice_index l (slice_index states n)) goes.set ∙ get_or-set_same now (slice_index states n) (slice_index targets n) 0 (omega (arith, lt, h.long))

    there : (s : ℕ) → s ≢ slice_index states n → slice_index new s ≡ slice_index now s
    there s differ = ap (λ l. slice_index l s) goes.set ∙ get_or-set_other now (slice_index states n) s (slice_index targets n) 0 differ

    -- the state has not gone before
    not_among : IsAmong states n (slice_index states n) → ⊥
    not_among a = goes.differ (ap (λ s. slice_index now s) (sym a.2) ∙ h.gone a.0 a.1 ∙ agreed a.0 n (omega (arith, a.1, ln)) ln a.2)

    was : slice_index now (slice_index states n) ≡ slice_index old (slice_index states n)
    was = elim (h.stayed (slice_index states n)) [ inl e ↦ e | inr a ↦ absurd (not_among a) ]

    gone : (j : ℕ) → j < n + 1 → slice_index new (slice_index states j) ≡ slice_index targets j
    gone j l = elim (ℕ_discrete (slice_index states j) (slice_index states n)) [
      | yes e ↦ ap (λ s. slice_index new s) e ∙ here ∙ sym (agreed j n (omega (arith, l, ln)) ln e)
      | no apart ↦ elim (dec_lt j n) [
        | yes before ↦ there (slice_index states j) apart ∙ h.gone j before
        | no g ↦ (let same : j ≡ n = omega (arith, g, l) in absurd (apart (ap (λ i. slice_index states i) same)))
      ]
    ]

    stayed : (s : ℕ) → (slice_index new s ≡ slice_index old s) ⊎ IsAmong states (n + 1) s
    stayed s = elim (ℕ_discrete s (slice_index states n)) [
      | yes e ↦ inr (n, omega arith, sym e)
      | no apart ↦ elim (h.stayed s) [ inl f ↦ inl (there s apart ∙ f) | inr a ↦ inr (among_more states n s a) ]
    ]

    changed : (s : ℕ) → slice_index new s ≢ slice_index old s → Contains moved' s
    changed s differ = subst (λ l. Contains l s) (sym goes.list) (elim (ℕ_discrete s (slice_index states n)) [
      | yes e ↦ subst (Contains (moved ++ slice_index states n ∷ [])) (sym e) (Contains-push moved (slice_index states n))
      | no apart ↦ Contains-append_left moved (slice_index states n ∷ []) s (h.changed s (λ f. differ (there s apart ∙ f)))
    ])

    listed_moved : (s : ℕ) → Contains moved' s → (s < length old) × IsAmong states (n + 1) s × (slice_index new s ≢ slice_index old s)
    listed_moved s has = elim (Contains-push_cases moved (slice_index states n) s (subst (λ l. Contains l s) goes.list has)) [
      | inl before ↦ (let u = All-contains (λ x. (x < length old) × IsAmong states n x × (slice_index now x ≢ slice_index old x)) moved s h.listed_moved before in
          let apart : s ≢ slice_index states n = λ e. not_among (subst (IsAmong states n) e u.1) in
          (u.0, among_more states n s u.1, λ f. u.2 (sym (there s apart) ∙ f)))
      | inr e ↦ subst (λ x. (x < length old) × IsAmong states (n + 1) x × (slice_index new x ≢ slice_index old x)) e (lt, (n, omega arith, refl), λ f. goes.differ (was ∙ sym f ∙ here))
    ]

    in_range : (b : ℕ) → All (λ s. s < length old) (slice_index_or members' b [])
    in_range b k d l = elim (ℕ_discrete (slice_index targets n) b) [
      | yes e ↦ (let list : slice_index_or members' b [] ≡ slice_index_or members b [] ++ slice_index states n ∷ [] = ap (λ i. slice_index_or members' i []) (sym e) ∙ goes.here ∙ ap (λ i. slice_index_or members i [] ++ slice_index states n ∷ []) e in
          let has : Contains (slice_index_or members b [] ++ slice_index states n ∷ []) (get_or (slice_index_or members' b []) k d) = subst (λ xs. Contains xs (get_or (slice_index_or members' b []) k d)) list (Contains-get_or (slice_index_or members' b []) k d l) in
          elim (Contains-push_cases (slice_index_or members b []) (slice_index states n) (get_or (slice_index_or members' b []) k d) has) [
            | inl old_one ↦ All-contains (λ s. s < length old) (slice_index_or members b []) (get_or (slice_index_or members' b []) k d) (h.in_range b) old_one
            | inr f ↦ subst (λ s. s < length old) f lt
          ])
      | no apart ↦ (let list = goes.elsewhere b apart in
          All-contains (λ s. s < length old) (slice_index_or members b []) (get_or (slice_index_or members' b []) k d) (h.in_range b) (subst (λ xs. Contains xs (get_or (slice_index_or members' b []) k d)) list (Contains-get_or (slice_index_or members' b []) k d l)))
    ]

    has_more : (b s : ℕ) → Contains (slice_index_or members b []) s → Contains (slice_index_or members' b []) s
    has_more b s has = elim (ℕ_discrete (slice_index targets n) b) [
      | yes e ↦ subst (λ i. Contains (slice_index_or members' i []) s) e (subst (λ l. Contains l s) (sym goes.here) (Contains-append_left (slice_index_or members (slice_index targets n) []) (slice_index states n ∷ []) s (subst (λ i. Contains (slice_index_or members i []) s) (sym e) has)))
      | no apart ↦ subst (λ l. Contains l s) (sym (goes.elsewhere b apart)) has
    ]

    listed : (s : ℕ) → s < length old → Contains (slice_index_or members' (slice_index new s) []) s
    listed s l = elim (ℕ_discrete s (slice_index states n)) [
      | yes e ↦ subst (λ x. Contains (slice_index_or members' (slice_index new x) []) x) (sym e) (subst (λ i. Contains (slice_index_or members' i []) (slice_index states n)) (sym here) (subst (λ xs. Contains xs (slice_index states n)) (sym goes.here) (Contains-push (slice_index_or members (slice_index targets n) []) (slice_index states n))))
      | no apart ↦ subst (λ i. Contains (slice_index_or members' i []) s) (sym (there s apart)) (has_more (slice_index now s) s (h.listed s l))
    ]

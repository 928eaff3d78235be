-- The numbering of classes, one state further each.
use Rattle.std.proofs.Common.{ℕ, ◌≡◌, ◌≢◌, ◌+◌, ◌<◌, ◌≤◌, inl, inr, List, [], ◌∷◌, ◌++◌, length, slice_index, slice_set, refl, subst, sym, ap, ◌∙◌, arith, length-append, length-set, get_or-set_same, get_or-set_other}
use Rattle.std.proofs.Math.Decide.{ℕ_discrete, dec_lt}
use Rattle.std.proofs.lemmas.List.{get_or_append_left, get_or_push, append-nil}
use Rattle.pair_quotient.specs.inside.Numbering.{HasFirst, AreFirsts, IsClassBelow, HasClass, IsNumberedBelow, IsNumberedNext, IsNumbering}

pub AreFirsts-step : (blocks : List ℕ) (count n : ℕ) (firsts : List ℕ) → n < length blocks → slice_index blocks n < count → AreFirsts blocks count (n + 1) firsts → AreFirsts blocks count n (slice_set firsts (slice_index blocks n) n)
AreFirsts-step blocks count n firsts lt within h = record { long = length-set firsts (slice_index blocks n) n ∙ h.long; each = each }
  where
    each : (s : ℕ) → n ≤ s → s < length blocks → HasFirst blocks n (slice_set firsts (slice_index blocks n) n) s
    each s le ls = elim (ℕ_discrete (slice_index blocks s) (slice_index blocks n)) [
      | yes e ↦ (let room : slice_index blocks n < length firsts = omega (arith, within, h.long) in
          let here : slice_index (slice_set firsts (slice_index blocks n) n) (slice_index blocks s) ≡ n = ap (λ b. slice_index (slice_set firsts (slice_index blocks n) n) b) e ∙ get_or-set_same firsts (slice_index blocks n) n 0 room in
          record { low = omega (arith, here); first = omega (arith, here, le); member = ap (λ x. slice_index blocks x) here ∙ sym e })
      | no apart ↦ (let differ : slice_index blocks s ≢ slice_index blocks n = apart in
          let there : slice_index (slice_set firsts (slice_index blocks n) n) (slice_index blocks s) ≡ slice_index firsts (slice_index blocks s) = get_or-set_other firsts (slice_index blocks n) (slice_index blocks s) n 0 differ in
          let later : n + 1 ≤ s = after s le differ in
          let u = h.each s later ls in
          record { low = omega (arith, there, u.low); first = omega (arith, there, u.first); member = ap (λ x. slice_index blocks x) there ∙ u.member })
    ]
      where
        after : (s : ℕ) → n ≤ s → slice_index blocks s ≢ slice_index blocks n → n + 1 ≤ s
        after s le differ = elim (dec_lt n s) [ yes l ↦ omega (arith, l) | no g ↦ (let e : s ≡ n = omega (arith, g, le) in absurd (differ (ap (λ x. slice_index blocks x) e))) ]

-- what is said of an earlier class stays
keeps_class : (blocks firsts classes lowest more extra : List ℕ) (n c : ℕ) → length classes ≡ n → c < length lowest → IsClassBelow blocks firsts classes lowest n c → IsClassBelow blocks firsts (classes ++ more) (lowest ++ extra) (n + 1) c
keeps_class blocks firsts classes lowest more extra n c long lc h =
    let low : slice_index (lowest ++ extra) c ≡ slice_index lowest c = get_or_append_left lowest extra 0 c lc in
    let at : slice_index (classes ++ more) (slice_index lowest c) ≡ slice_index classes (slice_index lowest c) = get_or_append_left classes more 0 (slice_index lowest c) (omega (arith, h.state, long)) in
    record { state = omega (arith, low, h.state); member = rw low (at ∙ h.member); first = rw low h.first }

keeps_state : (blocks firsts classes lowest more extra : List ℕ) (n s : ℕ) → length classes ≡ n → s < n → HasClass blocks firsts classes lowest s → HasClass blocks firsts (classes ++ more) (lowest ++ extra) s
keeps_state blocks firsts classes lowest more extra n s long ls h =
    let at : slice_index (classes ++ more) s ≡ slice_index classes s = get_or_append_left classes more 0 s (omega (arith, ls, long)) in
    let low : slice_index (lowest ++ extra) (slice_index classes s) ≡ slice_index lowest (slice_index classes s) = get_or_append_left lowest extra 0 (slice_index classes s) h.within in
    record { within = omega (arith, at, h.within, length-append lowest extra); lowest_is = rw (at, low) h.lowest_is }

-- the next state is the first of its block
pub IsNumberedBelow-new : (blocks firsts classes lowest : List ℕ) (n : ℕ) → slice_index firsts (slice_index blocks n) ≡ n → IsNumberedBelow blocks firsts n classes lowest → IsNumberedBelow blocks firsts (n + 1) (classes ++ length lowest ∷ []) (lowest ++ n ∷ [])
IsNumberedBelow-new blocks firsts classes lowest n here h = record { long = length-append classes (length lowest ∷ []) ∙ omega (arith, h.long); states = states; each = each; rising = rising }
  where
    at_end : slice_index (classes ++ length lowest ∷ []) n ≡ length lowest
    at_end = get_or_push classes (length lowest) 0 n h.long

    last : slice_index (lowest ++ n ∷ []) (length lowest) ≡ n
    last = get_or_push lowest n 0 (length lowest) refl

    states : (s : ℕ) → s < n + 1 → HasClass blocks firsts (classes ++ length lowest ∷ []) (lowest ++ n ∷ []) s
    states s ls = elim (dec_lt s n) [
      | yes l ↦ keeps_state blocks firsts classes lowest (length lowest ∷ []) (n ∷ []) n s h.long l (h.states s l)
      | no g ↦ (let e : n ≡ s = omega (arith, g, ls) in subst (HasClass blocks firsts (classes ++ length lowest ∷ []) (lowest ++ n ∷ [])) e (record { within = omega (arith, at_end, length-append lowest (n ∷ [])); lowest_is = rw at_end (last ∙ sym here) }))
    ]

    each : (c : ℕ) → c < length (lowest ++ n ∷ []) → IsClassBelow blocks firsts (classes ++ length lowest ∷ []) (lowest ++ n ∷ []) (n + 1) c
    each c lc = elim (dec_lt c (length lowest)) [
      | yes l ↦ keeps_class blocks firsts classes lowest (length lowest ∷ []) (n ∷ []) n c h.long l (h.each c l)
      | no g ↦ (let e : length lowest ≡ c = omega (arith, g, lc, length-append lowest (n ∷ [])) in subst (IsClassBelow blocks firsts (classes ++ length lowest ∷ []) (lowest ++ n ∷ []) (n + 1)) e (record { state = omega (arith, last); member = rw last at_end; first = rw last here }))
    ]

    rising : (c d : ℕ) → c < d → d < length (lowest ++ n ∷ []) → slice_index (lowest ++ n ∷ []) c < slice_index (lowest ++ n ∷ []) d
    rising c d lt ld = elim (dec_lt d (length lowest)) [
      | yes l ↦ rw (get_or_append_left lowest (n ∷ []) 0 c (omega (arith, lt, l)), get_or_append_left lowest (n ∷ []) 0 d l) (h.rising c d lt l)
      | no g ↦ (let e : length lowest ≡ d = omega (arith, g, ld, length-append lowest (n ∷ [])) in
          let lc : c < length lowest = omega (arith, e, lt) in
          let at : slice_index (lowest ++ n ∷ []) d ≡ n = ap (λ x. slice_index (lowest ++ n ∷ []) x) (sym e) ∙ last in
          let before : slice_index (lowest ++ n ∷ []) c ≡ slice_index lowest c = get_or_append_left lowest (n ∷ []) 0 c lc in
          let below : slice_index lowest c < n = (h.each c lc).state in
          omega (arith, at, before, below))
    ]

-- its block has an earlier member
pub IsNumberedBelow-old : (blocks firsts classes lowest : List ℕ) (count n f : ℕ) → n < length blocks → AreFirsts blocks count 0 firsts → f ≡ slice_index firsts (slice_index blocks n) → f ≢ n → IsNumberedBelow blocks firsts n classes lowest → IsNumberedBelow blocks firsts (n + 1) (classes ++ slice_index classes f ∷ []) lowest
IsNumberedBelow-old blocks firsts classes lowest count n f ln firsts_are is differ h = record { long = length-append classes (slice_index classes f ∷ []) ∙ omega (arith, h.long); states = states; each = each; rising = h.rising }
  where
    mine : HasFirst blocks 0 firsts n
    mine = firsts_are.each n (omega arith) ln

    earlier : f < n
    earlier = let le : slice_index firsts (slice_index blocks n) ≤ n = mine.first in omega (arith, le, is, differ)

    block : slice_index blocks f ≡ slice_index blocks n
    block = ap (λ x. slice_index blocks x) is ∙ mine.member

    at_end : slice_index (classes ++ slice_index classes f ∷ []) n ≡ slice_index classes f
    at_end = get_or_push classes (slice_index classes f) 0 n h.long

    nothing : lowest ++ [] ≡ lowest
    nothing = append-nil lowest

    states : (s : ℕ) → s < n + 1 → HasClass blocks firsts (classes ++ slice_index classes f ∷ []) lowest s
    states s ls = elim (dec_lt s n) [
      | yes l ↦ subst (λ x. HasClass blocks firsts (classes ++ slice_index classes f ∷ []) x s) nothing (keeps_state blocks firsts classes lowest (slice_index classes f ∷ []) [] n s h.long l (h.states s l))
      | no g ↦ (let e : n ≡ s = omega (arith, g, ls) in let u = h.states f earlier in
          subst (HasClass blocks firsts (classes ++ slice_index classes f ∷ []) lowest) e (record { within = omega (arith, at_end, u.within); lowest_is = rw at_end (u.lowest_is ∙ ap (λ b. slice_index firsts b) block) }))
    ]

    each : (c : ℕ) → c < length lowest → IsClassBelow blocks firsts (classes ++ slice_index classes f ∷ []) lowest (n + 1) c
    each c lc = subst (λ x. IsClassBelow blocks firsts (classes ++ slice_index classes f ∷ []) x (n + 1) c) nothing (keeps_class blocks firsts classes lowest (slice_index classes f ∷ []) [] n c h.long lc (h.each c lc))

-- the first of the next state's block is numbered, if it is not the state itself
pub first_numbered : (blocks firsts : List ℕ) (count n : ℕ) → n < length blocks → AreFirsts blocks count 0 firsts → slice_index firsts (slice_index blocks n) ≢ n → slice_index firsts (slice_index blocks n) < n
first_numbered blocks firsts count n lt are differ = let le = (are.each n (omega arith) lt).first in omega (arith, le, differ)

pub IsNumberedBelow-next : (blocks firsts classes lowest classes' lowest' : List ℕ) (count n f : ℕ) → n < length blocks → AreFirsts blocks count 0 firsts → f ≡ slice_index firsts (slice_index blocks n) → IsNumberedNext n f classes lowest classes' lowest' → IsNumberedBelow blocks firsts n classes lowest → IsNumberedBelow blocks firsts (n + 1) classes' lowest'
IsNumberedBelow-next blocks firsts classes lowest classes' lowest' count n f lt are is (inl new) h = rw (new.1, new.2) (IsNumberedBelow-new blocks firsts classes lowest n (sym is ∙ new.0) h)
IsNumberedBelow-next blocks firsts classes lowest classes' lowest' count n f lt are is (inr old) h = rw (old.1, old.2) (IsNumberedBelow-old blocks firsts classes lowest count n f lt are is old.0 h)

pub IsNumbering-from : (blocks firsts classes lowest : List ℕ) (count : ℕ) → AreFirsts blocks count 0 firsts → IsNumberedBelow blocks firsts (length blocks) classes lowest → IsNumbering blocks classes lowest
IsNumbering-from blocks firsts classes lowest count f h = record {
  long = h.long;
  within = λ s ls. (h.states s ls).within;
  same = λ s t ls lt. (same_block s t ls lt, same_class s t ls lt);
  states = λ c lc. (h.each c lc).state;
  member = λ c lc. (h.each c lc).member;
  before = before;
}
  where
    same_block : (s t : ℕ) → s < length blocks → t < length blocks → slice_index classes s ≡ slice_index classes t → slice_index blocks s ≡ slice_index blocks t
    same_block s t ls lt e =
        let firsts_equal : slice_index firsts (slice_index blocks s) ≡ slice_index firsts (slice_index blocks t) = sym (h.states s ls).lowest_is ∙ ap (λ c. slice_index lowest c) e ∙ (h.states t lt).lowest_is in
        sym (f.each s (omega arith) ls).member ∙ ap (λ x. slice_index blocks x) firsts_equal ∙ (f.each t (omega arith) lt).member

    same_class : (s t : ℕ) → s < length blocks → t < length blocks → slice_index blocks s ≡ slice_index blocks t → slice_index classes s ≡ slice_index classes t
    same_class s t ls lt e =
        let low : slice_index lowest (slice_index classes s) ≡ slice_index lowest (slice_index classes t) = (h.states s ls).lowest_is ∙ ap (λ b. slice_index firsts b) e ∙ sym (h.states t lt).lowest_is in
        sym (h.each (slice_index classes s) (h.states s ls).within).member ∙ ap (λ x. slice_index classes x) low ∙ (h.each (slice_index classes t) (h.states t lt).within).member

    before : (c t : ℕ) → c < length lowest → t < slice_index lowest c → slice_index classes t < c
    before c t lc lt =
        let state : slice_index lowest c < length blocks = (h.each c lc).state in
        let ls : t < length blocks = omega (arith, lt, state) in
        let u = h.states t ls in
        let low : slice_index lowest (slice_index classes t) ≤ t = rw u.lowest_is (f.each t (omega arith) ls).first in
        elim (dec_lt (slice_index classes t) c) [
          | yes l ↦ l
          | no g ↦ elim (ℕ_discrete (slice_index classes t) c) [
            | yes e ↦ (let same : slice_index lowest (slice_index classes t) ≡ slice_index lowest c = ap (λ x. slice_index lowest x) e in absurd (omega (arith, same, low, lt)))
            | no apart ↦ (let ne : slice_index classes t ≢ c = apart in let up : c < slice_index classes t = omega (arith, g, ne) in absurd (omega (arith, h.rising c (slice_index classes t) up u.within, low, lt)))
          ]
        ]

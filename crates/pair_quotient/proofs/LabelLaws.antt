-- States in blocks by their labels, one more each.
use Rattle.std.proofs.Common.{ℕ, ◌≡◌, ◌↔◌, ◌⊎◌, ◌<◌, ◌≤◌, ◌+◌, ◌++◌, inl, inr, Bool, true, false, cond, Option, Some, None, List, [], ◌∷◌, length, length-append, Contains, slice_index, slice_index_or, get_or, arith, refl, sym, ◌∙◌, subst, ap}
use Rattle.std.proofs.Math.Decide.{ℕ_discrete, dec_lt}
use Rattle.std.specs.BTreeMap.{BTreeMap, get, is_at}
use Rattle.std.specs.Map.{lookup}
use Rattle.std.specs.Ordering.{nat_cmp, is_eq}
use Rattle.std.specs.declared.cmp.Ordering.{Ordering}
use Rattle.std.specs.declared.cmp.Ordering.TheVariants.{Less, Equal, Greater}
use Rattle.std.proofs.lemmas.List.{get_or_append_left, get_or_push}
use Rattle.std.proofs.lemmas.List.Elements.{Contains-get_or, Contains-append_left, Contains-push, Contains-push_cases}
use Rattle.std.proofs.lemmas.Map.Lookups.{exact_pairs, exact_unsigned}
use Rattle.std.proofs.lemmas.Option.{same_Some}
use Rattle.pair_structure.specs.Structure.{label_at}
use Rattle.pair_quotient.specs.inside.Labelling.{AreLabelled, IsLabelPut, IsListedToo, label_cmp}
use Rattle.pair_quotient.specs.inside.Refining.{AreBlocks}
use Rattle.pair_quotient.specs.inside.Splitting.{IsLeading}

equal_of : (r : Ordering) → is_eq r ≡ true → r ≡ Equal
equal_of Less e = let f : false ≡ true = e in cc
equal_of Equal e = refl
equal_of Greater e = let f : false ≡ true = e in cc

same_label : (l q : ℕ × ℕ) → is_at (label_cmp l) q ≡ true → l ≡ q
same_label l q e = exact_pairs nat_cmp nat_cmp exact_unsigned exact_unsigned l q (equal_of (label_cmp l q) e)

some_none : (x : ℕ) → Some x ≡ None → ⊥
some_none x e = cc

cases_of : (b : Bool) (n k : ℕ) (before : Option ℕ) → cond b (Some n) before ≡ Some k → ((b ≡ true) × (n ≡ k)) ⊎ (before ≡ Some k)
cases_of true n k before e = inl (refl, same_Some n k e)
cases_of false n k before e = inr e

missed : (b : Bool) (n : ℕ) (before : Option ℕ) → (b ≡ true → ⊥) → cond b (Some n) before ≡ before
missed true n before never = absurd (never refl)
missed false n before _ = refl

put_kept : (old : BTreeMap (ℕ × ℕ) ℕ) (label : ℕ × ℕ) (next : ℕ) (new : BTreeMap (ℕ × ℕ) ℕ) (n : ℕ) → IsLabelPut old label next new n → (q : ℕ × ℕ) (k : ℕ) → get label_cmp old q ≡ Some k → get label_cmp new q ≡ Some k
put_kept old label next new n put q k h = elim put.cases [
  | inl known ↦ subst (λ (m : BTreeMap (ℕ × ℕ) ℕ). get label_cmp m q ≡ Some k) (sym known.1) h
  | inr more ↦ more.2 q ∙ missed (is_at (label_cmp label) q) next (get label_cmp old q) (λ hit. some_none k (sym h ∙ ap (λ l. get label_cmp old l) (sym (same_label label q hit)) ∙ more.1)) ∙ h
]

grown : (block state : ℕ) (old new : List ℕ) → IsLeading block state old new → (length old ≤ length new) × ((b : ℕ) → b < length old → slice_index new b ≡ slice_index old b)
grown block state old new (inl h) = (let long : length new ≡ length (old ++ state ∷ []) = ap length h.1 in omega (arith, long, length-append old (state ∷ [])), λ b lt. ap (λ l. slice_index l b) h.1 ∙ get_or_append_left old (state ∷ []) 0 b lt)
grown block state old new (inr h) = (let long : length new ≡ length old = ap length h.1 in omega (arith, long), λ b lt. ap (λ l. slice_index l b) h.1)

pub AreLabelled-next : (labels : List (ℕ × ℕ)) (n : ℕ) (numbers numbers' : BTreeMap (ℕ × ℕ) ℕ) (classes leaders classes' leaders' : List ℕ) (members members' : List (List ℕ)) (block : ℕ)
    → AreLabelled labels n numbers classes leaders members → IsLabelPut numbers (label_at labels n) (length leaders) numbers' block → IsLeading block n leaders leaders' → classes' ≡ classes ++ block ∷ [] → length members' ≡ length leaders' → IsListedToo block n members members' → AreLabelled labels (n + 1) numbers' classes' leaders' members'
AreLabelled-next labels n numbers numbers' classes leaders classes' leaders' members members' block h put leading e lists too = record {
  long = ap length e ∙ length-append classes (block ∷ []) ∙ omega (arith, h.long);
  led = record { within = within; states = states; led = led };
  lists = lists;
  in_range = λ b s has. elim (too.only b s has) [ inl before ↦ (let l = h.in_range b s before in omega (arith, l)) | inr f ↦ omega (arith, f) ];
  listed = listed;
  named = named;
  of = of;
}
  where
    le : length leaders ≤ length leaders'
    le = (grown block n leaders leaders' leading).0

    earlier : (s : ℕ) → s < n → slice_index classes' s ≡ slice_index classes s
    earlier s lt = ap (λ l. slice_index l s) e ∙ get_or_append_left classes (block ∷ []) 0 s (omega (arith, lt, h.long))

    last : slice_index classes' n ≡ block
    last = ap (λ l. slice_index l n) e ∙ get_or_push classes block 0 n h.long

    block_in : block < length leaders'
    block_in = elim leading [
      | inl new ↦ (let long : length leaders' ≡ length leaders + 1 = ap length new.1 ∙ length-append leaders (n ∷ []) in let at = new.0 in omega (arith, long, at))
      | inr old ↦ elim put.cases [ inl known ↦ (let l = (h.of (label_at labels n) block known.0).0 in omega (arith, l, le)) | inr more ↦ absurd (old.0 more.0) ]
    ]

    within : (s : ℕ) → s < n + 1 → slice_index classes' s < length leaders'
    within s lt = elim (dec_lt s n) [
      | yes l ↦ (let f = earlier s l in let w = h.led.within s l in omega (arith, f, w, le))
      | no g ↦ (let f : n ≡ s = omega (arith, g, lt) in subst (λ x. slice_index classes' x < length leaders') f (omega (arith, last, block_in)))
    ]

    -- a new block's leader is the state itself
    leader_of : (b : ℕ) → b < length leaders' → ((b < length leaders) × (slice_index leaders' b ≡ slice_index leaders b)) ⊎ ((b ≡ block) × (slice_index leaders' b ≡ n))
    leader_of b lt = elim (dec_lt b (length leaders)) [
      | yes l ↦ inl (l, (grown block n leaders leaders' leading).1 b l)
      | no g ↦ elim leading [
        | inl new ↦ (let long : length leaders' ≡ length leaders + 1 = ap length new.1 ∙ length-append leaders (n ∷ []) in
            let at : length leaders ≡ b = omega (arith, g, lt, long) in
            inr (sym at ∙ sym new.0, ap (λ l. slice_index l b) new.1 ∙ get_or_push leaders n 0 b at))
        | inr same ↦ absurd (let long : length leaders' ≡ length leaders = ap length same.1 in omega (arith, g, lt, long))
      ]
    ]

    states : (b : ℕ) → b < length leaders' → slice_index leaders' b < n + 1
    states b lt = elim (leader_of b lt) [
      | inl old ↦ (let f = old.1 in let s = h.led.states b old.0 in omega (arith, f, s))
      | inr new ↦ (let f = new.1 in omega (arith, f))
    ]

    led : (b : ℕ) → b < length leaders' → slice_index classes' (slice_index leaders' b) ≡ b
    led b lt = elim (leader_of b lt) [
      | inl old ↦ ap (λ s. slice_index classes' s) old.1 ∙ earlier (slice_index leaders b) (h.led.states b old.0) ∙ h.led.led b old.0
      | inr new ↦ ap (λ s. slice_index classes' s) new.1 ∙ last ∙ sym new.0
    ]

    listed : (s : ℕ) → s < n + 1 → Contains (slice_index_or members' (slice_index classes' s) []) s
    listed s lt = elim (dec_lt s n) [
      | yes l ↦ subst (λ b. Contains (slice_index_or members' b []) s) (sym (earlier s l)) (too.kept (slice_index classes s) s (h.listed s l))
      | no g ↦ (let f : n ≡ s = omega (arith, g, lt) in subst (λ x. Contains (slice_index_or members' (slice_index classes' x) []) x) f (subst (λ b. Contains (slice_index_or members' b []) n) (sym last) too.here))
    ]

    named : (s : ℕ) → s < n + 1 → get label_cmp numbers' (label_at labels s) ≡ Some (slice_index classes' s)
    named s lt = elim (dec_lt s n) [
      | yes l ↦ put_kept numbers (label_at labels n) (length leaders) numbers' block put (label_at labels s) (slice_index classes s) (h.named s l) ∙ ap (λ (x : ℕ). Some x) (sym (earlier s l))
      | no g ↦ (let f : n ≡ s = omega (arith, g, lt) in subst (λ x. get label_cmp numbers' (label_at labels x) ≡ Some (slice_index classes' x)) f (put.here ∙ ap (λ (x : ℕ). Some x) (sym last)))
    ]

    old_of : (l : ℕ × ℕ) (b : ℕ) → get label_cmp numbers l ≡ Some b → (b < length leaders') × (label_at labels (slice_index leaders' b) ≡ l)
    old_of l b g = let u = h.of l b g in (let lt = u.0 in omega (arith, lt, le), ap (λ s. label_at labels s) ((grown block n leaders leaders' leading).1 b u.0) ∙ u.1)

    of : (l : ℕ × ℕ) (b : ℕ) → get label_cmp numbers' l ≡ Some b → (b < length leaders') × (label_at labels (slice_index leaders' b) ≡ l)
    of l b g = elim put.cases [
      | inl known ↦ old_of l b (subst (λ (m : BTreeMap (ℕ × ℕ) ℕ). get label_cmp m l ≡ Some b) known.1 g)
      | inr more ↦ elim (cases_of (is_at (label_cmp (label_at labels n)) l) (length leaders) b (get label_cmp numbers l) (sym (more.2 l) ∙ g)) [
        | inl hit ↦ (let at : b ≡ block = sym hit.1 ∙ sym more.0 in (
          subst (λ x. x < length leaders') (sym at) block_in,
          elim (leader_of b (subst (λ x. x < length leaders') (sym at) block_in)) [
            | inl old ↦ absurd (let lt = old.0 in let f = hit.1 in omega (arith, lt, f))
            | inr new ↦ ap (λ s. label_at labels s) new.1 ∙ same_label (label_at labels n) l hit.0
          ],
        ))
        | inr earlier_one ↦ old_of l b earlier_one
      ]
    ]

pub AreLabelled-none : (labels : List (ℕ × ℕ)) (numbers : BTreeMap (ℕ × ℕ) ℕ) (classes leaders : List ℕ) (members : List (List ℕ)) → numbers.entries ≡ [] → classes ≡ [] → leaders ≡ [] → members ≡ [] → AreLabelled labels 0 numbers classes leaders members
AreLabelled-none labels numbers classes leaders members none c l m = record {
  long = ap length c;
  led = record { within = λ s lt. absurd (omega (arith, lt)); states = λ b lt. absurd (let e = ap length l in omega (arith, lt, e)); led = λ b lt. absurd (let e = ap length l in omega (arith, lt, e)) };
  lists = ap length m ∙ sym (ap length l);
  in_range = λ b s has. absurd (let e : slice_index_or members b [] ≡ [] = ap (λ (x : List (List ℕ)). slice_index_or x b []) m in let h : Contains [] s = subst (λ x. Contains x s) e has in omega (arith, h.1));
  listed = λ s lt. absurd (omega (arith, lt));
  named = λ s lt. absurd (omega (arith, lt));
  of = λ q b h. absurd (some_none b (sym h ∙ ap (λ (es : List ((ℕ × ℕ) × ℕ)). lookup (is_at (label_cmp q)) es) none));
}

pub AreBlocks-labelled : (labels : List (ℕ × ℕ)) (numbers : BTreeMap (ℕ × ℕ) ℕ) (classes leaders : List ℕ) (members : List (List ℕ)) → AreLabelled labels (length labels) numbers classes leaders members → AreBlocks (length labels) classes leaders members
AreBlocks-labelled labels numbers classes leaders members h = record {
  long = h.long;
  within = h.led.within;
  states = h.led.states;
  led = h.led.led;
  lists = h.lists;
  in_range = λ b k d lt. h.in_range b (get_or (slice_index_or members b []) k d) (Contains-get_or (slice_index_or members b []) k d lt);
  listed = h.listed;
}

pub same_blocks : (labels : List (ℕ × ℕ)) (numbers : BTreeMap (ℕ × ℕ) ℕ) (classes leaders : List ℕ) (members : List (List ℕ)) → AreLabelled labels (length labels) numbers classes leaders members → (s t : ℕ) → s < length labels → t < length labels → slice_index classes s ≡ slice_index classes t ↔ label_at labels s ≡ label_at labels t
same_blocks labels numbers classes leaders members h s t ls lt = (there, back)
  where
    there : slice_index classes s ≡ slice_index classes t → label_at labels s ≡ label_at labels t
    there e = sym (h.of (label_at labels s) (slice_index classes s) (h.named s ls)).1 ∙ ap (λ b. label_at labels (slice_index leaders b)) e ∙ (h.of (label_at labels t) (slice_index classes t) (h.named t lt)).1

    back : label_at labels s ≡ label_at labels t → slice_index classes s ≡ slice_index classes t
    back e = same_Some (slice_index classes s) (slice_index classes t) (sym (h.named s ls) ∙ ap (λ l. get label_cmp numbers l) e ∙ h.named t lt)

pub IsListedToo-push : (block state : ℕ) (old opened new : List (List ℕ)) → ((b : ℕ) → slice_index_or opened b [] ≡ slice_index_or old b []) → slice_index_or new block [] ≡ slice_index_or opened block [] ++ state ∷ [] → ((b : ℕ) → (block ≡ b → ⊥) → slice_index_or new b [] ≡ slice_index_or opened b []) → IsListedToo block state old new
IsListedToo-push block state old opened new same here elsewhere = record {
  here = subst (λ l. Contains l state) (sym here) (Contains-push (slice_index_or opened block []) state);
  kept = kept;
  only = only;
}
  where
    kept : (b s : ℕ) → Contains (slice_index_or old b []) s → Contains (slice_index_or new b []) s
    kept b s has = elim (ℕ_discrete block b) [
      | yes e ↦ subst (λ i. Contains (slice_index_or new i []) s) e (subst (λ l. Contains l s) (sym here) (Contains-append_left (slice_index_or opened block []) (state ∷ []) s (subst (λ l. Contains l s) (sym (same block)) (subst (λ i. Contains (slice_index_or old i []) s) (sym e) has))))
      | no apart ↦ subst (λ l. Contains l s) (sym (elsewhere b apart ∙ same b)) has
    ]

    only : (b s : ℕ) → Contains (slice_index_or new b []) s → Contains (slice_index_or old b []) s ⊎ (state ≡ s)
    only b s has = elim (ℕ_discrete block b) [
      | yes e ↦ elim (Contains-push_cases (slice_index_or opened block []) state s (subst (λ l. Contains l s) here (subst (λ i. Contains (slice_index_or new i []) s) (sym e) has))) [
        | inl before ↦ inl (subst (λ i. Contains (slice_index_or old i []) s) e (subst (λ l. Contains l s) (same block) before))
        | inr f ↦ inr f
      ]
      | no apart ↦ inl (subst (λ l. Contains l s) (elsewhere b apart ∙ same b) has)
    ]

-- the block of a label is there, or is the next
pub block_there : (labels : List (ℕ × ℕ)) (n : ℕ) (numbers numbers' : BTreeMap (ℕ × ℕ) ℕ) (classes leaders : List ℕ) (members : List (List ℕ)) (label : ℕ × ℕ) (block : ℕ) → AreLabelled labels n numbers classes leaders members → IsLabelPut numbers label (length leaders) numbers' block → block ≤ length leaders
block_there labels n numbers numbers' classes leaders members label block h put = elim put.cases [ inl known ↦ (let l = (h.of label block known.0).0 in omega (arith, l)) | inr more ↦ (let e = more.0 in omega (arith, e)) ]

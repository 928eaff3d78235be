-- The targets of states, one more each.
use Rattle.std.proofs.Common.{ℕ, ◌≡◌, ◌⊎◌, ◌<◌, ◌≤◌, ◌+◌, ◌++◌, inl, inr, List, [], ◌∷◌, length, length-append, slice_index, arith, refl, sym, ◌∙◌, subst, ap}
use Rattle.std.proofs.Math.Decide.{dec_lt}
use Rattle.std.proofs.lemmas.List.{get_or_append_left, get_or_push}
use Rattle.std.specs.BTreeMap.{BTreeMap}
use Rattle.std.specs.Global.{Vec}
use Rattle.pair_structure.specs.declared.side.Move.{Move}
use Rattle.pair_structure.specs.Structure.{Structure}
use Rattle.pair_quotient.specs.inside.ClassMoves.{IsKey}
use Rattle.pair_quotient.specs.inside.Naming.{AreNames, HasName, IsNamed, IsNameOf}
use Rattle.pair_quotient.specs.inside.Splitting.{AreTargets, IsLeading, LeadsItself}
use Rattle.pair_quotient.proofs.NamingLaws.{AreNames-named, IsNameOf-kept, name_kept}

-- the leaders grow by one at most
grown : (block state : ℕ) (old new : List ℕ) → IsLeading block state old new → (length old ≤ length new) × ((b : ℕ) → b < length old → slice_index new b ≡ slice_index old b)
grown block state old new (inl h) = (let long : length new ≡ length (old ++ state ∷ []) = ap length h.1 in omega (arith, long, length-append old (state ∷ [])), λ b lt. ap (λ l. slice_index l b) h.1 ∙ get_or_append_left old (state ∷ []) 0 b lt)
grown block state old new (inr h) = (let long : length new ≡ length old = ap length h.1 in omega (arith, long), λ b lt. ap (λ l. slice_index l b) h.1)

pub AreTargets-next : (m : Structure) (classes old : List ℕ) (before : BTreeMap (Vec Move) ℕ) (states : List ℕ) (n : ℕ) (leaders : List ℕ) (names : BTreeMap (Vec Move) ℕ) (targets leaders' targets' : List ℕ) (names' : BTreeMap (Vec Move) ℕ) (key : Vec Move) (block : ℕ)
    → AreTargets m classes old before states n leaders names targets → IsKey m classes (slice_index states n) key.items → IsNamed names key (length leaders) names' block → IsLeading block (slice_index states n) leaders leaders' → targets' ≡ targets ++ block ∷ [] → AreTargets m classes old before states (n + 1) leaders' names' targets'
AreTargets-next m classes old before states n leaders names targets leaders' targets' names' key block h is named leading e = record {
  are = AreNames-named m classes old (length leaders) (length leaders') names key (length leaders) names' block (grown block state leaders leaders' leading).0 h.are named fit alone;
  more = let le = (grown block state leaders leaders' leading).0 in omega (arith, h.more, le);
  kept = λ b lt. (grown block state leaders leaders' leading).1 b (omega (arith, lt, h.more)) ∙ h.kept b lt;
  named = λ q k g. name_kept names key (length leaders) names' block named q k (h.named q k g);
  long = ap length e ∙ length-append targets (block ∷ []) ∙ omega (arith, h.long);
  each = each;
  leading = leads;
}
  where
    state : ℕ
    state = slice_index states n

    fit : block ≡ length leaders → ((length leaders < length old) × IsKey m classes (slice_index old (length leaders)) key.items) ⊎ ((length old ≤ length leaders) × (length leaders < length leaders'))
    fit same = elim leading [
      | inl new ↦ inr (h.more, (let long : length leaders' ≡ length (leaders ++ slice_index states n ∷ []) = ap length new.1 in omega (arith, long, length-append leaders (slice_index states n ∷ []))))
      | inr old_one ↦ absurd (old_one.0 same)
    ]

    alone : (q : Vec Move) → HasName names q (length leaders) → q.items ≡ key.items
    alone q g = elim (h.are.of q (length leaders) g) [ inl lead ↦ absurd (let l = lead.0 in omega (arith, l, h.more)) | inr past ↦ absurd (let l = past.1 in omega (arith, l)) ]

    earlier : (j : ℕ) → j < n → slice_index targets' j ≡ slice_index targets j
    earlier j lt = ap (λ l. slice_index l j) e ∙ get_or_append_left targets (block ∷ []) 0 j (omega (arith, lt, h.long))

    last : slice_index targets' n ≡ block
    last = ap (λ l. slice_index l n) e ∙ get_or_push targets block 0 n h.long

    each : (j : ℕ) → j < n + 1 → IsNameOf m classes names' (slice_index states j) (slice_index targets' j)
    each j lt = elim (dec_lt j n) [
      | yes l ↦ subst (IsNameOf m classes names' (slice_index states j)) (sym (earlier j l)) (IsNameOf-kept m classes names key (length leaders) names' block named (slice_index states j) (slice_index targets j) (h.each j l))
      | no g ↦ (let same : n ≡ j = omega (arith, g, lt) in subst (λ i. IsNameOf m classes names' (slice_index states i) (slice_index targets' i)) same (subst (IsNameOf m classes names' (slice_index states n)) (sym last) (record { key = key; is = is; named = named.here })))
    ]

    leads : (b : ℕ) → length old ≤ b → b < length leaders' → LeadsItself states targets' leaders' (n + 1) b
    leads b low lt = elim (dec_lt b (length leaders)) [
      | yes l ↦ (let u = h.leading b low l in (u.0, omega (arith, u.1), u.2 ∙ sym ((grown block (slice_index states n) leaders leaders' leading).1 b l), earlier u.0 u.1 ∙ u.3))
      | no g ↦ elim leading [
        | inl new ↦ (let long : length leaders' ≡ length leaders + 1 = ap length new.1 ∙ length-append leaders (slice_index states n ∷ []) in
            let at : length leaders ≡ b = omega (arith, g, lt, long) in
            (n, omega arith, sym (ap (λ l. slice_index l b) new.1 ∙ get_or_push leaders (slice_index states n) 0 b at), last ∙ new.0 ∙ at))
        | inr same ↦ absurd (let long : length leaders' ≡ length leaders = ap length same.1 in omega (arith, g, lt, long))
      ]
    ]

pub AreTargets-none : (m : Structure) (classes old : List ℕ) (before : BTreeMap (Vec Move) ℕ) (states targets : List ℕ) → targets ≡ [] → AreNames m classes old (length old) before → AreTargets m classes old before states 0 old before targets
AreTargets-none m classes old before states targets e are = record {
  are = are;
  more = omega arith;
  kept = λ b lt. refl;
  named = λ q k g. g;
  long = ap length e;
  each = λ j lt. absurd (omega (arith, lt));
  leading = λ b low lt. absurd (omega (arith, low, lt));
}

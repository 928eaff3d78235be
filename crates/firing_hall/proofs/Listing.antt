-- Each pass that is taken in has its list at its caller's number.
use Rattle.std.proofs.Common.{ℕ, ◌≡◌, ◌≢◌, ◌<◌, ◌⊎◌, inl, inr, ⊎_elim, List, [], ◌∷◌, ◌++◌, length, set, arith, refl, sym, ◌∙◌, ap, subst, get_or-set_same, get_or-set_other}
use Rattle.firing_words.specs.Lists.{Has}
use Rattle.firing_words.proofs.Lists.{has_push}
use Rattle.firing_hall.specs.inside.Taking.{IsListed}
use Rattle.firing_journal.specs.Report.{list_by}
use Rattle.firing_journal.specs.declared.asked.Asked.{Asked}
use Rattle.firing_hall.specs.declared.pass.Pass.{Pass}
use Rattle.firing_hall.proofs.Taking.{has_left, has_right}

-- the pass that is taken in now
pub listed_now : (callers now : List ℕ) (lists new : List (List Asked)) (q : Pass) → now ≡ callers ++ q.caller ∷ [] → new ≡ set lists q.caller q.asked.items → q.caller < length lists → IsListed now new q
listed_now callers now lists new q more is lt = (
  subst (Has q.caller) (sym more) (has_right q.caller callers (q.caller ∷ []) (inl refl)),
  ap (λ ls. list_by ls q.caller) is ∙ get_or-set_same lists q.caller q.asked.items [] lt,
)

-- those before it stay
pub listed_still : (callers now : List ℕ) (lists new : List (List Asked)) (q p : Pass) → now ≡ callers ++ q.caller ∷ [] → new ≡ set lists q.caller q.asked.items → ¬ Has q.caller callers → IsListed callers lists p → IsListed now new p
listed_still callers now lists new q p more is apart old =
    let ne : p.caller ≢ q.caller = (λ e. apart (subst (λ (c : ℕ). Has c callers) e old.0)) in (
      subst (Has p.caller) (sym more) (has_left p.caller callers (q.caller ∷ []) old.0),
      ap (λ ls. list_by ls p.caller) is ∙ (get_or-set_other lists q.caller p.caller q.asked.items [] ne ∙ old.1),
    )

-- the last of the passes is taken in
pub listed_more : (callers now : List ℕ) (lists new : List (List Asked)) (passes rest : List Pass) (q p : Pass) → passes ≡ rest ++ q ∷ [] → now ≡ callers ++ q.caller ∷ [] → new ≡ set lists q.caller q.asked.items → q.caller < length lists → ¬ Has q.caller callers → Has p passes ⊎ IsListed callers lists p → Has p rest ⊎ IsListed now new p
listed_more callers now lists new passes rest q p popped more is lt apart (inl h) = ⊎_elim
    (λ (a : Has p rest). inl a)
    (λ (e : q ≡ p). inr (subst (IsListed now new) e (listed_now callers now lists new q more is lt)))
    (has_push p q rest (subst (Has p) popped h))
listed_more callers now lists new passes rest q p popped more is lt apart (inr old) = inr (listed_still callers now lists new q p more is apart old)

-- once none is left, all are listed
pub listed_all : (callers : List ℕ) (lists : List (List Asked)) (left : List Pass) (p : Pass) → length left ≡ 0 → Has p left ⊎ IsListed callers lists p → IsListed callers lists p
listed_all callers lists [] p none (inl h) = absurd h
listed_all callers lists [] p none (inr is) = is
listed_all callers lists (q ∷ left) p none old = absurd (omega (arith, none))

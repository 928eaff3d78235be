-- The pairs at the ends of arcs.
use Rattle.std.proofs.Common.{ℕ, ◌≡◌, ◌<◌, ◌+◌, ◌++◌, ◌↔◌, inl, inr, Option, Some, None, List, [], ◌∷◌, length, take, subst, sym, ◌∙◌, ap, slice_index_or, Contains, MatchOption}
use Rattle.std.specs.Option.{option_to_list}
use Rattle.std.proofs.lemmas.List.{take_more, append-nil}
use Rattle.std.proofs.lemmas.List.Elements.{Contains-push, Contains-push_cases, Contains-append_left}
use Rattle.pair_structure.specs.Role.{RoleParts, HasArc}
use Rattle.pair_structure.specs.declared.side.LocalArc.{LocalArc}
use Rattle.pair_structure.specs.declared.side.Side.{Side}
use Rattle.pair_structure.specs.declared.side.Side.TheVariants.{A, B}
use Rattle.pair_structure.specs.Sides.{arcs_of, with_local}
use Rattle.tableau_graph.specs.Growing.{IsEnd, AreEnds}
use Rattle.tableau_graph.specs.Rules.{LeadsTo}

-- the ends of some arcs, and of one more
ends_push : (side : Side) (pair : ℕ × ℕ) (arcs : List LocalArc) (arc : LocalArc) (ends : List (ℕ × ℕ)) (found : Option (ℕ × ℕ)) → AreEnds side pair arcs ends → MatchOption found ((end : ℕ × ℕ) → IsEnd side pair arc end → ⊥) (IsEnd side pair arc) → AreEnds side pair (arcs ++ arc ∷ []) (ends ++ option_to_list found)
ends_push side pair arcs arc ends None are none end = (there, back)
  where
    there : Contains (ends ++ []) end → (x : LocalArc) × Contains (arcs ++ arc ∷ []) x × IsEnd side pair x end
    there h = let k = (are end).0 (subst (λ (l : List (ℕ × ℕ)). Contains l end) (append-nil ends) h) in (k.0, Contains-append_left arcs (arc ∷ []) k.0 k.1, k.2)

    back : ((x : LocalArc) × Contains (arcs ++ arc ∷ []) x × IsEnd side pair x end) → Contains (ends ++ []) end
    back k = elim (Contains-push_cases arcs arc k.0 k.1) [ inl old ↦ subst (λ (l : List (ℕ × ℕ)). Contains l end) (sym (append-nil ends)) ((are end).1 (k.0, old, k.2)) | inr last ↦ absurd (none end (subst (λ (x : LocalArc). IsEnd side pair x end) (sym last) k.2)) ]
ends_push side pair arcs arc ends (Some y) are is end = (there, back)
  where
    there : Contains (ends ++ y ∷ []) end → (x : LocalArc) × Contains (arcs ++ arc ∷ []) x × IsEnd side pair x end
    there h = elim (Contains-push_cases ends y end h) [ inl old ↦ (let k = (are end).0 old in (k.0, Contains-append_left arcs (arc ∷ []) k.0 k.1, k.2)) | inr last ↦ (arc, Contains-push arcs arc, subst (IsEnd side pair arc) last is) ]

    back : ((x : LocalArc) × Contains (arcs ++ arc ∷ []) x × IsEnd side pair x end) → Contains (ends ++ y ∷ []) end
    back k = elim (Contains-push_cases arcs arc k.0 k.1) [ inl old ↦ Contains-append_left ends (y ∷ []) end ((are end).1 (k.0, old, k.2)) | inr last ↦ (let e : end ≡ with_local side pair k.0.to = k.2.1 in let same : y ≡ end = is.1 ∙ ap (λ (x : LocalArc). with_local side pair x.to) last ∙ sym e in subst (Contains (ends ++ y ∷ [])) same (Contains-push ends y)) ]

-- the ends of the first arcs, and of one more
pub ends_step : (side : Side) (pair : ℕ × ℕ) (arcs : List LocalArc) (ends ends' : List (ℕ × ℕ)) (found : Option (ℕ × ℕ)) (i : ℕ) (d : LocalArc) → i < length arcs → AreEnds side pair (take i arcs) ends → MatchOption found ((end : ℕ × ℕ) → IsEnd side pair (slice_index_or arcs i d) end → ⊥) (IsEnd side pair (slice_index_or arcs i d)) → ends' ≡ ends ++ option_to_list found → AreEnds side pair (take (i + 1) arcs) ends'
ends_step side pair arcs ends ends' found i d lt are is e =
    let arc : LocalArc = slice_index_or arcs i d in
    subst (λ (l : List LocalArc). AreEnds side pair l ends') (sym (take_more arcs i d lt)) (subst (AreEnds side pair (take i arcs ++ arc ∷ [])) (sym e) (ends_push side pair (take i arcs) arc ends found are is))

pub pair_is : (x y x' y' : ℕ) → x ≡ x' → y ≡ y' → ◌≡◌ {A = ℕ × ℕ} (x, y) (x', y')
pair_is x y x' y' p q = cc

ends_lead_a : (a b : RoleParts) (pair : ℕ × ℕ) (ends : List (ℕ × ℕ)) → AreEnds A pair a.arcs ends → (end : ℕ × ℕ) → Contains ends end ↔ LeadsTo a b (Some A) pair end
ends_lead_a a b pair ends are end = (there, back)
  where
    there : Contains ends end → HasArc a.arcs pair.0 end.0 × (pair.1 ≡ end.1)
    there h = let k = (are end).0 h in let e : end ≡ (k.0.to, pair.1) = k.2.1 in ((k.1.0, k.0, k.1.1, k.1.2, (k.2.0, sym (ap (λ (p : ℕ × ℕ). p.0) e))), sym (ap (λ (p : ℕ × ℕ). p.1) e))

    back : HasArc a.arcs pair.0 end.0 × (pair.1 ≡ end.1) → Contains ends end
    back h = let k = h.0 in (are end).1 (k.1, (k.0, k.2, k.3), (k.4.0, pair_is end.0 end.1 k.1.to pair.1 (sym k.4.1) (sym h.1)))

ends_lead_b : (a b : RoleParts) (pair : ℕ × ℕ) (ends : List (ℕ × ℕ)) → AreEnds B pair b.arcs ends → (end : ℕ × ℕ) → Contains ends end ↔ LeadsTo a b (Some B) pair end
ends_lead_b a b pair ends are end = (there, back)
  where
    there : Contains ends end → HasArc b.arcs pair.1 end.1 × (pair.0 ≡ end.0)
    there h = let k = (are end).0 h in let e : end ≡ (pair.0, k.0.to) = k.2.1 in ((k.1.0, k.0, k.1.1, k.1.2, (k.2.0, sym (ap (λ (p : ℕ × ℕ). p.1) e))), sym (ap (λ (p : ℕ × ℕ). p.0) e))

    back : HasArc b.arcs pair.1 end.1 × (pair.0 ≡ end.0) → Contains ends end
    back h = let k = h.0 in (are end).1 (k.1, (k.0, k.2, k.3), (k.4.0, pair_is end.0 end.1 pair.0 k.1.to (sym h.1) (sym k.4.1)))

-- the ends of a side's arcs are where an OR node of that side leads
pub ends_lead : (a b : RoleParts) (found : Option Side) (side : Side) (pair : ℕ × ℕ) (ends : List (ℕ × ℕ)) → found ≡ Some side → AreEnds side pair (arcs_of side a b) ends → (end : ℕ × ℕ) → Contains ends end ↔ LeadsTo a b found pair end
ends_lead a b found side pair ends e are = subst (λ (s : Option Side). (end : ℕ × ℕ) → Contains ends end ↔ LeadsTo a b s pair end) (sym e) (by side are)
  where
    by : (side : Side) → AreEnds side pair (arcs_of side a b) ends → (end : ℕ × ℕ) → Contains ends end ↔ LeadsTo a b (Some side) pair end
    by A k = ends_lead_a a b pair ends k
    by B k = ends_lead_b a b pair ends k

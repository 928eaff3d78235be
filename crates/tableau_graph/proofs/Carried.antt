-- What next-times carry, and the OR nodes that a row's members lead to.
use Rattle.std.proofs.Common.{ℕ, suc, ◌≡◌, ◌⊎◌, ◌<◌, ◌≤◌, ◌+◌, ◌++◌, ◌&&◌, inl, inr, Bool, true, false, Option, Some, None, List, [], ◌∷◌, length, length-append, add-one, subst, sym, ◌∙◌, ap, arith, slice_get}
use Rattle.std.specs.Option.{option_to_list}
use Rattle.std.proofs.lemmas.Bool.{cases_lt, and_from}
use Rattle.std.proofs.lemmas.List.{append-nil}
use Rattle.pair_structure.specs.declared.side.Side.{Side}
use Rattle.ctl_form.specs.declared.part.Part.{Part}
use Rattle.ctl_form.specs.declared.part.Part.TheVariants.{Yes, Next}
use Rattle.closure_sets.specs.ClosureParts.{ClosureParts, count}
use Rattle.closure_sets.specs.Expansion.{no_members}
use Rattle.closure_sets.specs.Full.{Has}
use Rattle.closure_sets.specs.Label.{part_of}
use Rattle.closure_sets.specs.Row.{Members, add, set_of}
use Rattle.closure_sets.proofs.Closures.{member_of}
use Rattle.closure_sets.proofs.Sets.{add_keeps, add_same, add_back}
use Rattle.tableau_graph.specs.Growing.{IsCarriedBelow, IsCarriedTo, IsNextNode, AreNextNodes}
use Rattle.tableau_graph.specs.Rules.{IsCarried, IsSuccessor}
use Rattle.tableau_graph.specs.TableauParts.{row_of, is_some_next, one_more, somes_below}
use Rattle.tableau_graph.specs.declared.nodes.AndNode.{AndNode}
use Rattle.tableau_graph.specs.declared.nodes.OrNode.{OrNode}
use Rattle.tableau_graph.proofs.Places.{kept_before, stands_last}

same_member : (all all' : Bool) (s s' : Side) (f f' : ℕ) → Next all s f ≡ Next all' s' f' → f ≡ f'
same_member all all' s s' f f' e = cc

same_side : (all all' : Bool) (s s' : Side) (f f' : ℕ) → Next all s f ≡ Next all' s' f' → s ≡ s'
same_side all all' s s' f f' e = cc

pub no_part : (all : Bool) (s : Side) (f : ℕ) → Yes ≡ Next all s f → ⊥
no_part all s f e = cc

-- one member more is carried
pub carried_added : (side : Side) (part : Part) (has : Bool) (before after : Members) (f : ℕ) → has ≡ true → part ≡ Next true side f → after ≡ add before f → IsCarriedTo side part has before after
carried_added side part has before after f held is e j = (there, back)
  where
    there : Has after j → Has before j ⊎ ((has ≡ true) × (part ≡ Next true side j))
    there h = elim (add_back before f j (subst (λ (m : Members). m j ≡ true) e h)) [ inl new ↦ inr (held, is ∙ ap (λ (k : ℕ). Next true side k) (sym new)) | inr old ↦ inl old ]

    added : Has before j ⊎ ((has ≡ true) × (part ≡ Next true side j)) → Has (add before f) j
    added (inl old) = add_keeps before f j old
    added (inr new) = subst (λ (k : ℕ). add before f k ≡ true) (same_member true true side side f j (sym is ∙ new.1)) (add_same before f)

    back : Has before j ⊎ ((has ≡ true) × (part ≡ Next true side j)) → Has after j
    back h = subst (λ (m : Members). m j ≡ true) (sym e) (added h)

pub carried_none : (c : ClosureParts) (row : Members) (side : Side) (set : Members) → set ≡ no_members → IsCarriedBelow c row side 0 set
carried_none c row side set e j = ((λ h. absurd (let f : false ≡ true = subst (λ (m : Members). m j ≡ true) e h in cc)), (λ k. absurd (let lt : k.0 < 0 = k.1 in omega (arith, lt))))

-- what members below n carry, and member n
pub carried_step : (c : ClosureParts) (row : Members) (side : Side) (n : ℕ) (part : Part) (has : Bool) (before after : Members) → part ≡ part_of c n → has ≡ row n → IsCarriedBelow c row side n before → IsCarriedTo side part has before after → IsCarriedBelow c row side (n + 1) after
carried_step c row side n part has before after part_is has_is below told j = (there, back)
  where
    to : IsCarriedTo side (part_of c n) (row n) before after
    to = subst (λ (b : Bool). IsCarriedTo side (part_of c n) b before after) has_is (subst (λ (p : Part). IsCarriedTo side p has before after) part_is told)

    there : Has after j → (x : ℕ) × (x < n + 1) × (part_of c x ≡ Next true side j) × Has row x
    there h = elim ((to j).0 h) [ inl old ↦ (let k = (below j).0 old in let lt : k.0 < n = k.1 in (k.0, omega (arith, lt), k.2, k.3)) | inr new ↦ (n, omega arith, new.1, new.0) ]

    back : ((x : ℕ) × (x < n + 1) × (part_of c x ≡ Next true side j) × Has row x) → Has after j
    back k = elim (cases_lt k.0 n) [
      | inl lt ↦ (to j).1 (inl ((below j).1 (k.0, lt, k.2, k.3)))
      | inr ge ↦ (let up : k.0 < n + 1 = k.1 in let le : n ≤ k.0 = ge in let at : k.0 ≡ n = omega (arith, up, le) in (to j).1 (inr (subst (λ (x : ℕ). row x ≡ true) at k.3, subst (λ (x : ℕ). part_of c x ≡ Next true side j) at k.2)))
    ]

-- what all members carry, and h
carried_whole : (c : ClosureParts) (row : Members) (side : Side) (h : ℕ) (carried seed : Members) → IsCarriedBelow c row side (count c) carried → seed ≡ add carried h → IsCarried c row side h seed
carried_whole c row side h carried seed below e j = (there, back)
  where
    there : Has seed j → (j ≡ h) ⊎ ((x : ℕ) × (part_of c x ≡ Next true side j) × Has row x)
    there k = elim (add_back carried h j (subst (λ (m : Members). m j ≡ true) e k)) [ inl here ↦ inl here | inr old ↦ (let w = (below j).0 old in inr (w.0, w.2, w.3)) ]

    added : (j ≡ h) ⊎ ((x : ℕ) × (part_of c x ≡ Next true side j) × Has row x) → Has (add carried h) j
    added (inl here) = subst (λ (k : ℕ). add carried h k ≡ true) (sym here) (add_same carried h)
    added (inr w) = add_keeps carried h j ((below j).1 (w.0, member_of c w.0 (Next true side j) w.1 (no_part true side j), w.1, w.2))

    back : (j ≡ h) ⊎ ((x : ℕ) × (part_of c x ≡ Next true side j) × Has row x) → Has seed j
    back k = subst (λ (m : Members). m j ≡ true) (sym e) (added k)

-- the OR node for a member of the row that is some EXs h
pub next_found : (c : ClosureParts) (node : AndNode) (i h : ℕ) (side : Side) (carried : Members) (o : OrNode) → row_of node i ≡ true → part_of c i ≡ Next false side h → IsCarriedBelow c (row_of node) side (count c) carried → o ≡ record { side = Some side; a = node.a; b = node.b; row = o.row } → set_of o.row.words ≡ add carried h → IsNextNode c node i (Some o)
next_found c node i h side carried o has is below whole seed = (and_from (row_of node i) (is_some_next (part_of c i)) has (ap is_some_next is), at)
  where
    at : (h' : ℕ) (side' : Side) → part_of c i ≡ Next false side' h' → IsSuccessor c node side' h' o
    at h' side' is' =
        let same_h : h ≡ h' = same_member false false side side' h h' (sym is ∙ is') in
        let same_s : side ≡ side' = same_side false false side side' h h' (sym is ∙ is') in
        record {
          sided = ap (λ (x : OrNode). x.side) whole ∙ ap (λ (s : Side). Some s) same_s;
          origin = ap (λ (x : OrNode). (x.a, x.b)) whole;
          seed = subst (λ (s : Side). IsCarried c (row_of node) s h' (set_of o.row.words)) same_s (subst (λ (k : ℕ). IsCarried c (row_of node) side k (set_of o.row.words)) same_h (carried_whole c (row_of node) side h carried (set_of o.row.words) below seed));
        }

false_true : false ≡ true → ⊥
false_true e = cc

-- the OR nodes for the members below n, and for member n
next_suc : (c : ClosureParts) (node : AndNode) (n : ℕ) (nodes nodes' : List OrNode) (found : Option OrNode) → AreNextNodes c node n nodes → IsNextNode c node n found → nodes' ≡ nodes ++ option_to_list found → AreNextNodes c node (suc n) nodes'
next_suc c node n nodes nodes' None are is e = subst (AreNextNodes c node (suc n)) (sym (e ∙ append-nil nodes)) (record { long = long; each = each })
  where
    long : length nodes ≡ somes_below c (row_of node) (suc n)
    long = are.long ∙ sym (ap (λ (b : Bool). one_more b (somes_below c (row_of node) n)) is)

    each : (i h : ℕ) (side : Side) → i < suc n → part_of c i ≡ Next false side h → Has (row_of node) i → (o : OrNode) × (slice_get nodes (somes_below c (row_of node) i) ≡ Some o) × IsSuccessor c node side h o
    each i h side lt part has = elim (cases_lt i n) [ inl below ↦ are.each i h side below part has | inr ge ↦ absurd (let le : n ≤ i = ge in let at : i ≡ n = omega (arith, lt, le) in false_true (sym is ∙ subst (λ (k : ℕ). (row_of node k && is_some_next (part_of c k)) ≡ true) at (and_from (row_of node i) (is_some_next (part_of c i)) has (ap is_some_next part)))) ]
next_suc c node n nodes nodes' (Some o) are is e = subst (AreNextNodes c node (suc n)) (sym e) (record { long = long; each = each })
  where
    long : length (nodes ++ o ∷ []) ≡ somes_below c (row_of node) (suc n)
    long = let l : length nodes ≡ somes_below c (row_of node) n = are.long in let one : one_more (row_of node n && is_some_next (part_of c n)) (somes_below c (row_of node) n) ≡ suc (somes_below c (row_of node) n) = ap (λ (b : Bool). one_more b (somes_below c (row_of node) n)) is.0 in let more : length (nodes ++ o ∷ []) ≡ suc (somes_below c (row_of node) n) = omega (arith, l, length-append nodes (o ∷ [])) in more ∙ sym one

    each : (i h : ℕ) (side : Side) → i < suc n → part_of c i ≡ Next false side h → Has (row_of node) i → (x : OrNode) × (slice_get (nodes ++ o ∷ []) (somes_below c (row_of node) i) ≡ Some x) × IsSuccessor c node side h x
    each i h side lt part has = elim (cases_lt i n) [ inl below ↦ (let k = are.each i h side below part has in (k.0, kept_before nodes (o ∷ []) (somes_below c (row_of node) i) k.0 k.1, k.2)) | inr ge ↦ last (let le : n ≤ i = ge in omega (arith, lt, le)) ]
      where
        last : i ≡ n → (x : OrNode) × (slice_get (nodes ++ o ∷ []) (somes_below c (row_of node) i) ≡ Some x) × IsSuccessor c node side h x
        last at =
            let place : length nodes ≡ somes_below c (row_of node) i = are.long ∙ ap (somes_below c (row_of node)) (sym at) in
            (o, subst (λ (k : ℕ). slice_get (nodes ++ o ∷ []) k ≡ Some o) place (stands_last nodes o), is.1 h side (subst (λ (k : ℕ). part_of c k ≡ Next false side h) at part))

pub next_step : (c : ClosureParts) (node : AndNode) (n : ℕ) (nodes nodes' : List OrNode) (found : Option OrNode) → AreNextNodes c node n nodes → IsNextNode c node n found → nodes' ≡ nodes ++ option_to_list found → AreNextNodes c node (n + 1) nodes'
next_step c node n nodes nodes' found are is e = subst (λ (k : ℕ). AreNextNodes c node k nodes') (sym (add-one n)) (next_suc c node n nodes nodes' found are is e)

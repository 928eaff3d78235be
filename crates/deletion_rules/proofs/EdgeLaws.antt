-- Edges put down the other way round, one after the other.
use Rattle.std.proofs.Common.{ℕ, suc, ◌≡◌, ◌⊎◌, ◌<◌, ◌≤◌, ◌+◌, ◌++◌, inl, inr, true, false, List, [], ◌∷◌, Contains, length, refl, subst, sym, ◌∙◌, ap, add-one, arith, slice_index_or}
use Rattle.std.proofs.lemmas.Bool.{and_parts, and_from}
use Rattle.std.proofs.Math.Decide.{dec_lt, ℕ_discrete}
use Rattle.std.proofs.lemmas.Grind.{get_or_default_zero}
use Rattle.std.proofs.lemmas.List.Elements.{Contains-append_left, Contains-append_right, Contains-push_cases}
use Rattle.closure_sets.specs.ClosureParts.{count}
use Rattle.closure_sets.specs.Label.{part_of}
use Rattle.closure_sets.proofs.Closures.{next_lt}
use Rattle.tableau_graph.specs.Graph.{graph_of}
use Rattle.tableau_graph.specs.Rules.{IsTableau}
use Rattle.tableau_graph.specs.TableauParts.{TableauParts, and_at, edges_at, is_some_next, one_more, row_of, somes_below}
use Rattle.deletion_rules.specs.inside.Edges.{arrow_of, is_next, AreArrows, AreParents, IsArrow, IsParent, Leads}
use Rattle.pair_structure.specs.Lists.{list_at, AreEmpty}
use Rattle.deletion_rules.specs.inside.Prefix.{StandsBefore}
use Rattle.deletion_rules.specs.declared.edges.Arrow.{Arrow}
use Rattle.deletion_rules.proofs.Seen.{next_of_part}
use Rattle.deletion_rules.proofs.Within.{next_below}
use Rattle.deletion_rules.proofs.Standing.{no_yes, none_before, stands_all, stands_cases, stands_here, stands_in, stands_more}

nothing : {A : Type 0} (lists : List (List A)) (k : ℕ) (x : A) → list_at lists k ≡ [] → Contains (list_at lists k) x → ⊥
nothing lists k x e h = let none : Contains [] x = subst (λ l. Contains l x) e h in omega (arith, none.1)

-- one list has one item more
pub record Grows {A : Type 0} (before after : List (List A)) (at : ℕ) (item : A) : Type 0 where
  pub size : length after ≡ length before
  pub here : list_at after at ≡ list_at before at ++ item ∷ []
  pub elsewhere : (k : ℕ) → (at ≡ k → ⊥) → list_at after k ≡ list_at before k

pub grows_kept : {A : Type 0} (before after : List (List A)) (at : ℕ) (item : A) (k : ℕ) (x : A) → Grows before after at item → Contains (list_at before k) x → Contains (list_at after k) x
grows_kept before after at item k x g h = elim (ℕ_discrete at k) [ yes q ↦ subst (λ i. Contains (list_at after i) x) q (subst (λ l. Contains l x) (sym g.here) (Contains-append_left (list_at before at) (item ∷ []) x (subst (λ i. Contains (list_at before i) x) (sym q) h))) | no n ↦ subst (λ l. Contains l x) (sym (g.elsewhere k n)) h ]

pub grows_new : {A : Type 0} (before after : List (List A)) (at : ℕ) (item : A) → Grows before after at item → Contains (list_at after at) item
grows_new before after at item g = subst (λ l. Contains l item) (sym g.here) (Contains-append_right (list_at before at) (item ∷ []) item (0, omega arith, refl))

pub grows_cases : {A : Type 0} (before after : List (List A)) (at : ℕ) (item : A) (k : ℕ) (x : A) → Grows before after at item → Contains (list_at after k) x → Contains (list_at before k) x ⊎ ((at ≡ k) × (item ≡ x))
grows_cases before after at item k x g h = elim (ℕ_discrete at k) [ yes q ↦ elim (Contains-push_cases (list_at before at) item x (subst (λ l. Contains l x) g.here (subst (λ i. Contains (list_at after i) x) (sym q) h))) [ inl b ↦ inl (subst (λ i. Contains (list_at before i) x) q b) | inr e ↦ inr (q, e) ] | no n ↦ inl (subst (λ l. Contains l x) (g.elsewhere k n) h) ]

-- the parents among the first k OR nodes, and the OR node `or` as a parent of its first children
pub record AddsParent (t : TableauParts) (or place : ℕ) (items : List ℕ) (parents : List (List ℕ)) : Type 0 where
  pub long : length parents ≡ length t.ands
  pub each : (n o : ℕ) → Contains (list_at parents n) o → IsParent t or n o ⊎ ((o ≡ or) × StandsBefore items place n)
  pub old : (n o : ℕ) → IsParent t or n o → Contains (list_at parents n) o
  pub new : (n : ℕ) → StandsBefore items place n → Contains (list_at parents n) or

pub parents_none : (t : TableauParts) (parents : List (List ℕ)) → AreEmpty (length t.ands) parents → AreParents t 0 parents
parents_none t parents e = record { long = e.0; each = λ n o h. absurd (nothing parents n o (e.1 n) h); all = λ n o h. absurd (let lt = h.0 in omega (arith, lt)) }

pub child_begin : (t : TableauParts) (or : ℕ) (items : List ℕ) (parents : List (List ℕ)) → AreParents t or parents → AddsParent t or 0 items parents
child_begin t or items parents h = record { long = h.long; each = λ n o c. inl (h.each n o c); old = h.all; new = λ n s. absurd (none_before items n s) }

pub child_step : (t : TableauParts) (or k : ℕ) (items : List ℕ) (parents more : List (List ℕ)) → k < length items → AddsParent t or k items parents → Grows parents more (slice_index_or items k 0) or → AddsParent t or (k + 1) items more
child_step t or k items parents more lt h g = record { long = g.size ∙ h.long; each = each; old = λ n o p. grows_kept parents more child or n o g (h.old n o p); new = new }
  where
    child : ℕ
    child = slice_index_or items k 0

    at : slice_index_or items k child ≡ child
    at = get_or_default_zero items k child lt

    each : (n o : ℕ) → Contains (list_at more n) o → IsParent t or n o ⊎ ((o ≡ or) × StandsBefore items (k + 1) n)
    each n o c = elim (grows_cases parents more child or n o g c) [ inl b ↦ elim (h.each n o b) [ inl p ↦ inl p | inr s ↦ inr (s.0, stands_more items k n s.1) ] | inr q ↦ inr (sym q.1, stands_here items k n child lt at (sym q.0)) ]

    new : (n : ℕ) → StandsBefore items (k + 1) n → Contains (list_at more n) or
    new n s = elim (stands_cases items k n child lt at s) [ inl b ↦ grows_kept parents more child or n or g (h.new n b) | inr q ↦ subst (λ i. Contains (list_at more i) or) (sym q) (grows_new parents more child or g) ]

pub child_end : (t : TableauParts) (or k : ℕ) (items : List ℕ) (parents : List (List ℕ)) → items ≡ edges_at t.children or → length items ≤ k → AddsParent t or k items parents → AreParents t (or + 1) parents
child_end t or k items parents e le h = record { long = h.long; each = each; all = all }
  where
    each : (n o : ℕ) → Contains (list_at parents n) o → IsParent t (or + 1) n o
    each n o c = elim (h.each n o c) [ inl p ↦ (let lt = p.0 in (omega (arith, lt), p.1)) | inr s ↦ (let q = s.0 in (omega (arith, q), subst (λ i. Contains (edges_at t.children i) n) (sym q) (subst (λ (l : List ℕ). Contains l n) e (stands_in items k n s.1)))) ]

    all : (n o : ℕ) → IsParent t (or + 1) n o → Contains (list_at parents n) o
    all n o p = elim (dec_lt o or) [ yes b ↦ h.old n o (b, p.1) | no g ↦ (let lt = p.0 in let q : or ≡ o = omega (arith, lt, g) in subst (λ i. Contains (list_at parents n) i) q (h.new n (stands_all items k n le (subst (λ (l : List ℕ). Contains l n) (sym e) (subst (λ i. Contains (edges_at t.children i) n) (sym q) p.1))))) ]

-- the arrows of the nodes below n, and those of node n for its members below i
pub record AddsArrows (t : TableauParts) (n i : ℕ) (arrows : List (List Arrow)) : Type 0 where
  pub long : length arrows ≡ length t.ors
  pub each : (o : ℕ) (arrow : Arrow) → Contains (list_at arrows o) arrow → IsArrow t o arrow
  pub old : (m j o : ℕ) → m < n → Leads t m j o → Contains (list_at arrows o) (arrow_of m j)
  pub new : (j o : ℕ) → j < i → Leads t n j o → Contains (list_at arrows o) (arrow_of n j)

pub arrows_none : (t : TableauParts) (arrows : List (List Arrow)) → AreEmpty (length t.ors) arrows → AreArrows t 0 arrows
arrows_none t arrows e = record { long = e.0; each = λ o arrow h. absurd (nothing arrows o arrow (e.1 o) h); all = λ m j o lt h. absurd (omega (arith, lt)) }

pub arrow_begin : (t : TableauParts) (n : ℕ) (arrows : List (List Arrow)) → AreArrows t n arrows → AddsArrows t n 0 arrows
arrow_begin t n arrows h = record { long = h.long; each = h.each; old = h.all; new = λ j o lt l. absurd (omega (arith, lt)) }

-- a member that is some EXs h
leads_next : (t : TableauParts) (n i : ℕ) → n < length t.ands → is_next t n i ≡ true → Leads t n i ((graph_of t).next_or n i)
leads_next t n i small e =
    let b = and_parts (row_of (and_at t.ands n) i) (is_some_next (part_of t.closure i)) e in
    let p = next_of_part (part_of t.closure i) b.1 in
    ((p.0, p.1, record { node = small; member = b.0; part = p.2 }), refl)

next_leads : (t : TableauParts) (n i o : ℕ) → Leads t n i o → is_next t n i ≡ true
next_leads t n i o l = and_from (row_of (and_at t.ands n) i) (is_some_next (part_of t.closure i)) l.0.2.member (ap is_some_next l.0.2.part)

pub arrow_step : (t : TableauParts) (n i o : ℕ) (arrows more : List (List Arrow)) → n < length t.ands → is_next t n i ≡ true → o ≡ (graph_of t).next_or n i → AddsArrows t n i arrows → Grows arrows more o (arrow_of n i) → AddsArrows t n (i + 1) more
arrow_step t n i o arrows more small e at h g = record {
  long = g.size ∙ h.long;
  each = λ p arrow c. elim (grows_cases arrows more o (arrow_of n i) p arrow g c) [ inl b ↦ h.each p arrow b | inr q ↦ here p arrow q.0 q.1 ];
  old = λ m j p lt l. grows_kept arrows more o (arrow_of n i) p (arrow_of m j) g (h.old m j p lt l);
  new = new;
}
  where
    here : (p : ℕ) (arrow : Arrow) → o ≡ p → arrow_of n i ≡ arrow → IsArrow t p arrow
    here p arrow q r = subst (IsArrow t p) r (subst (Leads t n i) (sym at ∙ q) (leads_next t n i small e))

    new : (j p : ℕ) → j < i + 1 → Leads t n j p → Contains (list_at more p) (arrow_of n j)
    new j p lt l = elim (dec_lt j i) [ yes b ↦ grows_kept arrows more o (arrow_of n i) p (arrow_of n j) g (h.new j p b l) | no k ↦ (let q : i ≡ j = omega (arith, lt, k) in let z : o ≡ p = at ∙ ap ((graph_of t).next_or n) q ∙ l.1 in subst (λ x. Contains (list_at more p) (arrow_of n x)) q (subst (λ x. Contains (list_at more x) (arrow_of n i)) z (grows_new arrows more o (arrow_of n i) g))) ]

pub arrow_passed : (t : TableauParts) (n i : ℕ) (arrows : List (List Arrow)) → is_next t n i ≡ false → AddsArrows t n i arrows → AddsArrows t n (i + 1) arrows
arrow_passed t n i arrows e h = record { long = h.long; each = h.each; old = h.old; new = new }
  where
    new : (j p : ℕ) → j < i + 1 → Leads t n j p → Contains (list_at arrows p) (arrow_of n j)
    new j p lt l = elim (dec_lt j i) [ yes b ↦ h.new j p b l | no k ↦ absurd (let q : j ≡ i = omega (arith, lt, k) in no_yes (sym e ∙ subst (λ x. is_next t n x ≡ true) q (next_leads t n j p l))) ]

pub arrow_end : (t : TableauParts) (n i : ℕ) (arrows : List (List Arrow)) → count t.closure ≤ i → AddsArrows t n i arrows → AreArrows t (n + 1) arrows
arrow_end t n i arrows le h = record { long = h.long; each = h.each; all = all }
  where
    all : (m j o : ℕ) → m < n + 1 → Leads t m j o → Contains (list_at arrows o) (arrow_of m j)
    all m j o lt l = elim (dec_lt m n) [ yes b ↦ h.old m j o b l | no k ↦ (let q : n ≡ m = omega (arith, lt, k) in subst (λ x. Contains (list_at arrows o) (arrow_of x j)) q (h.new j o (let b = next_lt t.closure j l.0.0 false l.0.1 l.0.2.part in omega (arith, b, le)) (subst (λ x. Leads t x j o) (sym q) l))) ]

-- the OR node that the successor at the place of a member is
pub arrow_at : (t : TableauParts) (n i place o : ℕ) → o ≡ slice_index_or (edges_at t.successors n) place 0 → place ≡ somes_below t.closure (row_of (and_at t.ands n)) i → o ≡ (graph_of t).next_or n i
arrow_at t n i place o e p = e ∙ ap (λ x. slice_index_or (edges_at t.successors n) x 0) p

pub arrow_below : (t : TableauParts) → IsTableau t → (n i o : ℕ) → n < length t.ands → is_next t n i ≡ true → o ≡ (graph_of t).next_or n i → o < length t.ors
arrow_below t k n i o small e at = let l = leads_next t n i small e in let some = l.0.2 in let lt = next_below t k n i l.0.0 l.0.1 small some.part some.member in subst (λ x. x < length t.ors) (sym at) lt

-- the place of the next member
pub place_next : (t : TableauParts) (n i place more : ℕ) → place ≡ somes_below t.closure (row_of (and_at t.ands n)) i → is_next t n i ≡ true → more ≡ place + 1 → more ≡ somes_below t.closure (row_of (and_at t.ands n)) (i + 1)
place_next t n i place more e f grown = let s = somes_below t.closure (row_of (and_at t.ands n)) in grown ∙ add-one place ∙ ap (λ x. suc x) e ∙ ap (λ b. one_more b (s i)) (sym f) ∙ ap s (sym (add-one i))

pub place_same : (t : TableauParts) (n i place : ℕ) → place ≡ somes_below t.closure (row_of (and_at t.ands n)) i → is_next t n i ≡ false → place ≡ somes_below t.closure (row_of (and_at t.ands n)) (i + 1)
place_same t n i place e f = let s = somes_below t.closure (row_of (and_at t.ands n)) in e ∙ ap (λ b. one_more b (s i)) (sym f) ∙ ap s (sym (add-one i))

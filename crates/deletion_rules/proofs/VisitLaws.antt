-- Nodes are visited along arrows, one after the other.
use Rattle.std.proofs.Common.{ℕ, ◌≡◌, ◌≢◌, ◌⊎◌, ◌<◌, ◌≤◌, ◌+◌, ◌++◌, inl, inr, Bool, true, false, cond, Option, Some, None, List, [], ◌∷◌, Contains, length, length-append, length-set, refl, subst, sym, ◌∙◌, arith, is_none, is_some, slice_index_or, slice_set, ◌&&◌, ◌↔◌, IsTrue}
use Rattle.std.proofs.lemmas.Bool.{and_parts}
use Rattle.std.proofs.Math.Decide.{ℕ_discrete}
use Rattle.std.proofs.lemmas.Grind.{get_or_default_zero}
use Rattle.std.proofs.lemmas.List.{get_or_default, get_or-set_same, get_or-set_other}
use Rattle.std.proofs.lemmas.List.Elements.{Contains-append_left, Contains-append_right, Contains-push_cases}
use Rattle.std.proofs.lemmas.List.Sums.{sum_by-set}
use Rattle.closure_sets.specs.ClosureParts.{after}
use Rattle.closure_sets.specs.Full.{Has}
use Rattle.tableau_graph.specs.Graph.{graph_of}
use Rattle.tableau_graph.specs.Rules.{IsTableau}
use Rattle.tableau_graph.specs.TableauParts.{TableauParts, edges_at}
use Rattle.deletion_rules.specs.inside.Cursors.{flag_of, EachIs}
use Rattle.pair_structure.specs.Lists.{list_at}
use Rattle.deletion_rules.specs.inside.Prefix.{StandsBefore}
use Rattle.deletion_rules.specs.Marks.{lives_of, mark_at, open_count}
use Rattle.deletion_rules.specs.inside.Spread.{IsAdmitted, IsArrowTo, IsLed, IsLedBy, IsMarked, IsPassing, IsReaching, Visits}
use Rattle.deletion_rules.specs.inside.Tests.{has_member}
use Rattle.deletion_rules.specs.declared.edges.Arrow.{Arrow}
use Rattle.deletion_rules.specs.declared.target.Target.{Target}
use Rattle.deletion_rules.proofs.Basics.{no_some, some_same}
use Rattle.deletion_rules.proofs.Seen.{successor_hit, successor_there}
use Rattle.deletion_rules.proofs.Standing.{no_yes, none_before, stands_all, stands_cases}

-- one mark more is one node less that lacks one
open_set : (marks : List (Option ℕ)) (i r : ℕ) → i < length marks → mark_at marks i ≡ None → open_count (slice_set marks i (Some r)) + 1 ≡ open_count marks
open_set marks i r lt none =
    let counts : open_count (slice_set marks i (Some r)) + cond (is_none (mark_at marks i)) 1 0 ≡ open_count marks + 0 = sum_by-set (λ (mark : Option ℕ). cond (is_none mark) 1 0) marks i (Some r) None lt in
    let was_none = rw none at counts in
    omega (arith, was_none)

set_here : (marks : List (Option ℕ)) (i r : ℕ) → i < length marks → mark_at (slice_set marks i (Some r)) i ≡ Some r
set_here marks i r lt = get_or-set_same marks i (Some r) None lt

set_other : (marks : List (Option ℕ)) (i j r : ℕ) → j ≢ i → mark_at (slice_set marks i (Some r)) j ≡ mark_at marks j
set_other marks i j r ne = get_or-set_other marks i j (Some r) None ne

-- an arrow to one of the first k OR nodes of a list
abbrev pub IsArrowBefore : List (List Arrow) → List ℕ → ℕ → Arrow → Type 0
IsArrowBefore arrows ors k arrow = (o : ℕ) × StandsBefore ors k o × Contains (list_at arrows o) arrow

module _ (t : TableauParts) (lives reached : List Bool) (target : Target) (round : ℕ) where
  abbrev V : (Arrow → Type 0) → List (Option ℕ) → List ℕ → List (Option ℕ) → List ℕ → Type 0
  V Named before old after new = Visits t lives reached target round Named before old after new

  pub visits_none : (Named : Arrow → Type 0) (marks : List (Option ℕ)) (nodes : List ℕ) → ((arrow : Arrow) → Named arrow → ⊥) → V Named marks nodes marks nodes
  visits_none Named marks nodes none = record { long = refl; kept = λ n r e. e; added = λ n r e. inl e; listed = λ n c. c; fresh = λ n c. inl c; all = λ arrow h a. absurd (none arrow h); fewer = refl }

  pub visits_same : (P Q : Arrow → Type 0) (b a : List (Option ℕ)) (old new : List ℕ) → ((arrow : Arrow) → Q arrow → P arrow) → V P b old a new → V Q b old a new
  visits_same P Q b a old new from h = record { long = h.long; kept = h.kept; added = h.added; listed = h.listed; fresh = h.fresh; all = λ arrow q. h.all arrow (from arrow q); fewer = h.fewer }

  pub visits_then : (P Q R : Arrow → Type 0) (b a a' : List (Option ℕ)) (old mid new : List ℕ) → ((arrow : Arrow) → R arrow → P arrow ⊎ Q arrow) → V P b old a mid → V Q a mid a' new → V R b old a' new
  visits_then P Q R b a a' old mid new cases h k = record {
    long = k.long ∙ h.long;
    kept = λ n r e. k.kept n r (h.kept n r e);
    added = λ n r e. elim (k.added n r e) [ inl f ↦ elim (h.added n r f) [ inl g ↦ inl g | inr p ↦ inr (p.0, p.1, k.listed n p.2) ] | inr p ↦ inr p ];
    listed = λ n c. k.listed n (h.listed n c);
    fresh = λ n c. elim (k.fresh n c) [ inl f ↦ elim (h.fresh n f) [ inl g ↦ inl g | inr m ↦ inr (m.0, k.kept n m.0 m.1) ] | inr m ↦ inr m ];
    all = λ arrow r admitted. elim (cases arrow r) [ inl p ↦ (let m = h.all arrow p admitted in (m.0, k.kept arrow.node m.0 m.1)) | inr q ↦ k.all arrow q admitted ];
    fewer = k.fewer ∙ h.fewer;
  }

  -- nothing comes of an arrow
  pub visits_passed : (arrow : Arrow) (marks : List (Option ℕ)) (nodes : List ℕ) → (IsAdmitted t lives reached target arrow → IsMarked marks arrow.node) → V (λ other. other ≡ arrow) marks nodes marks nodes
  visits_passed arrow marks nodes h = record { long = refl; kept = λ n r e. e; added = λ n r e. inl e; listed = λ n c. c; fresh = λ n c. inl c; all = λ other q. subst (λ (x : Arrow). IsAdmitted t lives reached target x → IsMarked marks x.node) (sym q) h; fewer = refl }

  -- its node passes
  pub visits_new : (arrow : Arrow) (marks : List (Option ℕ)) (nodes new : List ℕ) → arrow.node < length marks → mark_at marks arrow.node ≡ None → IsPassing t lives reached target arrow.node → new ≡ nodes ++ arrow.node ∷ [] → V (λ other. other ≡ arrow) marks nodes (slice_set marks arrow.node (Some round)) new
  visits_new arrow marks nodes new lt none passes e = subst (V (λ other. other ≡ arrow) marks nodes (slice_set marks arrow.node (Some round))) (sym e) (record {
    long = length-set marks arrow.node (Some round);
    kept = kept;
    added = added;
    listed = λ n c. Contains-append_left nodes (i ∷ []) n c;
    fresh = λ n c. elim (Contains-push_cases nodes i n c) [ inl f ↦ inl f | inr q ↦ inr (subst (IsMarked marked) q (round, set_here marks i round lt)) ];
    all = λ other q admitted. subst (λ (x : Arrow). IsMarked marked x.node) (sym q) (round, set_here marks i round lt);
    fewer = omega (arith, open_set marks i round lt none, length-append nodes (i ∷ []));
  })
    where
      i : ℕ
      i = arrow.node

      marked : List (Option ℕ)
      marked = slice_set marks arrow.node (Some round)

      kept : (n r : ℕ) → mark_at marks n ≡ Some r → mark_at (slice_set marks arrow.node (Some round)) n ≡ Some r
      kept n r q = elim (ℕ_discrete n arrow.node) [ yes s ↦ absurd (no_some (sym none ∙ subst (λ x. mark_at marks x ≡ Some r) s q)) | no d ↦ set_other marks arrow.node n round d ∙ q ]

      added : (n r : ℕ) → mark_at (slice_set marks arrow.node (Some round)) n ≡ Some r → (mark_at marks n ≡ Some r) ⊎ ((r ≡ round) × IsPassing t lives reached target n × Contains (nodes ++ arrow.node ∷ []) n)
      added n r q = elim (ℕ_discrete n arrow.node) [ yes s ↦ inr (some_same (sym (subst (λ x. mark_at (slice_set marks arrow.node (Some round)) x ≡ Some r) s q) ∙ set_here marks arrow.node round lt), subst (IsPassing t lives reached target) (sym s) passes, subst (Contains (nodes ++ arrow.node ∷ [])) (sym s) (Contains-append_right nodes (arrow.node ∷ []) arrow.node (0, omega arith, refl))) | no d ↦ inl (sym (set_other marks arrow.node n round d) ∙ q) ]

  -- all arrows of a list
  pub arrows_begin : (arrows : List Arrow) (marks : List (Option ℕ)) (nodes : List ℕ) → V (StandsBefore arrows 0) marks nodes marks nodes
  arrows_begin arrows marks nodes = visits_none (StandsBefore arrows 0) marks nodes (λ arrow h. none_before arrows arrow h)

  pub arrows_step : (arrows : List Arrow) (k : ℕ) (arrow : Arrow) (b a a' : List (Option ℕ)) (old mid new : List ℕ) → k < length arrows → slice_index_or arrows k arrow ≡ arrow → V (StandsBefore arrows k) b old a mid → V (λ other. other ≡ arrow) a mid a' new → V (StandsBefore arrows (k + 1)) b old a' new
  arrows_step arrows k arrow b a a' old mid new lt at h s = visits_then (StandsBefore arrows k) (λ other. other ≡ arrow) (StandsBefore arrows (k + 1)) b a a' old mid new (λ other w. stands_cases arrows k other arrow lt at w) h s

  pub arrows_end : (arrows : List Arrow) (k : ℕ) (b a : List (Option ℕ)) (old new : List ℕ) → length arrows ≤ k → V (StandsBefore arrows k) b old a new → V (Contains arrows) b old a new
  arrows_end arrows k b a old new le h = visits_same (StandsBefore arrows k) (Contains arrows) b a old new (λ arrow c. stands_all arrows k arrow le c) h

  -- all arrows to OR nodes of a list
  pub ors_begin : (arrows : List (List Arrow)) (ors : List ℕ) (marks : List (Option ℕ)) (nodes : List ℕ) → V (IsArrowBefore arrows ors 0) marks nodes marks nodes
  ors_begin arrows ors marks nodes = visits_none (IsArrowBefore arrows ors 0) marks nodes (λ arrow h. none_before ors h.0 h.1)

  pub ors_step : (arrows : List (List Arrow)) (ors : List ℕ) (k : ℕ) (list : List Arrow) (b a a' : List (Option ℕ)) (old mid new : List ℕ) → k < length ors → list ≡ list_at arrows (slice_index_or ors k 0) → V (IsArrowBefore arrows ors k) b old a mid → V (Contains list) a mid a' new → V (IsArrowBefore arrows ors (k + 1)) b old a' new
  ors_step arrows ors k list b a a' old mid new lt e h s = visits_then (IsArrowBefore arrows ors k) (Contains list) (IsArrowBefore arrows ors (k + 1)) b a a' old mid new cases h s
    where
      cases : (arrow : Arrow) → IsArrowBefore arrows ors (k + 1) arrow → IsArrowBefore arrows ors k arrow ⊎ Contains list arrow
      cases arrow w = elim (stands_cases ors k w.0 (slice_index_or ors k 0) lt (get_or_default_zero ors k (slice_index_or ors k 0) lt) w.1) [ inl before ↦ inl (w.0, before, w.2) | inr q ↦ inr (subst (λ (l : List Arrow). Contains l arrow) (sym e) (subst (λ z. Contains (list_at arrows z) arrow) q w.2)) ]

  pub ors_end : (arrows : List (List Arrow)) (ors : List ℕ) (k : ℕ) (b a : List (Option ℕ)) (old new : List ℕ) → length ors ≤ k → V (IsArrowBefore arrows ors k) b old a new → V (IsArrowTo arrows ors) b old a new
  ors_end arrows ors k b a old new le h = visits_same (IsArrowBefore arrows ors k) (IsArrowTo arrows ors) b a old new (λ arrow w. (w.0, stands_all ors k w.0 le w.1, w.2)) h

-- an arrow that is admitted, to an OR node that is reached, lets its node pass
led_passes : (t : TableauParts) (reached : List Bool) (all : Bool) (u : ℕ) (arrow : Arrow) → IsReaching t reached arrow → IsLedBy t reached all u arrow → IsLed t reached all u arrow.node
led_passes t reached true u arrow to led = led
led_passes t reached false u arrow to led =
    let some = to.1.0.2 in
    let o : flag_of reached ((graph_of t).next_or arrow.node arrow.member) ≡ true = subst (λ x. flag_of reached x ≡ true) (sym to.1.1) to.2 in
    (led.0, subst (λ i. Has ((graph_of t).row arrow.node) i) led.1 some.member, subst (λ i. flag_of reached ((graph_of t).next_or arrow.node i) ≡ true) led.1 o)

pub admitted_passes : (t : TableauParts) (lives reached : List Bool) (target : Target) (arrow : Arrow) → IsReaching t reached arrow → IsAdmitted t lives reached target arrow → IsPassing t lives reached target arrow.node
admitted_passes t lives reached target arrow to h = record { living = h.living; member = h.member; f = h.f; led = led_passes t reached target.all target.member arrow to h.led }

-- what the code tests, where each successor has to be reached
pub each_admits : (t : TableauParts) → IsTableau t → (lives reached : List Bool) (target : Target) (arrow : Arrow) (items : List ℕ) (b : Bool) → IsReaching t reached arrow → lives_of lives arrow.node ≡ true → has_member t arrow.node target.member && has_member t arrow.node target.f ≡ true → target.all ≡ true → items ≡ edges_at t.successors arrow.node → IsTrue b ↔ EachIs reached true items → IsTrue b ↔ IsAdmitted t lives reached target arrow
each_admits t k lives reached target arrow items b to living has every e through = (yes_way, no_way)
  where
    small : arrow.node < length t.ands
    small = to.1.0.2.node

    led : EachIs reached true items → IsLed t reached true target.member arrow.node
    led f i h side some = f ((graph_of t).next_or arrow.node i) (subst (λ (l : List ℕ). Contains l ((graph_of t).next_or arrow.node i)) (sym e) (successor_there t k arrow.node i h side some))

    yes_way : IsTrue b → IsAdmitted t lives reached target arrow
    yes_way y = let m = and_parts (has_member t arrow.node target.member) (has_member t arrow.node target.f) has in record { living = living; member = m.0; f = m.1; led = subst (λ a. IsLedBy t reached a target.member arrow) (sym every) (led (through.0 y)) }

    each : IsLed t reached true target.member arrow.node → EachIs reached true items
    each f o there = let u = successor_hit t k arrow.node o small (subst (λ (l : List ℕ). Contains l o) e there) in subst (λ x. flag_of reached x ≡ true) u.4 (f u.0 u.1 u.2 u.3)

    no_way : IsAdmitted t lives reached target arrow → IsTrue b
    no_way a = through.1 (each (subst (λ z. IsLedBy t reached z target.member arrow) every a.led))

-- a mark that was read
some_of : (x : Option ℕ) → is_some x ≡ true → (r : ℕ) × (x ≡ Some r)
some_of (Some r) e = (r, refl)
some_of None e = absurd (no_yes e)

none_of : (x : Option ℕ) → is_some x ≡ false → x ≡ None
none_of None e = refl
none_of (Some r) e = absurd (no_yes (sym e))

pub read_some : (marks : List (Option ℕ)) (n : ℕ) (x : Option ℕ) → n < length marks → x ≡ slice_index_or marks n x → is_some x ≡ true → IsMarked marks n
read_some marks n x lt e some = let m = some_of x some in (m.0, get_or_default marks n None x lt ∙ sym e ∙ m.1)

pub read_none : (marks : List (Option ℕ)) (n : ℕ) (x : Option ℕ) → n < length marks → x ≡ slice_index_or marks n x → is_some x ≡ false → mark_at marks n ≡ None
read_none marks n x lt e none = get_or_default marks n None x lt ∙ sym e ∙ none_of x none

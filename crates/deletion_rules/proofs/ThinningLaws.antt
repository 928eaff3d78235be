-- Deletion of nodes of which a successor has no living child: each step is lawful.
use Rattle.std.proofs.Common.{ℕ, ◌≡◌, ◌⊎◌, ◌<◌, ◌+◌, ◌++◌, inl, inr, Bool, true, false, not, cond, List, [], ◌∷◌, Contains, length, length-append, length-set, refl, subst, sym, ◌∙◌, ap, arith, count_by, slice_index, slice_set}
use Rattle.std.proofs.Math.Decide.{ℕ_discrete}
use Rattle.std.proofs.lemmas.List.Elements.{Contains-push_cases}
use Rattle.std.proofs.lemmas.List.Sums.{sum_by-set}
use Rattle.tableau_graph.specs.Graph.{graph_of, IsGraph, ChildrenCover}
use Rattle.tableau_graph.specs.Rules.{IsTableau}
use Rattle.tableau_graph.specs.TableauParts.{IsWhole, TableauParts, edges_at}
use Rattle.deletion_rules.specs.inside.Cursors.{flag_of, AreCursors, EachIs}
use Rattle.deletion_rules.specs.Deletion.{IsSupported, LivesOr}
use Rattle.deletion_rules.specs.Marks.{lives_of}
use Rattle.deletion_rules.specs.Met.{MetLive}
use Rattle.deletion_rules.specs.inside.Thinning.{AreLost, AreNodes, Deletes, IsLosing, IsLost, IsThinned, Loses}
use Rattle.deletion_rules.specs.declared.edges.Arrow.{Arrow}
use Rattle.deletion_rules.specs.declared.thinning.Thinning.{Thinning}
use Rattle.deletion_rules.proofs.Removal.{removal_keeps_met}
use Rattle.deletion_rules.proofs.Standing.{flag_here, flag_other, no_yes}

-- an OR node, all of whose children are deleted
pub lost_of : (t : TableauParts) (lives : List Bool) (o : ℕ) (items : List ℕ) → items ≡ edges_at t.children o → EachIs lives false items → IsLost t lives o
lost_of t lives o items e each h = no_yes (sym (each h.0 (subst (λ (l : List ℕ). Contains l h.0) (sym e) h.1)) ∙ h.2)

-- fewer nodes have no more living children
pub lost_still : (t : TableauParts) (lives left : List Bool) (o : ℕ) → ((n : ℕ) → lives_of left n ≡ true → lives_of lives n ≡ true) → IsLost t lives o → IsLost t left o
lost_still t lives left o within lost h = lost (h.0, h.1, within h.0 h.2, h.3)

pub thinned_none : (t : TableauParts) (lives : List Bool) → IsThinned t lives lives
thinned_none t lives = record { long = refl; within = λ n e. e; met = λ whole m. m }

pub thinned_then : (t : TableauParts) (a b d : List Bool) → IsThinned t a b → IsThinned t b d → IsThinned t a d
thinned_then t a b d h k = record { long = k.long ∙ h.long; within = λ n e. h.within n (k.within n e); met = λ whole m. k.met whole (h.met whole m) }

without_within : (lives : List Bool) (n m : ℕ) → n < length lives → lives_of (slice_set lives n false) m ≡ true → lives_of lives m ≡ true
without_within lives n m lt e = elim (ℕ_discrete m n) [ yes q ↦ absurd (no_yes (sym (flag_here lives n false lt) ∙ subst (λ x. lives_of (slice_set lives n false) x ≡ true) q e)) | no d ↦ sym (flag_other lives n m false d) ∙ e ]

-- a node that an arrow to a lost OR node leaves is not supported
unsupported : (t : TableauParts) (lives : List Bool) (arrow : Arrow) → IsLosing t lives arrow → IsSupported t.closure (graph_of t) (lives_of lives) arrow.node → ⊥
unsupported t lives arrow h s = let a = h.1 in h.2 (subst (LivesOr (graph_of t) (lives_of lives)) a.1 (s.successors arrow.member a.0.0 a.0.1 a.0.2))

pub thinned_without : (t : TableauParts) → IsTableau t → IsGraph t.closure (graph_of t) → (IsWhole t → ChildrenCover t.a t.b t.closure (graph_of t)) → (lives : List Bool) (arrow : Arrow) → arrow.node < length lives → IsLosing t lives arrow → IsThinned t lives (slice_set lives arrow.node false)
thinned_without t k ok cover lives arrow lt losing = record { long = length-set lives arrow.node false; within = λ m e. without_within lives arrow.node m lt e; met = met }
  where
    gone : (m : ℕ) → m < length t.ands → lives_of (slice_set lives arrow.node false) m ≡ false → (lives_of lives m ≡ false) ⊎ (IsSupported t.closure (graph_of t) (lives_of lives) m → ⊥)
    gone m small e = elim (ℕ_discrete m arrow.node) [ yes q ↦ inr (λ s. unsupported t lives arrow losing (subst (IsSupported t.closure (graph_of t) (lives_of lives)) q s)) | no d ↦ inl (sym (flag_other lives arrow.node m false d) ∙ e) ]

    met : IsWhole t → MetLive t.a t.b t.closure (graph_of t) (lives_of lives) → MetLive t.a t.b t.closure (graph_of t) (lives_of (slice_set lives arrow.node false))
    met whole live = removal_keeps_met t.a t.b t.closure k.rules.closure (graph_of t) ok (cover whole) (lives_of lives) (lives_of (slice_set lives arrow.node false)) live gone

-- cursors that have passed deleted children
false_still : (lives left : List Bool) (x : ℕ) → ((n : ℕ) → lives_of left n ≡ true → lives_of lives n ≡ true) → flag_of lives x ≡ false → flag_of left x ≡ false
false_still lives left x within e = by (flag_of left x) refl
  where
    by : (b : Bool) → flag_of left x ≡ b → flag_of left x ≡ false
    by false q = q
    by true q = absurd (no_yes (sym e ∙ within x q))

pub cursors_still : (count : ℕ) (lists : List (List ℕ)) (lives left : List Bool) (cursors : List ℕ) → ((n : ℕ) → lives_of left n ≡ true → lives_of lives n ≡ true) → AreCursors count lists lives false cursors → AreCursors count lists left false cursors
cursors_still count lists lives left cursors within h = record { long = h.long; each = λ n lt. (let p = h.each n lt in record { within = p.within; passed = λ i small. false_still lives left (slice_index (edges_at lists n) i) within (p.passed i small) }) }

-- losing, an OR node at a time
pub loses_then : (t : TableauParts) (a b d : Thinning) (old mid new : List ℕ) → Loses t a old b mid → Loses t b mid d new → Loses t a old d new
loses_then t a b d old mid new h k = record { thinning = k.thinning; kept = k.kept ∙ h.kept; lost = λ l. subst (λ (x : List Bool). AreLost t x new) h.kept (k.lost (subst (λ (x : List Bool). AreLost t x mid) (sym h.kept) (h.lost l))); fewer = k.fewer ∙ h.fewer }

lost_set : (lost : List Bool) (o : ℕ) → o < length lost → flag_of lost o ≡ false → count_by not (slice_set lost o true) + 1 ≡ count_by not lost
lost_set lost o lt e =
    let counts : count_by not (slice_set lost o true) + cond (not (flag_of lost o)) 1 0 ≡ count_by not lost + 0 = sum_by-set (λ x. cond (not x) 1 0) lost o true false lt in
    let was_false = rw e at counts in
    omega (arith, was_false)

pub fewer_lost : (lost : List Bool) (o : ℕ) (ors new : List ℕ) → o < length lost → flag_of lost o ≡ false → new ≡ ors ++ o ∷ [] → count_by not (slice_set lost o true) + length new ≡ count_by not lost + length ors
fewer_lost lost o ors new lt e f = let q : length new ≡ length ors + 1 = ap length f ∙ length-append ors (o ∷ []) in omega (arith, q, lost_set lost o lt e)

pub lost_push : (t : TableauParts) (lives : List Bool) (o : ℕ) (ors new : List ℕ) → o < length t.ors → IsLost t lives o → new ≡ ors ++ o ∷ [] → AreLost t lives ors → AreLost t lives new
lost_push t lives o ors new lt lost f all p c = elim (Contains-push_cases ors o p (subst (λ (l : List ℕ). Contains l p) f c)) [ inl b ↦ all p b | inr q ↦ subst (λ x. (x < length t.ors) × IsLost t lives x) q (lt, lost) ]

-- deleting, a node at a time
pub deletes_then : (t : TableauParts) (a b d : Thinning) (old mid new : List ℕ) → Deletes t a old b mid → Deletes t b mid d new → Deletes t a old d new
deletes_then t a b d old mid new h k = record { thinning = k.thinning; thinned = thinned_then t a.lives.items b.lives.items d.lives.items h.thinned k.thinned; kept = k.kept ∙ h.kept; nodes = λ n. k.nodes (h.nodes n) }

pub nodes_push : (t : TableauParts) (n : ℕ) (nodes new : List ℕ) → n < length t.ands → new ≡ nodes ++ n ∷ [] → AreNodes t nodes → AreNodes t new
nodes_push t n nodes new lt f all m c = elim (Contains-push_cases nodes n m (subst (λ (l : List ℕ). Contains l m) f c)) [ inl b ↦ all m b | inr q ↦ subst (λ x. x < length t.ands) q lt ]

-- an arrow that was losing is so still
pub losing_still : (t : TableauParts) (a b : Thinning) (old new : List ℕ) (arrow : Arrow) → Deletes t a old b new → IsLosing t a.lives.items arrow → IsLosing t b.lives.items arrow
losing_still t a b old new arrow h l = (l.0, l.1, lost_still t a.lives.items b.lives.items l.0 h.thinned.within l.2)

-- what is lost at the outset, and after a round
pub lost_after : (t : TableauParts) (before after : Thinning) (ors : List ℕ) → Loses t before [] after ors → AreLost t after.lives.items ors
lost_after t before after ors h = subst (λ (x : List Bool). AreLost t x ors) (sym h.kept) (h.lost (λ o c. absurd (omega (arith, c.1))))

pub thinned_kept : (t : TableauParts) (a b d : Thinning) (old new : List ℕ) → IsThinned t a.lives.items b.lives.items → Loses t b old d new → IsThinned t a.lives.items d.lives.items
thinned_kept t a b d old new h l = subst (IsThinned t a.lives.items) (sym l.kept) h

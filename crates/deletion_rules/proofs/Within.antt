-- The nodes that a tableau's edges lead to.
use Rattle.std.proofs.Common.{ℕ, ◌≡◌, ◌<◌, false, List, Contains, length, subst, ap, arith, slice_index_or}
use Rattle.std.proofs.lemmas.Grind.{get_or_default_zero}
use Rattle.pair_structure.specs.declared.side.Side.{Side}
use Rattle.ctl_form.specs.declared.part.Part.TheVariants.{Next}
use Rattle.closure_sets.specs.Full.{Has}
use Rattle.closure_sets.specs.Label.{part_of}
use Rattle.tableau_graph.specs.Graph.{graph_of}
use Rattle.tableau_graph.specs.Rules.{IsTableau}
use Rattle.tableau_graph.specs.TableauParts.{TableauParts, and_at, edges_at, row_of}

pub Contains-at : (xs : List ℕ) (i : ℕ) → i < length xs → Contains xs (slice_index_or xs i 0)
Contains-at xs i lt = (i, lt, get_or_default_zero xs i (slice_index_or xs i 0) lt)

pub child_below : (t : TableauParts) → IsTableau t → (o i m : ℕ) (items : List ℕ) → o < length t.ors → items ≡ edges_at t.children o → i < length items → m ≡ length t.ands → slice_index_or items i 0 < m
child_below t k o i m items small e lt f =
    let lt' : i < length (edges_at t.children o) = subst (λ (l : List ℕ). i < length l) e lt in
    let all = k.all_ors in
    let within : slice_index_or (edges_at t.children o) i 0 < length t.ands = (k.rules.children o (omega (arith, small, all))).within (slice_index_or (edges_at t.children o) i 0) (Contains-at (edges_at t.children o) i lt') in
    let same : slice_index_or items i 0 ≡ slice_index_or (edges_at t.children o) i 0 = ap (λ (l : List ℕ). slice_index_or l i 0) e in
    omega (arith, within, same, f)

pub successor_below : (t : TableauParts) → IsTableau t → (n i : ℕ) (items : List ℕ) → n < length t.ands → items ≡ edges_at t.successors n → i < length items → slice_index_or items i 0 < length t.ors
successor_below t k n i items small e lt =
    let lt' : i < length (edges_at t.successors n) = subst (λ (l : List ℕ). i < length l) e lt in
    let all = k.all_ands in
    let within : slice_index_or (edges_at t.successors n) i 0 < length t.ors = (k.rules.successors n (omega (arith, small, all))).within (slice_index_or (edges_at t.successors n) i 0) (Contains-at (edges_at t.successors n) i lt') in
    let same : slice_index_or items i 0 ≡ slice_index_or (edges_at t.successors n) i 0 = ap (λ (l : List ℕ). slice_index_or l i 0) e in
    omega (arith, within, same)

pub successor_within : (t : TableauParts) → IsTableau t → (n o : ℕ) → n < length t.ands → Contains (edges_at t.successors n) o → o < length t.ors
successor_within t k n o small there = let all = k.all_ands in (k.rules.successors n (omega (arith, small, all))).within o there

pub child_within : (t : TableauParts) → IsTableau t → (o n : ℕ) → o < length t.ors → Contains (edges_at t.children o) n → n < length t.ands
child_within t k o n small there = let all = k.all_ors in (k.rules.children o (omega (arith, small, all))).within n there

-- the OR successor for a member EXs h of the row
pub next_below : (t : TableauParts) → IsTableau t → (n i h : ℕ) (side : Side) → n < length t.ands → part_of t.closure i ≡ Next false side h → Has (row_of (and_at t.ands n)) i → (graph_of t).next_or n i < length t.ors
next_below t k n i h side small p has =
    let all = k.all_ands in
    let s = k.rules.successors n (omega (arith, small, all)) in
    s.within ((graph_of t).next_or n i) (s.each i h side p has).0

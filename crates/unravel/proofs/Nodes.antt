-- Edges of a tableau lead to its nodes.
use Rattle.std.proofs.Common.{ℕ, ◌≡◌, ◌<◌, Bool, false, length, slice_index, arith}
use Rattle.std.proofs.lemmas.List.Elements.{Contains-get_or}
use Rattle.pair_structure.specs.declared.side.Side.{Side}
use Rattle.ctl_form.specs.declared.part.Part.TheVariants.{Until}
use Rattle.closure_sets.specs.ClosureParts.{after, count}
use Rattle.closure_sets.specs.Full.{Has}
use Rattle.closure_sets.specs.Label.{part_of}
use Rattle.tableau_graph.specs.Graph.{graph_of, IsSomeNext}
use Rattle.tableau_graph.specs.Rules.{IsTableau}
use Rattle.tableau_graph.specs.TableauParts.{TableauParts, edges_at}
use Rattle.tableau_graph.proofs.Expanded.{children_of, successor_within}

pub child_within : (t : TableauParts) → IsTableau t → (o k : ℕ) → k < length (edges_at t.children o) → slice_index (edges_at t.children o) k < length t.ands
child_within t tab o k lt = let h = Contains-get_or (edges_at t.children o) k 0 lt in (children_of t tab o (slice_index (edges_at t.children o) k) h).within (slice_index (edges_at t.children o) k) h

pub some_within : (t : TableauParts) → IsTableau t → (n i h : ℕ) (side : Side) → IsSomeNext t.closure (graph_of t) n i side h → (graph_of t).next_or n i < length t.ors
some_within t tab n i h side some = let lt = successor_within t tab n i h side some in let same : length t.children ≡ length t.ors = tab.all_ors in omega (arith, lt, same)

-- the next-time of an until is a member
pub after_small : (t : TableauParts) → IsTableau t → (u f g : ℕ) (all weak : Bool) (side : Side) → u < count t.closure → part_of t.closure u ≡ Until all weak f g → after t.closure side u < count t.closure
after_small t tab u f g all weak side lt p = (tab.rules.closure.nexts u f g all weak side lt p).0

-- along the next-time of an E until that a row has there is an OR node
pub kept_within : (t : TableauParts) → IsTableau t → (n u f g : ℕ) (weak : Bool) (side : Side) → n < length t.ands → u < count t.closure → part_of t.closure u ≡ Until false weak f g → Has ((graph_of t).row n) (after t.closure side u) → (graph_of t).next_or n (after t.closure side u) < length t.ors
kept_within t tab n u f g weak side node lt p has = some_within t tab n (after t.closure side u) u side (record { node = node; member = has; part = (tab.rules.closure.nexts u f g false weak side lt p).1 })

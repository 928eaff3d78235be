use Rattle.std.proofs.Common.{ℕ, ◌≡◌, ◌<◌, false, length, slice_index, take}
use Rattle.std.specs.List.{list_any}
use Rattle.tableau_graph.specs.TableauParts.{edges_at}
use Rattle.unravel.specs.inside.Choice.{is_lower_at}
use Rattle.unravel.proofs.keeper.has_lower.Given as goal

abbrev pub invariant-loop-child : goal.invariant-loop-child
invariant-loop-child l = (l.child-items ≡ edges_at l.ranks.tableau.children l.or) × (list_any (is_lower_at l.ranks l.member l.rank) (take l.child-index l.child-items) ≡ false) × ((k : ℕ) → k < length l.child-items → slice_index l.child-items k < length l.ranks.tableau.ands)

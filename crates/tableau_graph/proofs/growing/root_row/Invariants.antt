use Rattle.std.proofs.Common.{ℕ, ◌↔◌, Contains, take}
use Rattle.closure_sets.specs.Full.{Has}
use Rattle.closure_sets.specs.Row.{set_of}
use Rattle.tableau_graph.proofs.growing.root_row.Given as goal

abbrev pub invariant-loop-root : goal.invariant-loop-root
invariant-loop-root l = (j : ℕ) → Has (set_of l.row.words) j ↔ Contains (take l.root-index l.root-items) j

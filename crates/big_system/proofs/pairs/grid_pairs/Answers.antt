use Rattle.std.proofs.Common.{ℕ, ◌++◌, List, arith, sym, ◌∙◌, ap}
use Rattle.big_system.specs.Graphs.{pairs_of_cell}
use Rattle.big_system.proofs.Widths.{pairs_more}
use Rattle.big_system.proofs.pairs.grid_pairs.Goals as goal

pub loop-cell-preserved : goal.loop-cell-preserved
loop-cell-preserved c = record {
  pairs = c.in_ok-push_cell.ensures.pairs ∙ ap (λ (l : List (ℕ × ℕ)). l ++ pairs_of_cell c.args.width c.args.count c.loop-cell.cell) c.loop-cell.invariant.pairs ∙ sym (pairs_more c.args.width c.args.count c.loop-cell.cell);
  few = omega (arith, c.in_ok-push_cell.ensures.few, c.loop-cell.invariant.few);
}

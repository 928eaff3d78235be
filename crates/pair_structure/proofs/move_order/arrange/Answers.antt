use Rattle.std.proofs.lemmas.List.Filters.{dedup_is}
use Rattle.std.proofs.lemmas.List.Kept.{IsStrictlySortedBy-dedup}
use Rattle.pair_structure.specs.contracts.side.MoveEq.TheImpl.Laws.{laws-law}
use Rattle.pair_structure.specs.contracts.side.MoveOrd.TheImpl.Laws.{total-law, matches_eq-law}
use Rattle.pair_structure.proofs.Arranged.{Contains-arranged}
use Rattle.pair_structure.proofs.MoveOrder.{IsRising-from_sorted, IsSame-from_equal}
use Rattle.pair_structure.proofs.move_order.arrange.Goals as goal

pub returns : goal.returns
returns c = record {
  rising = rw (dedup_is _ _ _ c.dedup.ensures.filtered) (IsRising-from_sorted _ (IsStrictlySortedBy-dedup total-law matches_eq-law _ c.sort_unstable.ensures.sorted));
  same = Contains-arranged laws-law IsSame-from_equal _ _ _ c.sort_unstable.ensures.permutation c.dedup.ensures.filtered;
}

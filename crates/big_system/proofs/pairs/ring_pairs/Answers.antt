use Rattle.std.proofs.Common.{◌+◌, ◌∷◌, [], arith, sym}
use Rattle.std.proofs.lemmas.List.{length-append}
use Rattle.std.proofs.lemmas.List.FromFn.{map-range_with_len_more}
use Rattle.big_system.specs.Graphs.{pair_on}
use Rattle.big_system.proofs.pairs.ring_pairs.Goals as goal

pub loop-k-preserved : goal.loop-k-preserved
loop-k-preserved c = record {
  pairs = rw (c.in_ok-push.ensures.items, c.loop-k.invariant.pairs) (sym (map-range_with_len_more pair_on 0 c.loop-k.k c.loop-k.k (omega arith)));
  few = rw c.in_ok-push.ensures.items (omega (arith, length-append c.loop-k.pairs.items ((c.loop-k.k, c.loop-k.k + 1) ∷ []), c.loop-k.invariant.few));
}

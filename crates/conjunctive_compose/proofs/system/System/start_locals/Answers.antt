use Rattle.std.proofs.Common.{arith, sym}
use Rattle.std.proofs.lemmas.List.FromFn.{map-range_with_len_more}
use Rattle.conjunctive_compose.specs.Whole.{start_local}
use Rattle.conjunctive_compose.proofs.system.System.start_locals.Goals as goal

pub loop-k-preserved : goal.loop-k-preserved
loop-k-preserved c = rw (c.in_ok-push.ensures.items, c.loop-k.invariant, c.start_local.ensures) (sym (map-range_with_len_more (start_local c.args.self.now) 0 c.loop-k.k c.loop-k.k (omega arith)))

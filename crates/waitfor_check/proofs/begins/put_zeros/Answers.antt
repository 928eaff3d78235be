use Rattle.std.proofs.Common.{ℕ, ◌≡◌, ◌<◌, ◌∷◌, [], List, length, length-set, get_or, arith, sym, ap, ◌∙◌}
use Rattle.waitfor_check.proofs.Fills.{fill_more}
use Rattle.waitfor_check.proofs.begins.put_zeros.Goals as goal

pub loop-i-preserved : goal.loop-i-preserved
loop-i-preserved c = record {
  size = length-set c.loop-i.lists c.loop-i.i c.put_zero.new.list ∙ c.loop-i.invariant.size;
  done = fill_more (λ (i : ℕ). 0 ∷ []) c.loop-i.lists c.loop-i.i c.put_zero.new.list (omega (arith, c.loop-i-test.true, c.loop-i.invariant.size)) c.in_ok-put_zero.ensures c.loop-i.invariant.done;
}

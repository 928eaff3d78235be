use Rattle.std.proofs.Common.{ℕ, ◌≡◌, ◌<◌, [], List, length, length-set, get_or, arith, sym, ap, ◌∙◌}
use Rattle.std.proofs.lemmas.List.FromFn.{fill_by_all}
use Rattle.waitfor_check.specs.inside.Begins.{leaf_begins}
use Rattle.waitfor_check.proofs.Fills.{fill_more}
use Rattle.waitfor_check.proofs.starts.put_begins.Goals as goal

pub loop-i-preserved : goal.loop-i-preserved
loop-i-preserved c = record {
  size = length-set c.loop-i.lists c.loop-i.i c.put_leaf_begins.new.list ∙ c.loop-i.invariant.size;
  done = fill_more (leaf_begins c.args.system.now c.args.shape.now c.args.begins.now c.args.local) c.loop-i.lists c.loop-i.i c.put_leaf_begins.new.list (omega (arith, c.loop-i-test.true, c.loop-i.invariant.size)) c.in_ok-put_leaf_begins.ensures c.loop-i.invariant.done;
}

pub returns : goal.returns
returns c = fill_by_all (leaf_begins c.args.system.now c.args.shape.now c.args.begins.now c.args.local) c.loop-i.lists (length c.args.shape.now.leaves) [] (c.loop-i.invariant.size ∙ c.requires.lists) (λ k lt. c.loop-i.invariant.done k (omega (arith, lt, c.loop-i-test.false, c.requires.lists)))

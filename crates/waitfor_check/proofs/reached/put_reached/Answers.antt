use Rattle.std.proofs.Common.{ℕ, ◌≡◌, ◌<◌, [], List, length, length-set, get_or, arith, sym, ap, ◌∙◌}
use Rattle.std.proofs.lemmas.List.FromFn.{fill_by_all}
use Rattle.waitfor_check.specs.Star.{centre_side, leaf_structure}
use Rattle.waitfor_check.specs.Steps.{reached_at}
use Rattle.waitfor_check.proofs.Fills.{fill_more}
use Rattle.waitfor_check.proofs.reached.put_reached.Goals as goal

pub loop-i-preserved : goal.loop-i-preserved
loop-i-preserved c =
    let f = λ (i : ℕ). reached_at (leaf_structure c.args.system.now c.args.shape.now i) (centre_side c.args.shape.now i) c.args.to (get_or c.args.states.now i 0) in
    record {
      size = length-set c.loop-i.lists c.loop-i.i c.put_reached_in.new.list ∙ c.loop-i.invariant.size;
      done = fill_more f c.loop-i.lists c.loop-i.i c.put_reached_in.new.list (omega (arith, c.loop-i-test.true, c.loop-i.invariant.size)) c.in_ok-put_reached_in.ensures c.loop-i.invariant.done;
    }

pub returns : goal.returns
returns c =
    let f = λ (i : ℕ). reached_at (leaf_structure c.args.system.now c.args.shape.now i) (centre_side c.args.shape.now i) (c.args.to) (get_or c.args.states.now i 0) in
    rw (← c.requires.to) (fill_by_all f c.loop-i.lists (length c.args.shape.now.leaves) [] (c.loop-i.invariant.size ∙ c.requires.lists) (λ k lt. c.loop-i.invariant.done k (omega (arith, lt, c.loop-i-test.false, c.requires.lists))))

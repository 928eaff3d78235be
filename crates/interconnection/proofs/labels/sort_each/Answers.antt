use Rattle.std.proofs.Common.{◌∙◌, arith}
use Rattle.interconnection.proofs.LabelLists.{permuted_more, sorted_more}
use Rattle.interconnection.proofs.labels.sort_each.Goals as goal

pub loop-k-preserved : goal.loop-k-preserved
loop-k-preserved c =
    let so = c.loop-k.invariant in
    record {
      size = c.sort_one.ensures.size ∙ so.size;
      same = permuted_more c.args.labels.now c.loop-k.labels c.sort_one.new.labels c.loop-k.k so.same so.rest c.sort_one.ensures.same c.sort_one.ensures.elsewhere;
      sorted = sorted_more c.loop-k.labels c.sort_one.new.labels c.loop-k.k so.sorted c.sort_one.ensures.sorted c.sort_one.ensures.elsewhere;
      rest = λ j le. c.sort_one.ensures.elsewhere j (λ same. omega arith) ∙ so.rest j (omega arith);
    }

pub returns-clause-sorted : goal.returns-clause-sorted
returns-clause-sorted c = λ k lt. c.loop-k.invariant.sorted k (omega arith)

use Rattle.std.proofs.Common.{arith}
use Rattle.closure_sets.specs.ClosureParts.{IsNextAt}
use Rattle.closure_sets.proofs.Parts.{each_push}
use Rattle.closure_sets.proofs.closure.nexts.Goals as goal

pub loop-member-preserved : goal.loop-member-preserved
loop-member-preserved c = record {
  long = let k = c.loop-member.invariant.long in let p = c.in_ok-push.ensures.len in omega (arith, k, p);
  each = each_push (IsNextAt c.args.form.now.parts c.args.side) c.loop-member.nexts.items c.push.new.self.items c.loop-member.member c.next_of.result c.loop-member.invariant.long c.loop-member.invariant.each c.in_ok-push.ensures.items c.next_of.ensures;
}

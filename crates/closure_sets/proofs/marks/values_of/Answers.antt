use Rattle.std.proofs.Common.{subst, ◌≡◌, ◌<◌, arith}
use Rattle.closure_sets.specs.ClosureParts.{count}
use Rattle.closure_sets.specs.inside.Marks.{part_value}
use Rattle.closure_sets.proofs.MarkLaws.{values_push}
use Rattle.closure_sets.proofs.marks.values_of.Goals as goal

pub loop-member-preserved : goal.loop-member-preserved
loop-member-preserved c =
    let lt : c.loop-member.member < count c.args.c.now = (let a = c.loop-member-test.true in let b = c.count-member-end.ensures.count in omega (arith, a, b)) in
    values_push c.args.c.now c.count-member-end.ensures.closure (c.args.a, c.args.b) c.loop-member.member c.loop-member.values.items c.push.new.self.items c.value_of-value.result c.part.result lt c.loop-member.invariant c.in_ok-push.ensures.items c.part.ensures
    (subst (λ v. c.value_of-value.result ≡ part_value (c.args.a, c.args.b) v c.part.result) c.deref.ensures.value c.value_of-value.ensures)

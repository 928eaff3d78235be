use Rattle.ctl_form.proofs.MemberTableLaws.{table_nil}
use Rattle.ctl_form.proofs.members.Members.new.Goals as goal

pub invariant_of-result : goal.invariant_of-result
invariant_of-result c = table_nil c.new.result.items c.new-2.result c.new.ensures.items c.new-2.ensures.len

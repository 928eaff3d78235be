use Rattle.std.proofs.Common.{◌≡◌, ◌<◌, List, length, vec_len, arith, subst, sym}
use Rattle.ctl_form.specs.declared.limits.TheConstants.{MAX_MEMBERS}
use Rattle.ctl_form.specs.Members.{IsBelow}
use Rattle.ctl_form.specs.declared.part.Part.{Part}
use Rattle.ctl_form.proofs.MemberLaws.{IsNew}
use Rattle.ctl_form.proofs.MemberTableLaws.{table_push, table_same, popped_back}
use Rattle.ctl_form.proofs.members.Members.add.Goals as goal

pub invariant_of-self-in-Ok : goal.invariant_of-self-in-Ok
invariant_of-self-in-Ok c =
    let back = sym c.self.view_is in
    let part : Part = c.args.part in
    let at_end : c.len-n.result ≡ length c.self.inside.parts.items = omega (arith, c.len-n.ensures, c.self.inside.parts.ok) in
    table_push c.self.inside.parts.items c.push.new.self.items part c.self.inside.numbers c.insert.new.self c.len-n.result c.self.invariant
    (subst (λ l. IsNew l part) back c.requires.new) (subst (λ (l : List Part). IsBelow (length l) part) back c.requires.below) (subst (λ (l : List Part). length l < MAX_MEMBERS) back c.requires.room)
    at_end c.in-Ok.ensures.updates.0 c.in-Ok.ensures.updates.1 c.in_ok-push.ensures.items

pub invariant_of-self-in-Err : goal.invariant_of-self-in-Err
invariant_of-self-in-Err c =
    table_same c.self.inside.parts.items c.pop.new.self.items c.self.inside.numbers c.insert.new.self c.self.invariant
    (popped_back c.self.inside.parts.items c.push.new.self.items c.pop.new.self.items c.args.part (vec_len c.push.new.self) c.in_ok-push.ensures.items (omega (arith, c.push.new.self.ok)) c.pop.ensures.rest) c.in-Err.ensures.err

use Rattle.std.proofs.Common.{subst, ◌∙◌}
use Rattle.std.proofs.lemmas.List.Elements.{All-more}
use Rattle.pair_structure.specs.Role.{IsRole}
use Rattle.interconnection.proofs.OneFurther.{copies_more}
use Rattle.interconnection.proofs.copies.role_copies.Goals as goal

pub loop-role-preserved : goal.loop-role-preserved
loop-role-preserved c =
    let roles = c.args.roles.now in
    let i = c.loop-role.role-index in
    let role = c.role-item.result in (
      c.in_ok-push.ensures.items ∙ copies_more roles c.loop-role.copies.items i role c.in_ok-role_copy.field-0 c.loop-role-test.true c.role-item.is c.loop-role.invariant.0 c.in_ok-role_copy.ensures.same,
      All-more IsRole roles i role c.loop-role-test.true c.loop-role.invariant.1 (subst IsRole c.role-item.is c.role_copy.ensures.role),
    )

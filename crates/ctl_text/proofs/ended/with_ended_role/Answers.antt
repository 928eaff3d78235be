use Rattle.ctl_text.specs.inside.View.{parts_of}
use Rattle.ctl_text.proofs.Kept.{role_made}
use Rattle.ctl_text.proofs.ended.with_ended_role.Goals as goal

pub unreachable-requires : goal.unreachable-requires
unreachable-requires c =
    let free = rw (c.deref.ensures.value, c.deref-2.ensures.value) at c.in_default.ensures.none in
    let made = c.in-Err.ensures.accepts (role_made (parts_of c.args.role) c.requires.sound c.requires.begins free) in cc

use Rattle.ctl_text.specs.inside.View.{parts_of}
use Rattle.ctl_text.proofs.Kept.{local_sound}
use Rattle.ctl_text.proofs.open_role.OpenRole.with_local.Goals as goal

pub returns-clause-sound : goal.returns-clause-sound
returns-clause-sound c =
    let free = rw c.deref.ensures.value at c.in_default.ensures.none in
    rw (c.in_ok-self.ensures, c.in_ok-name_of.ensures) (local_sound (parts_of c.args.self) c.args.name.now c.requires.sound free)

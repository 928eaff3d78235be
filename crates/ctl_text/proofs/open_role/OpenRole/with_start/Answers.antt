use Rattle.ctl_text.proofs.Kept.{starts_more}
use Rattle.ctl_text.proofs.open_role.OpenRole.with_start.Goals as goal

pub returns-clause-sound : goal.returns-clause-sound
returns-clause-sound c =
    let sound = c.requires in
    let free = rw (c.deref.ensures.value, c.deref-2.ensures.value) at c.in_default.ensures.none in
    let start = rw c.deref-3.ensures.value at c.local_number-start.ensures.number in
    rw c.in_ok-self.ensures (record { locals = sound.locals; starts = starts_more c.args.self.locals.items c.args.self.starts.items c.args.name.now _ sound.starts free start; arcs = sound.arcs })

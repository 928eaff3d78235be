use Rattle.ctl_text.proofs.Kept.{arcs_more}
use Rattle.ctl_text.proofs.open_role.OpenRole.with_arc.Goals as goal

pub returns-clause-sound : goal.returns-clause-sound
returns-clause-sound c =
    let sound = c.requires in
    let free = rw (c.deref.ensures.value, c.deref-2.ensures.value) at c.in_default.ensures.none in
    let from = rw c.deref-3.ensures.value at c.local_number-from.ensures.number in
    let to = rw c.deref-4.ensures.value at c.local_number-to.ensures.number in
    rw c.in_ok-self.ensures (record { locals = sound.locals; starts = sound.starts; arcs = arcs_more c.args.self.locals.items c.args.self.arcs.items c.args.from.now c.args.to.now _ sound.arcs free from to })

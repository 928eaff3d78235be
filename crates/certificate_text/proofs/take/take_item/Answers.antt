use Rattle.certificate_text.specs.inside.View.{group_of}
use Rattle.certificate_text.proofs.Kept.{group_fits}
use Rattle.certificate_text.proofs.take.take_item.Goals as goal

pub with_member-requires-clause-sound : goal.with_member-requires-clause-sound
with_member-requires-clause-sound c = group_fits c.args.system.now c.args.made (group_of c.args.place) c.requires.sound

pub returns-in_ok-reader-in-Star-clause-taken : goal.returns-in_ok-reader-in-Star-clause-taken
returns-in_ok-reader-in-Star-clause-taken c = rw c.in-Star.is (record { free = c.in_ok-reader-in-Star.ensures.free; next = c.in_ok-reader-in-Star.ensures.state })

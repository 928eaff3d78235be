use Rattle.std.proofs.Common.{refl}
use Rattle.ctl_text.specs.inside.View.{group_of, state_of, said}
use Rattle.ctl_text.proofs.ByCause.{free_by_cause}
use Rattle.ctl_text.proofs.Judged.{misplaced_lowest, no_long, may_say, taken_as, said_refused}
use Rattle.ctl_text.proofs.take.take_item.Goals as goal

pub returns-in_default-clause-refused : goal.returns-in_default-clause-refused
returns-in_default-clause-refused c =
    rw c.misplaced.ensures (misplaced_lowest (state_of c.args.reader) (group_of c.args.reader.place) _ refl c.requires.other c.in_default.ensures.none)

pub returns-in-Err-clause-refused : goal.returns-in-Err-clause-refused
returns-in-Err-clause-refused c =
    said_refused (state_of c.args.reader) _ (said c.in-Some.item) c.in-Err.fault (may_say (state_of c.args.reader) _ (said c.in-Some.item) c.requires.other c.in-Some.ensures.some) (no_long (state_of c.args.reader) _ c.requires.other) c.in-Err.ensures.refused

pub returns-in-Ok-clause-taken : goal.returns-in-Ok-clause-taken
returns-in-Ok-clause-taken c =
    let taken = c.in-Ok.ensures.taken in
    taken_as (state_of c.args.reader) (state_of c.in-Ok.reader) _ (said c.in-Some.item) (may_say (state_of c.args.reader) _ (said c.in-Some.item) c.requires.other c.in-Some.ensures.some) (no_long (state_of c.args.reader) _ c.requires.other) (free_by_cause (state_of c.args.reader) (said c.in-Some.item) taken.free) taken.next

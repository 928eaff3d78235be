use Rattle.skeleton_tool.specs.Taking.{ShelfSeen, shelf_seen}
use Rattle.skeleton_tool.proofs.Planned.{put_run}
use Rattle.skeleton_tool.proofs.threaded.perform_run.Goals as goal

pub returns-in-Ok-clause-outcome : goal.returns-in-Ok-clause-outcome
returns-in-Ok-clause-outcome g c =
    let shelf : ShelfSeen = shelf_seen g.S.Shelf.files g.S.Shelf.faults g.S.Shelf.longs c.args.shelf.now c.run.new.shelf in
    put_run c.args.policy.now.turn c.args.call.callers c.args.call.room c.args.call.seed shelf c.args.call.spec.now c.args.call.sol.now _ c.in-Ok.status c.say.result c.run.new.text.items c.deref.result.now c.in-Ok.ensures.ends.0 c.deref.ensures.value c.say.ensures.said

pub returns-in-Err-Answered-clause-outcome : goal.returns-in-Err-Answered-clause-outcome
returns-in-Err-Answered-clause-outcome g c =
    let shelf : ShelfSeen = shelf_seen g.S.Shelf.files g.S.Shelf.faults g.S.Shelf.longs c.args.shelf.now c.run.new.shelf in
    put_run c.args.policy.now.turn c.args.call.callers c.args.call.room c.args.call.seed shelf c.args.call.spec.now c.args.call.sol.now _ c.in-Err-Answered.status c.say-in-Err-Answered.result c.run.new.text.items c.deref-in-Err-Answered.result.now (rw c.in-Err-Answered.field-0-is at c.in-Err-Answered.ensures.ends).0 c.deref-in-Err-Answered.ensures.value c.say-in-Err-Answered.ensures.said

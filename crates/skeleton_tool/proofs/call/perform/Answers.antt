use Rattle.skeleton_tool.specs.Command.{words_of}
use Rattle.skeleton_tool.specs.Taking.{ShelfSeen, shelf_seen}
use Rattle.skeleton_tool.proofs.Planned.{put_words}
use Rattle.skeleton_tool.proofs.call.perform.Goals as goal

pub returns-in-Ok-clause-outcome : goal.returns-in-Ok-clause-outcome
returns-in-Ok-clause-outcome g c =
    let shelf : ShelfSeen = shelf_seen g.S.Shelf.files g.S.Shelf.faults g.S.Shelf.longs c.args.shelf.now c.answer.new.shelf in
    put_words (words_of c.args.words.now) shelf _ c.in-Ok.status c.say.result c.answer.new.text.items c.deref.result.now c.in-Ok.ensures.answer c.deref.ensures.value c.say.ensures.said

use Rattle.std.proofs.Common.{◌+◌, ◌∙◌, drop, ap}
use Rattle.std.proofs.lemmas.List.{take_rest, drop-drop}
use Rattle.edge_io.proofs.AppendsLaws.{Appends-take_more}
use Rattle.edge_io.proofs.out_sink.write_whole.Goals as goal

pub loop-left-preserved : goal.loop-left-preserved
loop-left-preserved g c =
    let (n, left, appended) = c.loop-left.invariant in
    let count = c.in-Ok.count in
    (n + count, take_rest _ count ∙ ap (drop count) left ∙ drop-drop count n _, Appends-take_more _ _ _ _ _ n count left appended c.in-Ok.ensures.bytes)

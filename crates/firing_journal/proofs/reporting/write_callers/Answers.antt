use Rattle.std.proofs.Common.{◌∙◌, ap}
use Rattle.std.specs.Global.{Vec}
use Rattle.firing_journal.specs.declared.asked.Asked.{Asked}
use Rattle.firing_journal.proofs.ReportLines.{caller_written}
use Rattle.firing_journal.proofs.reporting.write_callers.Goals as goal

pub loop-caller-preserved : goal.loop-caller-preserved
loop-caller-preserved c =
    caller_written c.args.callers.now c.loop-caller.caller c.index-callers-caller.result c.deref.result.now c.args.into.now.items c.loop-caller.into.items c.write_caller.new.into.items
    c.loop-caller-test.true
    (c.deref.ensures.value ∙ ap (λ (v : Vec Asked). v.items) c.index-callers-caller.is)
    c.loop-caller.invariant
    c.in_ok-write_caller.ensures

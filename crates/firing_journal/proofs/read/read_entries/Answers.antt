use Rattle.std.proofs.Common.{}
use Rattle.strict_text.specs.View.{line_of}
use Rattle.firing_journal.proofs.Texts.{read_done, read_more}
use Rattle.firing_journal.proofs.read.read_entries.Goals as goal

pub returns-in-Ok-None-clause-text : goal.returns-in-Ok-None-clause-text
returns-in-Ok-None-clause-text c = read_done c.args.system.now c.args.bytes.now c.loop-rest.rest.now c.cut_line.result.1.now c.loop-rest.journal c.loop-rest.line (line_of c.cut_line.result.0) c.in-Ok-None.field-0 c.loop-rest.invariant c.cut_line.ensures.cut c.in-Ok-None.field-0-is c.in-Ok-None.ensures.taken

pub loop-rest-preserved : goal.loop-rest-preserved
loop-rest-preserved c = read_more c.args.system.now c.args.bytes.now c.loop-rest.rest.now c.cut_line.result.1.now c.loop-rest.journal c.push.new.self c.loop-rest.line (line_of c.cut_line.result.0) c.in-Ok-Some.field-0 (c.in-Ok-Some.caller, c.in-Ok-Some.wish) c.loop-rest.invariant c.cut_line.ensures.cut c.cut_line.ensures.shorter c.in-Ok-Some.field-0-is c.in-Ok-Some.ensures.fits c.in-Ok-Some.ensures.taken c.in-Ok.ensures.pushed

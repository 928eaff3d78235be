use Rattle.std.proofs.Common.{◌∙◌}
use Rattle.text_cause.proofs.TextLaws.{one_value, never_both, memory_only, fault_only}
use Rattle.ctl_text.specs.inside.Made.{value_of}
use Rattle.ctl_text.specs.State.{first_state}
use Rattle.ctl_text.specs.Text.{specifications}
use Rattle.ctl_text.proofs.TextLaws.{specifications_lawful}
use Rattle.ctl_text.proofs.ValueKept.{text_sound}
use Rattle.ctl_text.proofs.read.read_spec.Goals as goal

pub of-requires-clause-sound : goal.of-requires-clause-sound
of-requires-clause-sound c = text_sound c.args.bytes.now (value_of c.in-Ok.field-0) c.in-Ok.ensures.text

pub returns-in-Ok-clause-only : goal.returns-in-Ok-clause-only
returns-in-Ok-clause-only c = λ v text. c.of.ensures ∙ one_value specifications specifications_lawful first_state c.args.bytes.now (value_of c.in-Ok.field-0) v c.in-Ok.ensures.text text

pub returns-in-Ok-clause-refused_only : goal.returns-in-Ok-clause-refused_only
returns-in-Ok-clause-refused_only c = λ at cause refused. never_both specifications specifications_lawful first_state c.args.bytes.now (value_of c.in-Ok.field-0) at cause c.in-Ok.ensures.text refused

pub returns-in-Err-clause-only : goal.returns-in-Err-clause-only
returns-in-Err-clause-only c = memory_only specifications specifications_lawful first_state c.args.bytes.now c.in-Err.fault c.in-Err.ensures.refused

pub returns-in-Err-clause-refused_only : goal.returns-in-Err-clause-refused_only
returns-in-Err-clause-refused_only c = fault_only specifications specifications_lawful first_state c.args.bytes.now c.in-Err.fault c.in-Err.ensures.refused

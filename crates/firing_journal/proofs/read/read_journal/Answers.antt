use Rattle.firing_journal.specs.Place.{before_head}
use Rattle.firing_journal.specs.Text.{journals}
use Rattle.firing_journal.proofs.Texts.{journals_lawful}
use Rattle.text_cause.proofs.TextLaws.{only_value, only_refusal}
use Rattle.firing_journal.proofs.read.read_journal.Goals as goal

pub returns-clause-only : goal.returns-clause-only
returns-clause-only c = only_value (journals c.args.system.now) (journals_lawful c.args.system.now) before_head c.args.bytes.now c.read_text.result c.read_text.ensures.text c.read_text.ensures.refused

pub returns-clause-refused_only : goal.returns-clause-refused_only
returns-clause-refused_only c = only_refusal (journals c.args.system.now) (journals_lawful c.args.system.now) before_head c.args.bytes.now c.read_text.result c.read_text.ensures.text c.read_text.ensures.refused

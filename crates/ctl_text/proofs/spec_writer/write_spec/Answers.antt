use Rattle.ctl_text.proofs.GraphAgain.{text_stands}
use Rattle.ctl_text.proofs.spec_writer.write_spec.Goals as goal

pub returns-clause-text : goal.returns-clause-text
returns-clause-text c = text_stands c.args.spec.now c.kinds.ensures.sound

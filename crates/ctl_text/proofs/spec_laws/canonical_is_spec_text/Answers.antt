use Rattle.ctl_text.proofs.GraphAgain.{text_stands}
use Rattle.ctl_text.proofs.ValueKept.{text_sound}
use Rattle.ctl_text.proofs.spec_laws.canonical_is_spec_text.Goals as goal

pub returns : goal.returns
returns c bytes v text = text_stands v (text_sound bytes v text)

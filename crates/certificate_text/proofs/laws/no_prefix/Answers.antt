use Rattle.certificate_text.proofs.Prefix.{no_prefix}
use Rattle.certificate_text.proofs.laws.no_prefix.Goals as goal

pub returns : goal.returns
returns c = no_prefix

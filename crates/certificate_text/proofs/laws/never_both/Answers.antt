use Rattle.text_cause.proofs.TextLaws.{never_both}
use Rattle.certificate_text.specs.State.{first_state}
use Rattle.certificate_text.specs.Text.{certificates}
use Rattle.certificate_text.proofs.TextLaws.{certificates_lawful}
use Rattle.certificate_text.proofs.laws.never_both.Goals as goal

pub returns : goal.returns
returns c = λ v sys bytes stars line cause text refused. never_both (certificates v sys) (certificates_lawful v sys) first_state bytes stars line cause text refused

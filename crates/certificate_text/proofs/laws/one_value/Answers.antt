use Rattle.text_cause.proofs.TextLaws.{one_value}
use Rattle.certificate_text.specs.State.{first_state}
use Rattle.certificate_text.specs.Text.{certificates}
use Rattle.certificate_text.proofs.TextLaws.{certificates_lawful}
use Rattle.certificate_text.proofs.laws.one_value.Goals as goal

pub returns : goal.returns
returns c = λ v sys bytes stars others text other. one_value (certificates v sys) (certificates_lawful v sys) first_state bytes stars others text other

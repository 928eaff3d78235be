use Rattle.text_cause.proofs.TextLaws.{never_both}
use Rattle.ctl_text.specs.State.{first_state}
use Rattle.ctl_text.specs.Text.{specifications}
use Rattle.ctl_text.proofs.TextLaws.{specifications_lawful}
use Rattle.ctl_text.proofs.laws.never_both.Goals as goal

pub returns : goal.returns
returns c = λ bytes v line what. never_both specifications specifications_lawful first_state bytes v line what

use Rattle.text_cause.proofs.TextLaws.{never_both}
use Rattle.solution_text.specs.State.{first_state}
use Rattle.solution_text.specs.Text.{solutions}
use Rattle.solution_text.proofs.TextLaws.{solutions_lawful}
use Rattle.solution_text.proofs.laws.never_both.Goals as goal

pub returns : goal.returns
returns c = λ roles kinds bytes v line cause text refused. never_both (solutions roles) (solutions_lawful roles) (first_state kinds) bytes v line cause text refused

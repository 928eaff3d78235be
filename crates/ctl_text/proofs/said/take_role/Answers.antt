use Rattle.ctl_text.specs.inside.View.{state_of}
use Rattle.ctl_text.proofs.SaidTaken.{role_taken}
use Rattle.ctl_text.proofs.said.take_role.Goals as goal

pub returns-clause-taken : goal.returns-clause-taken
returns-clause-taken c =
    role_taken (state_of c.args.reader) (state_of c.opened.result) c.args.name.now _ _ _ c.roles.ensures c.in_ok-name_of.ensures c.new-role.ensures c.opened.ensures c.requires.sound c.in_default.ensures.none

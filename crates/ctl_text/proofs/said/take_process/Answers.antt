use Rattle.ctl_text.specs.inside.View.{state_of}
use Rattle.ctl_text.proofs.SaidTaken.{process_taken}
use Rattle.ctl_text.proofs.said.take_process.Goals as goal

pub returns-in-Some-clause-refused : goal.returns-in-Some-clause-refused
returns-in-Some-clause-refused c = rw (c.roles-roles.ensures, c.most_processes-most.ensures.most) at c.in-Some.ensures.some

pub returns-clause-taken : goal.returns-clause-taken
returns-clause-taken c = process_taken (state_of c.args.reader) (state_of c.in_ok-reader.reader) _ _ _ _ c.roles-roles.ensures c.in_ok-reader.ensures c.requires.sound (rw c.most_processes-most.ensures.most at c.in_default.ensures.none)

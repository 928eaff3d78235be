use Rattle.unravel.proofs.StartLabels.{first_joined, some_starts}
use Rattle.unravel.proofs.joining.Joining.new.Goals as goal

pub returns-clause-some : goal.returns-clause-some
returns-clause-some c = some_starts c.args.a.now c.args.b.now c.starts.ensures.role c.starts-2.ensures.role

pub returns-clause-joined : goal.returns-clause-joined
returns-clause-joined c = rw (c.new.ensures.items, c.in_ok-states.ensures, c.starts.ensures.starts, c.starts-2.ensures.starts) (first_joined c.args.a.now c.args.b.now c.starts.ensures.role c.starts-2.ensures.role)

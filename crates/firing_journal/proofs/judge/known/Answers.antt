use Rattle.std.proofs.Common.{arith}
use Rattle.conjunctive_compose.proofs.Edges.{role_lawful}
use Rattle.firing_journal.proofs.judge.known.Goals as goal

pub returns-then-arc-clause-none : goal.returns-then-arc-clause-none
returns-then-arc-clause-none c = λ known. let role = role_lawful c.args.system.now c.args.process c.network.ensures.system known.fits.process_in in omega (arith, role.few_arcs, known.fits.arc_in)

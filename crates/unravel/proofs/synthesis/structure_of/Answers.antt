use Rattle.std.proofs.Common.{subst}
use Rattle.tableau_graph.specs.TableauParts.{TableauParts}
use Rattle.deletion_rules.specs.Satisfying.{Satisfies}
use Rattle.unravel.proofs.Synthesized.{alive_is, dead_is}
use Rattle.unravel.proofs.synthesis.structure_of.Goals as goal

pub returns-in_ok-m-in-Alive : goal.returns-in_ok-m-in-Alive
returns-in_ok-m-in-Alive c = subst (λ (x : TableauParts). Satisfies x.a x.b x.closure c.in_ok-m-in-Alive.m) (alive_is c.args.tableau c.in_ok-ranks.field-0 c.in-Alive.ranks c.in-Alive.is c.in_ok-ranks.ensures) c.in_ok-m-in-Alive.ensures

pub returns-in-Dead : goal.returns-in-Dead
returns-in-Dead c = dead_is c.args.tableau c.in_ok-ranks.field-0 c.in-Dead.is c.in_ok-ranks.ensures

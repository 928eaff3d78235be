use Rattle.std.proofs.Common.{List, subst}
use Rattle.conjunctive_compose.specs.Whole.{start_of}
use Rattle.conjunctive_compose.specs.Projection.{IsProjection}
use Rattle.conjunctive_compose.proofs.Runs.{projects_to_path}
use Rattle.firing_journal.specs.declared.journal.Entry.{Entry}
use Rattle.firing_journal.specs.Journal.{wishes_of}
use Rattle.firing_journal.proofs.projection.project.Goals as goal

pub returns-clause-path : goal.returns-clause-path
returns-clause-path c =
    let sys = c.args.system.now in
    let laws = projects_to_path sys (wishes_of c.args.j.now) c.args.edge c.network-network.ensures.system c.requires.run c.requires.edge in
    laws.path c.in_ok-moves.moves.items (subst (λ (entries : List Entry). IsProjection sys (start_of sys) c.args.edge (wishes_of entries) c.in_ok-moves.moves.items) c.entries.ensures.entries c.in_ok-moves.ensures)

use Rattle.std.proofs.Common.{ℕ, ◌<◌, List, sym, ◌∙◌, ap, subst}
use Rattle.pair_structure.specs.declared.side.LocalArc.{LocalArc}
use Rattle.firing_crew.specs.Choice.{leaving_count}
use Rattle.firing_crew.specs.Workers.{arcs_of, local_of}
use Rattle.firing_crew.proofs.Leaving.{some_leaves}
use Rattle.firing_crew.proofs.worker.Worker.count_arcs.Goals as goal

pub returns-clause-some : goal.returns-clause-some
returns-clause-some c =
    let w = c.args.self.now in
    let sys = c.args.system.now in
    let arcs = ap (λ (a : List LocalArc). leaving_count a c.local.result) c.arcs.ensures.arcs in
    let local = ap (λ (l : ℕ). leaving_count (arcs_of sys w.next) l) c.local.ensures in
    subst (λ (n : ℕ). 0 < n) (sym (c.count_leaving.ensures ∙ arcs ∙ local)) (some_leaves sys w.next (local_of w) c.arcs.ensures.system c.requires.next (c.requires.locals.within w.next c.requires.next))

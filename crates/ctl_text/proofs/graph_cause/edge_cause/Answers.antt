use Rattle.std.proofs.Common.{refl}
use Rattle.ctl_text.specs.Format.{most_neighbours}
use Rattle.ctl_text.proofs.Options.{some_as, none_as}
use Rattle.ctl_text.proofs.CauseRows.{edge_lowest, edge_free}
use Rattle.ctl_text.proofs.graph_cause.edge_cause.Goals as goal

pub returns-clause-some : goal.returns-clause-some
returns-clause-some c =
    let r = c.args.reader.now in
    let known = rw c.kinds-kinds.ensures at (c.if-not-has_kind.ensures.0 refl) in
    let join = rw (c.process_number-p.ensures.number, c.process_number-q.ensures.number, c.kind_number-kind.ensures.number, c.kinds-kinds.ensures) at c.join_cause.ensures.some in
    some_as _ _ _ (λ cause least. edge_lowest (most_neighbours r.format) r.processes r.pairs.kinds r.edges c.args.p.now c.args.q.now c.args.kind.now cause (c.if-not-has_process.ensures.0 refl) (c.if-not-has_process-2.ensures.0 refl) known least) join

pub returns-clause-none : goal.returns-clause-none
returns-clause-none c =
    let r = c.args.reader.now in
    let known = rw c.kinds-kinds.ensures at (c.if-not-has_kind.ensures.0 refl) in
    let join = rw (c.process_number-p.ensures.number, c.process_number-q.ensures.number, c.kind_number-kind.ensures.number, c.kinds-kinds.ensures) at c.join_cause.ensures.none in
    none_as _ _ _ (λ free. edge_free (most_neighbours r.format) r.processes r.pairs.kinds r.edges c.args.p.now c.args.q.now c.args.kind.now (c.if-not-has_process.ensures.0 refl) (c.if-not-has_process-2.ensures.0 refl) known free) join

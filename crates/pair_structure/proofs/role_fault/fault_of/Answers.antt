use Rattle.pair_structure.proofs.RoleFaultLaws.{few_locals, few_locals_still}
use Rattle.pair_structure.proofs.role_fault.fault_of.Goals as goal

pub fault_of_starts-requires : goal.fault_of_starts-requires
fault_of_starts-requires c = few_locals c.args.locals.now c.args.starts.now c.args.arcs.now (c.in_default.ensures c.args.starts.now c.args.arcs.now)

pub fault_of_arcs-requires : goal.fault_of_arcs-requires
fault_of_arcs-requires c =
    few_locals_still c.args.locals.now c.args.starts.now c.args.arcs.now (c.in_default-fault_of_starts.ensures c.args.arcs.now (c.in_default.ensures c.args.starts.now c.args.arcs.now))

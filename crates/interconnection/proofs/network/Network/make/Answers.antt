use Rattle.interconnection.proofs.FaultLaws.{none_against}
use Rattle.interconnection.proofs.network.Network.make.Goals as goal

pub returns-in-Err-clause-refused : goal.returns-in-Err-clause-refused
returns-in-Err-clause-refused c =
    λ differ lawful.
    let first = rw (c.deref.ensures.value, c.deref-2.ensures.value, c.deref-3.ensures.value, c.deref-4.ensures.value) at (c.in-Err.ensures.fault differ) in
    none_against c.args.roles.items c.args.ends.items c.args.processes.items c.args.edges.items lawful c.in-Err.fault first.stands

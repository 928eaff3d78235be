use Rattle.std.proofs.Common.{arith}
use Rattle.interconnection.specs.Network.{NetworkParts}
use Rattle.interconnection.proofs.EdgeCount.{few_edges}
use Rattle.ctl_text.specs.Value.{kind_ends}
use Rattle.ctl_text.proofs.read.made_of.Goals as goal

pub make-requires : goal.make-requires
make-requires c =
    let net : NetworkParts = record { roles = c.args.pairs.roles; ends = kind_ends c.args.pairs.kinds; processes = c.args.processes.items; edges = c.args.edges.items } in
    let lawful = c.requires.lawful in
    let few = few_edges net 64 lawful lawful.degrees in omega (arith, few, lawful.few_processes)

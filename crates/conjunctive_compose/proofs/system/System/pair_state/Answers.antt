use Rattle.std.proofs.Common.{}
use Rattle.conjunctive_compose.proofs.system.System.pair_state.Goals as goal

pub unreachable-requires : goal.unreachable-requires
unreachable-requires c =
    let pair = c.requires.proper.pairs c.args.edge c.requires.within in
    c.in-None.ensures pair.0 (rw (c.structure-structure.ensures.structure, c.local.ensures, c.local-2.ensures, c.value.ensures, c.edges.ensures.edges, c.network.ensures.network) pair.1)

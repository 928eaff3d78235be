use Rattle.ctl_text.proofs.SpecTexts.{canonical_pieces}
use Rattle.ctl_text.proofs.spec_writer.write_lines.Goals as goal

pub returns : goal.returns
returns c =
    canonical_pieces (record { roles = c.args.roles.now; kinds = c.args.kinds.now; processes = c.args.processes.now; edges = c.args.edges.now }) _ _ _ _ _ _ _ c.in_ok-extend_from_slice.ensures.items c.in_ok-write_roles.ensures c.in_ok-write_kinds.ensures c.in_ok-write_processes.ensures c.in_ok-write_edges.ensures c.in_ok-extend_from_slice-2.ensures.items

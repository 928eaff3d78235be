use Rattle.std.proofs.Common.{codes}
use Rattle.skeleton_tool.proofs.Taken.{three_pieces}
use Rattle.skeleton_tool.proofs.taking.write_too_long.Goals as goal

pub returns : goal.returns
returns c = three_pieces c.args.into.now.items (codes "refused ") _ c.args.word.now (codes " 0 TooLong\n") _ _ _ c.in_ok-extend_from_slice.ensures.items c.in_ok-extend_from_slice-2.ensures.items c.as_bytes.ensures.value c.in_ok-extend_from_slice-3.ensures.items

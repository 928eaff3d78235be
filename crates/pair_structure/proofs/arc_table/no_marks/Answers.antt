use Rattle.pair_structure.proofs.ArcMarks.{is_marked_none}
use Rattle.pair_structure.proofs.arc_table.no_marks.Goals as goal

pub returns : goal.returns
returns c = is_marked_none 32 32

use Rattle.pair_structure.proofs.StructureFaultLaws.{first_no_move}
use Rattle.pair_structure.proofs.structure_check.fault_of.Goals as goal

pub returns-in-Some-first_without_move : goal.returns-in-Some-first_without_move
returns-in-Some-first_without_move c =
    let found = c.in-Some-first_without_move.ensures in
    first_no_move _ _ _ _ _ (c.in_default.ensures) (c.in_default-move_fault.ensures) found.0 found.1 found.2

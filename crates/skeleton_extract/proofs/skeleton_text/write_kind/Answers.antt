use Rattle.pair_structure.specs.declared.side.Side.TheVariants.{A, B}
use Rattle.skeleton_extract.proofs.skeleton_text.write_kind.Goals as goal

pub write_arcs-requires : goal.write_arcs-requires
write_arcs-requires c = rw (c.lists.ensures.lists, c.arcs.ensures) (c.requires.count A)

pub write_arcs-requires-2 : goal.write_arcs-requires-2
write_arcs-requires-2 c = rw (c.lists-2.ensures.lists, c.arcs-2.ensures) (c.requires.count B)

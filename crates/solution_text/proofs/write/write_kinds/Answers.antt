use Rattle.solution_text.proofs.KindTexts.{kind_added, numbered_more}
use Rattle.solution_text.proofs.write.write_kinds.Goals as goal

pub loop-number-preserved : goal.loop-number-preserved
loop-number-preserved c = record {
  written =
      kind_added c.args.roles.now c.args.kinds.now c.args.structures.now c.loop-number.number c.index-kinds-number.result c.index-roles-kind.result c.index-roles-kind-in-loop-number.result c.index-structures-number.result _ _ _
      c.requires.roles c.loop-number-test.true c.requires.count c.index-kinds-number.is c.index-roles-kind.is c.index-roles-kind-in-loop-number.is c.index-structures-number.is c.loop-number.invariant.written c.in_ok-write_kind.ensures.written;
  numbered = numbered_more c.args.structures.now c.loop-number.number c.index-structures-number.result c.loop-number-test.true c.index-structures-number.is c.loop-number.invariant.numbered c.in_ok-write_kind.ensures.numbered;
}

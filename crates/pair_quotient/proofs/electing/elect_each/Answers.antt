use Rattle.std.proofs.Common.{◌∙◌, length}
use Rattle.pair_quotient.proofs.ElectLaws.{elected_still}
use Rattle.pair_quotient.proofs.electing.elect_each.Goals as goal

pub loop-block-preserved : goal.loop-block-preserved
loop-block-preserved c = record {
  blocks = c.elect.ensures.blocks;
  classes = c.elect.ensures.classes ∙ c.loop-block.invariant.classes;
  members = c.elect.ensures.members ∙ c.loop-block.invariant.members;
  count = c.elect.ensures.count ∙ c.loop-block.invariant.count;
  elected = elected_still (length c.args.settled.now) _ _ _ _ c.args.settled.now c.args.touched.now c.loop-block.block-index c.elect.ensures.classes c.elect.ensures.others c.in_ok-elect.ensures.elected c.loop-block.invariant.elected;
}

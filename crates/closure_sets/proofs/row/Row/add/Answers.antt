use Rattle.closure_sets.proofs.Words.{set_of_with_member}
use Rattle.closure_sets.proofs.row.Row.add.Goals as goal

pub returns : goal.returns
returns c = rw c.set_bit.ensures.words (set_of_with_member c.args.self.now.words c.args.member c.set_bit.ensures.long c.requires)

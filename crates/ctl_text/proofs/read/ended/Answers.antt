use Rattle.ctl_text.proofs.Kept.{few_beside}
use Rattle.ctl_text.proofs.read.ended.Goals as goal

pub made_of-requires-clause-few : goal.made_of-requires-clause-few
made_of-requires-clause-few c = rw c.into_vec-in-AfterDone.ensures (few_beside c.args.reader.format c.args.reader.edges c.requires.few_edges)

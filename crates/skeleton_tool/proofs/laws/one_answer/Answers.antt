use Rattle.skeleton_tool.proofs.OneAnswer.{one_answer}
use Rattle.skeleton_tool.proofs.laws.one_answer.Goals as goal

pub returns : goal.returns
returns c = one_answer

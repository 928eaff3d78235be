use Rattle.skeleton_tool.proofs.CommandWords.{names_commands}
use Rattle.skeleton_tool.proofs.laws.names_commands.Goals as goal

pub returns : goal.returns
returns c = names_commands

use Rattle.std.proofs.Common.{◌≡◌, ◌++◌, take}
use Rattle.std.specs.List.{flat_map}
use Rattle.skeleton_extract.specs.SkeletonText.{command_line}
use Rattle.skeleton_extract.proofs.skeleton_text.write_commands.Given as goal

abbrev pub invariant-loop-command : goal.invariant-loop-command
invariant-loop-command l = l.into.items ≡ l.initial.into.items ++ flat_map (command_line l.other) (take l.command-index l.commands)

-- A command, without where its words lie in memory.
use Rattle.std.specs.Prelude.{Option, Some, None}
use Rattle.skeleton_tool.specs.declared.command.Command.{Command}
use Rattle.skeleton_tool.specs.declared.command.RunCall.{RunCall}
use Rattle.skeleton_tool.specs.declared.command.Command.TheVariants.{Synth, Prove, Skel, Check, Replay, Run, Migrate}
use Rattle.skeleton_tool.specs.Command.{Command as CommandValue, synth, prove, skel, check, replay, run, migrate}

abbrev pub run_value : RunCall → CommandValue
run_value call = run call.spec.now call.sol.now call.callers call.room call.seed

abbrev pub command_value : Command → CommandValue
command_value (Synth spec) = synth spec.now
command_value (Prove spec sol) = prove spec.now sol.now
command_value (Skel spec sol) = skel spec.now sol.now
command_value (Check spec sol certificate) = check spec.now sol.now certificate.now
command_value (Replay spec sol journal) = replay spec.now sol.now journal.now
command_value (Run call) = run_value call
command_value (Migrate spec) = migrate spec.now

-- a command that `plan` answers
abbrev pub IsPlain : Option CommandValue → Type 0
IsPlain (Some (run spec sol callers room seed)) = ⊥
IsPlain command = Unit {0}

-- Two answers to one call are one, but for the solution that `synth` makes and the report of a run.
use Rattle.std.specs.Prelude.{ℕ, ◌≡◌, Option, Some, List}
use Rattle.edge_io.specs.Counts.{Rose}
use Rattle.skeleton_tool.specs.declared.status.Status.{Status}
use Rattle.skeleton_tool.specs.declared.status.Status.TheVariants.{Done, Usage, Refused, Unsatisfiable, Fails, ReadFault, WriteFault, OutOfMemory}
use Rattle.skeleton_tool.specs.Command.{Command, synth, run, command_of}
use Rattle.skeleton_tool.specs.Taking.{ShelfSeen}
use Rattle.skeleton_tool.specs.Top.{AnswersTop}

-- the text of such an answer may be one of several: any that solves will do, and callers may meet in any order
abbrev pub IsChoice : Option Command → Status → Type 0
IsChoice (Some (synth spec)) Done = Unit {0}
IsChoice (Some (run spec sol callers room seed)) Done = Unit {0}
IsChoice command status = ⊥

-- the two have one status, and one text, if that is no choice
pub record AreOne (choice : Type 0) (one other : Status) (text written : List ℕ) : Type 0 where
  pub status : one ≡ other
  pub text_is : (choice → ⊥) → text ≡ written

-- two answers to the same words, over a shelf whose files are told and of which no count rose, are one
abbrev pub OneAnswer : Type 0
OneAnswer = (turn : ℕ) (words : List (List ℕ)) (shelf : ShelfSeen) (files : List (List ℕ × List ℕ)) (one other : Status) (text written : List ℕ)
    → shelf.files ≡ Some files → (Rose shelf.faults_before shelf.faults_after → ⊥) → (Rose shelf.longs_before shelf.longs_after → ⊥) → AnswersTop turn words shelf one text → AnswersTop turn words shelf other written → AreOne (IsChoice (command_of words) one) one other text written

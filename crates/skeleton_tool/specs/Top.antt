-- What `top` answers: a run, whose callers choose by a policy with this turn; and what `plan` answers.
use Rattle.std.specs.Prelude.{ℕ, ◌≡◌, ◌⊎◌, Some, List}
use Rattle.skeleton_tool.specs.declared.status.Status.{Status}
use Rattle.skeleton_tool.specs.Answer.{AnswersBoth, AnswersWords, IsEnded, SinkSeen}
use Rattle.skeleton_tool.specs.Command.{run, command_of}
use Rattle.skeleton_tool.specs.Run.{Runs}
use Rattle.skeleton_tool.specs.Taking.{ShelfSeen}

-- the words are a run, and it is answered
pub record AnswersRun (turn : ℕ) (words : List (List ℕ)) (shelf : ShelfSeen) (status : Status) (text : List ℕ) : Type 0 where
  pub spec : List ℕ
  pub sol : List ℕ
  pub callers : ℕ
  pub room : ℕ
  pub seed : ℕ
  pub command_is : command_of words ≡ Some (run spec sol callers room seed)
  pub answer : AnswersBoth (Runs turn callers room seed) shelf spec sol status text

-- the words are a run, and it is answered; or they are none, and they are answered as `plan` does
abbrev pub AnswersTop : ℕ → List (List ℕ) → ShelfSeen → Status → List ℕ → Type 0
AnswersTop turn words shelf status text = AnswersRun turn words shelf status text ⊎ AnswersWords words shelf status text

-- the call ends so with such an answer
abbrev pub IsTopped : ℕ → List (List ℕ) → ShelfSeen → SinkSeen → ℕ → Type 0
IsTopped turn words shelf sink code = IsEnded (AnswersTop turn words shelf) sink code

-- Whether wishes are a run, and what the run leaves.
use Rattle.std.specs.Prelude.{ℕ, ◌≡◌, ◌<◌, List, length, map, take, slice_index_or}
use Rattle.std.specs.List.{range_with_len}
use Rattle.conjunctive_compose.specs.declared.wish.Wish.{Wish}
use Rattle.conjunctive_compose.specs.declared.wish.StepAnswer.{StepAnswer}
use Rattle.conjunctive_compose.specs.System.{SystemParts, process_count}
use Rattle.conjunctive_compose.specs.Whole.{WholeParts, start_of}
use Rattle.conjunctive_compose.specs.Firing.{IsAnswer, Moves}
use Rattle.conjunctive_compose.specs.Run.{IsRun, whole_after}
use Rattle.conjunctive_compose.specs.Reply.{after_first, count_of}
use Rattle.firing_journal.specs.declared.outcome.Replay.{Replay}
use Rattle.firing_journal.specs.declared.outcome.Replay.TheVariants.{Run, NotARun}

abbrev pub no_wish : Wish
no_wish = record { process = 0; arc = 0; pick = 0 }

abbrev pub wish_at : List Wish → ℕ → Wish
wish_at run n = slice_index_or run n no_wish

-- how often each process fires among the first n
abbrev pub moves_among : SystemParts → List Wish → ℕ → List ℕ
moves_among sys run n = map (λ k. count_of run k n) (range_with_len 0 (process_count sys))

-- the wishes are a run that leaves this whole state, in which each process fires so often
pub record LeavesWhole (sys : SystemParts) (run : List Wish) (w : WholeParts) (moves : List ℕ) : Type 0 where
  pub is_run : IsRun sys (start_of sys) run
  pub whole : w ≡ whole_after sys (start_of sys) run
  pub each : moves ≡ moves_among sys run (length run)

-- the wishes before this one are a run, and this one does not move after them, for this reason
pub record IsFirstStuck (sys : SystemParts) (run : List Wish) (at : ℕ) (why : StepAnswer) : Type 0 where
  pub within : at < length run
  pub before : IsRun sys (start_of sys) (take at run)
  pub stuck : Moves sys (after_first sys run at) (wish_at run at) → ⊥
  pub answered : IsAnswer sys (after_first sys run at) (wish_at run at) why (after_first sys run at)

-- what a replay tells of the wishes
abbrev pub IsReplay : SystemParts → List Wish → Replay → Type 0
IsReplay sys run (Run w moves) = LeavesWhole sys run w moves.items
IsReplay sys run (NotARun at why) = IsFirstStuck sys run at why

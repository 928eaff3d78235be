-- What each command owes where nothing hinders it.
use Rattle.std.specs.Prelude.{ℕ, ◌≡◌, ◌⊎◌, Some, List, length}
use Rattle.edge_io.specs.Counts.{Rose}
use Rattle.pair_structure.specs.Structure.{Structure}
use Rattle.conjunctive_compose.specs.declared.wish.Wish.{Wish}
use Rattle.conjunctive_compose.specs.declared.wish.StepAnswer.{StepAnswer}
use Rattle.conjunctive_compose.specs.System.{SystemParts}
use Rattle.conjunctive_compose.specs.Whole.{WholeParts}
use Rattle.firing_journal.specs.declared.journal.Entry.{Entry}
use Rattle.firing_journal.specs.Journal.{wishes_of}
use Rattle.firing_journal.specs.Replay.{LeavesWhole, IsFirstStuck}
use Rattle.ctl_form.specs.Kind.{Solves}
use Rattle.ctl_text.specs.Value.{SpecParts}
use Rattle.solution_text.specs.Failing.{IsFirstFailing}
use Rattle.waitfor_check.specs.declared.star.Star.{Star}
use Rattle.waitfor_check.specs.Accepted.{IsAccepted}
use Rattle.firing_crew.specs.Crews.{MayWork}
use Rattle.skeleton_tool.specs.Answer.{SinkSeen, IsFirstUnsatisfiable, spec_grammar, solution_grammar}
use Rattle.skeleton_tool.specs.Check.{certificate_grammar}
use Rattle.skeleton_tool.specs.Command.{Command, synth, prove, skel, check, replay, run, migrate, command_of}
use Rattle.skeleton_tool.specs.Reading.{IsTold}
use Rattle.skeleton_tool.specs.Replay.{journal_grammar}
use Rattle.skeleton_tool.specs.Taking.{ShelfSeen}
use Rattle.skeleton_tool.specs.Third.{IsSystemOf}

-- the words are this command, the shelf's files are told, and no count rose
pub record IsUnhindered (words : List (List ℕ)) (shelf : ShelfSeen) (sink : SinkSeen) (command : Command) (files : List (List ℕ × List ℕ)) : Type 0 where
  pub command_is : command_of words ≡ Some command
  pub told : shelf.files ≡ Some files
  pub no_fault : Rose shelf.faults_before shelf.faults_after → ⊥
  pub none_long : Rose shelf.longs_before shelf.longs_after → ⊥
  pub written : Rose sink.faults_before sink.faults_after → ⊥

-- 0 where each kind has a structure, else 3; or want of memory, 8
abbrev pub DecidesSpec : SpecParts → ℕ → Type 0
DecidesSpec v code = (code ≡ 8) ⊎ (((code ≡ 0) × ((structures : List Structure) × Solves v.roles v.kinds structures)) ⊎ ((code ≡ 3) × ((kind : ℕ) × IsFirstUnsatisfiable v.roles v.kinds kind)))

-- each specification is decided, where nothing hinders it
abbrev pub DecidesSynth : List (List ℕ) → ShelfSeen → SinkSeen → ℕ → Type 0
DecidesSynth words shelf sink code = (files : List (List ℕ × List ℕ)) (spec : List ℕ) (v : SpecParts) → IsUnhindered words shelf sink (synth spec) files → IsTold spec_grammar files spec v → DecidesSpec v code

-- 0 where the structures solve, else 4; or want of memory, 8
abbrev pub DecidesSolution : SpecParts → List Structure → ℕ → Type 0
DecidesSolution v structures code = (code ≡ 8) ⊎ (((code ≡ 0) × Solves v.roles v.kinds structures) ⊎ ((code ≡ 4) × ((kind : ℕ) × IsFirstFailing v.roles v.kinds structures kind)))

-- each solution is decided, where nothing hinders it
abbrev pub DecidesProve : List (List ℕ) → ShelfSeen → SinkSeen → ℕ → Type 0
DecidesProve words shelf sink code = (files : List (List ℕ × List ℕ)) (spec sol : List ℕ) (v : SpecParts) (structures : List Structure)
    → IsUnhindered words shelf sink (prove spec sol) files → IsTold spec_grammar files spec v → IsTold (solution_grammar v) files sol structures → DecidesSolution v structures code

-- each solution that solves is shown, where nothing hinders it
abbrev pub DecidesSkel : List (List ℕ) → ShelfSeen → SinkSeen → ℕ → Type 0
DecidesSkel words shelf sink code = (files : List (List ℕ × List ℕ)) (spec sol : List ℕ) (v : SpecParts) (structures : List Structure)
    → IsUnhindered words shelf sink (skel spec sol) files → IsTold spec_grammar files spec v → IsTold (solution_grammar v) files sol structures → Solves v.roles v.kinds structures → (code ≡ 8) ⊎ (code ≡ 0)

-- 0 where the certificate is accepted, else 4; or want of memory, 8
abbrev pub DecidesStars : SystemParts → List Star → ℕ → Type 0
DecidesStars sys stars code = (code ≡ 8) ⊎ (((code ≡ 0) × IsAccepted sys stars) ⊎ ((code ≡ 4) × (IsAccepted sys stars → ⊥)))

-- each certificate is decided for a solution that solves, where nothing hinders it
abbrev pub DecidesCheck : List (List ℕ) → ShelfSeen → SinkSeen → ℕ → Type 0
DecidesCheck words shelf sink code = (files : List (List ℕ × List ℕ)) (spec sol certificate : List ℕ) (v : SpecParts) (structures : List Structure) (sys : SystemParts) (stars : List Star)
    → IsUnhindered words shelf sink (check spec sol certificate) files → IsTold spec_grammar files spec v → IsTold (solution_grammar v) files sol structures → IsSystemOf v structures sys → IsTold (certificate_grammar v sys) files certificate stars → Solves v.roles v.kinds structures
    → DecidesStars sys stars code

-- 0 where the wishes are a run, else 4; or want of memory, 8
abbrev pub DecidesRun : SystemParts → List Wish → ℕ → Type 0
DecidesRun sys wishes code = (code ≡ 8) ⊎ (((code ≡ 0) × ((whole : WholeParts) × (moves : List ℕ) × LeavesWhole sys wishes whole moves)) ⊎ ((code ≡ 4) × ((at : ℕ) × (why : StepAnswer) × IsFirstStuck sys wishes at why)))

-- each journal is decided for a solution that solves, where nothing hinders it
abbrev pub DecidesReplay : List (List ℕ) → ShelfSeen → SinkSeen → ℕ → Type 0
DecidesReplay words shelf sink code = (files : List (List ℕ × List ℕ)) (spec sol journal : List ℕ) (v : SpecParts) (structures : List Structure) (sys : SystemParts) (entries : List Entry)
    → IsUnhindered words shelf sink (replay spec sol journal) files → IsTold spec_grammar files spec v → IsTold (solution_grammar v) files sol structures → IsSystemOf v structures sys → IsTold (journal_grammar sys) files journal entries → Solves v.roles v.kinds structures
    → DecidesRun sys (wishes_of entries) code

-- 0 where the callers may fire the system with so much room, else 7; or want of memory, 8
abbrev pub DecidesNumbers : SpecParts → ℕ → ℕ → ℕ → Type 0
DecidesNumbers v callers room code = (code ≡ 8) ⊎ (((code ≡ 0) × MayWork (length v.processes) callers room) ⊎ ((code ≡ 7) × (MayWork (length v.processes) callers room → ⊥)))

-- each solution that solves is fired, where nothing hinders it and the numbers are within their limits
abbrev pub DecidesFiring : List (List ℕ) → ShelfSeen → SinkSeen → ℕ → Type 0
DecidesFiring words shelf sink code = (files : List (List ℕ × List ℕ)) (spec sol : List ℕ) (callers room seed : ℕ) (v : SpecParts) (structures : List Structure)
    → IsUnhindered words shelf sink (run spec sol callers room seed) files → IsTold spec_grammar files spec v → IsTold (solution_grammar v) files sol structures → Solves v.roles v.kinds structures → DecidesNumbers v callers room code

-- each specification is written, where nothing hinders it
abbrev pub DecidesMigrate : List (List ℕ) → ShelfSeen → SinkSeen → ℕ → Type 0
DecidesMigrate words shelf sink code = (files : List (List ℕ × List ℕ)) (spec : List ℕ) (v : SpecParts) → IsUnhindered words shelf sink (migrate spec) files → IsTold spec_grammar files spec v → (code ≡ 8) ⊎ (code ≡ 0)

-- what each command owes but `run`, whose own line is above
pub record Decides (words : List (List ℕ)) (shelf : ShelfSeen) (sink : SinkSeen) (code : ℕ) : Type 0 where
  pub decides_synth : DecidesSynth words shelf sink code
  pub decides_prove : DecidesProve words shelf sink code
  pub decides_skel : DecidesSkel words shelf sink code
  pub decides_check : DecidesCheck words shelf sink code
  pub decides_replay : DecidesReplay words shelf sink code
  pub decides_migrate : DecidesMigrate words shelf sink code

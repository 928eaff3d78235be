-- What a call promises of each command, in its subject's words. Each holds for all files that are told, and for each
-- status that it names.
use Rattle.std.specs.Prelude.{ℕ, ◌≡◌, ◌⊎◌, Some, List, codes, length}
use Rattle.edge_io.specs.Told.{Appends}
use Rattle.pair_structure.specs.Structure.{Structure}
use Rattle.conjunctive_compose.specs.declared.wish.Wish.{Wish}
use Rattle.conjunctive_compose.specs.Run.{IsRun, whole_after}
use Rattle.conjunctive_compose.specs.System.{SystemParts}
use Rattle.conjunctive_compose.specs.Whole.{start_of}
use Rattle.firing_journal.specs.declared.journal.Entry.{Entry}
use Rattle.firing_journal.specs.Journal.{wishes_of}
use Rattle.ctl_form.specs.Kind.{Solves}
use Rattle.ctl_text.specs.Value.{SpecParts}
use Rattle.waitfor_check.specs.declared.star.Star.{Star}
use Rattle.waitfor_check.specs.Accepted.{IsAccepted}
use Rattle.waitfor_check.specs.Laws.{GoesOn}
use Rattle.firing_crew.specs.Crews.{MayWork, orders_of}
use Rattle.skeleton_tool.specs.declared.status.Status.TheVariants.{Fails}
use Rattle.skeleton_tool.specs.Answer.{SinkSeen, IsSolved, IsUnsolvable, spec_grammar, solution_grammar}
use Rattle.skeleton_tool.specs.Check.{TellsVerdict, certificate_grammar}
use Rattle.skeleton_tool.specs.Command.{Command, synth, prove, skel, check, replay, run, migrate, command_of}
use Rattle.skeleton_tool.specs.Failing.{NamesFailing}
use Rattle.skeleton_tool.specs.Migrate.{IsMigrated}
use Rattle.skeleton_tool.specs.Reading.{IsTold}
use Rattle.skeleton_tool.specs.Refusal.{out_of_limits_text}
use Rattle.skeleton_tool.specs.Replay.{TellsRun, TellsStuck, journal_grammar}
use Rattle.skeleton_tool.specs.Run.{IsReportOf}
use Rattle.skeleton_tool.specs.Skel.{ShowsSkeletons}
use Rattle.skeleton_tool.specs.Taking.{ShelfSeen}
use Rattle.skeleton_tool.specs.Third.{IsSystemOf}

-- the words are this command, and the shelf tells these files
pub record IsCalled (words : List (List ℕ)) (shelf : ShelfSeen) (command : Command) (files : List (List ℕ × List ℕ)) : Type 0 where
  pub command_is : command_of words ≡ Some command
  pub told : shelf.files ≡ Some files

-- a text of which this is true was appended to what the sink had
abbrev pub Writes : SinkSeen → (List ℕ → Type 0) → Type 0
Writes sink IsSuch = (text : List ℕ) × IsSuch text × Appends sink.before sink.after text

-- `synth` with 0: the text of structures that solve the specification
abbrev pub SynthSolves : List (List ℕ) → ShelfSeen → SinkSeen → ℕ → Type 0
SynthSolves words shelf sink code = (files : List (List ℕ × List ℕ)) (spec : List ℕ) (v : SpecParts) → IsCalled words shelf (synth spec) files → IsTold spec_grammar files spec v → code ≡ 0 → Writes sink (IsSolved v.roles v.kinds)

-- `synth` with 3: the name of the first kind that no structure satisfies
abbrev pub SynthFindsNone : List (List ℕ) → ShelfSeen → SinkSeen → ℕ → Type 0
SynthFindsNone words shelf sink code = (files : List (List ℕ × List ℕ)) (spec : List ℕ) (v : SpecParts) → IsCalled words shelf (synth spec) files → IsTold spec_grammar files spec v → code ≡ 3 → Writes sink (IsUnsolvable v.roles v.kinds)

-- `prove` with 0: the solution solves the specification. With 4: the name of the first kind that its structure does not
-- satisfy
abbrev pub ProveJudges : List (List ℕ) → ShelfSeen → SinkSeen → ℕ → Type 0
ProveJudges words shelf sink code = (files : List (List ℕ × List ℕ)) (spec sol : List ℕ) (v : SpecParts) (structures : List Structure)
    → IsCalled words shelf (prove spec sol) files → IsTold spec_grammar files spec v → IsTold (solution_grammar v) files sol structures
    → (code ≡ 0 → Solves v.roles v.kinds structures × Writes sink (λ text. text ≡ codes "solves\n")) × (code ≡ 4 → Writes sink (NamesFailing v structures))

-- `skel` with 0: the solution solves, and the commands of each structure's moves are shown. With 4: as `prove`
abbrev pub SkelShows : List (List ℕ) → ShelfSeen → SinkSeen → ℕ → Type 0
SkelShows words shelf sink code = (files : List (List ℕ × List ℕ)) (spec sol : List ℕ) (v : SpecParts) (structures : List Structure)
    → IsCalled words shelf (skel spec sol) files → IsTold spec_grammar files spec v → IsTold (solution_grammar v) files sol structures
    → (code ≡ 0 → Solves v.roles v.kinds structures × Writes sink (ShowsSkeletons v structures)) × (code ≡ 4 → Writes sink (NamesFailing v structures))

-- each run of the system ends in a whole state with a peel order, which so enables a process, if there is one
abbrev pub RunsGoOn : SystemParts → Type 0
RunsGoOn sys = (wishes : List Wish) → IsRun sys (start_of sys) wishes → GoesOn sys (whole_after sys (start_of sys) wishes)

-- `check` with 0: the solution solves, the certificate is accepted, and so no run of the one system ends where nobody
-- may go on. With 4: the solution solves, and the first part of the test that fails is told; or as `prove`
abbrev pub CheckJudges : List (List ℕ) → ShelfSeen → SinkSeen → ℕ → Type 0
CheckJudges words shelf sink code = (files : List (List ℕ × List ℕ)) (spec sol certificate : List ℕ) (v : SpecParts) (structures : List Structure) (sys : SystemParts) (stars : List Star)
    → IsCalled words shelf (check spec sol certificate) files → IsTold spec_grammar files spec v → IsTold (solution_grammar v) files sol structures → IsSystemOf v structures sys → IsTold (certificate_grammar v sys) files certificate stars
    → (code ≡ 0 → Solves v.roles v.kinds structures × IsAccepted sys stars × RunsGoOn sys × Writes sink (λ text. text ≡ codes "accepted\n")) × (code ≡ 4 → Writes sink (λ text. (Solves v.roles v.kinds structures × TellsVerdict sys stars Fails text) ⊎ NamesFailing v structures text))

-- `replay` with 0: the solution solves, the journal's wishes are a run of the one system, and what it leaves is told.
-- With 4: the solution solves, and the first wish that does not move is told; or as `prove`
abbrev pub ReplayTells : List (List ℕ) → ShelfSeen → SinkSeen → ℕ → Type 0
ReplayTells words shelf sink code = (files : List (List ℕ × List ℕ)) (spec sol journal : List ℕ) (v : SpecParts) (structures : List Structure) (sys : SystemParts) (entries : List Entry)
    → IsCalled words shelf (replay spec sol journal) files → IsTold spec_grammar files spec v → IsTold (solution_grammar v) files sol structures → IsSystemOf v structures sys → IsTold (journal_grammar sys) files journal entries
    → (code ≡ 0 → Solves v.roles v.kinds structures × Writes sink (TellsRun sys (wishes_of entries))) × (code ≡ 4 → Writes sink (λ text. (Solves v.roles v.kinds structures × TellsStuck sys (wishes_of entries) text) ⊎ NamesFailing v structures text))

-- `run` with 0: the solution solves, and the text of a lawful report of the one system is written: its journal is a run, on
-- each edge a path of the pair's structure, and each caller has a list by the rule. With 7: the solution solves, the
-- numbers are out of their limits, and that is told. With 4: as `prove`
abbrev pub RunReports : ℕ → List (List ℕ) → ShelfSeen → SinkSeen → ℕ → Type 0
RunReports turn words shelf sink code = (files : List (List ℕ × List ℕ)) (spec sol : List ℕ) (callers room seed : ℕ) (v : SpecParts) (structures : List Structure) (sys : SystemParts)
    → IsCalled words shelf (run spec sol callers room seed) files → IsTold spec_grammar files spec v → IsTold (solution_grammar v) files sol structures → IsSystemOf v structures sys
    → (code ≡ 0 → Solves v.roles v.kinds structures × MayWork (length v.processes) callers room × Writes sink (IsReportOf sys (orders_of callers room seed turn))) × (code ≡ 7 → Solves v.roles v.kinds structures × (MayWork (length v.processes) callers room → ⊥) × Writes sink (λ text. text ≡ out_of_limits_text)) × (code ≡ 4 → Writes sink (NamesFailing v structures))

-- `migrate` with 0: the canonical text of the specification
abbrev pub MigrateWrites : List (List ℕ) → ShelfSeen → SinkSeen → ℕ → Type 0
MigrateWrites words shelf sink code = (files : List (List ℕ × List ℕ)) (spec : List ℕ) (v : SpecParts) → IsCalled words shelf (migrate spec) files → IsTold spec_grammar files spec v → code ≡ 0 → Writes sink (IsMigrated v)

-- what is promised of each command but `run`, whose own line is above
pub record Promises (words : List (List ℕ)) (shelf : ShelfSeen) (sink : SinkSeen) (code : ℕ) : Type 0 where
  pub synth_solves : SynthSolves words shelf sink code
  pub synth_finds_none : SynthFindsNone words shelf sink code
  pub prove_judges : ProveJudges words shelf sink code
  pub skel_shows : SkelShows words shelf sink code
  pub check_judges : CheckJudges words shelf sink code
  pub replay_tells : ReplayTells words shelf sink code
  pub migrate_writes : MigrateWrites words shelf sink code

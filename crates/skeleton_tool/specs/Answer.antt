-- What a call answers: a status, the text that belongs to it, and when it may come.
use Rattle.std.specs.Prelude.{ℕ, ◌≡◌, ◌<◌, ◌⊎◌, Option, Some, None, List, ◌++◌, All, codes, length}
use Rattle.edge_io.specs.Counts.{Rose}
use Rattle.edge_io.specs.Told.{Appends, AppendsPrefix}
use Rattle.pair_structure.specs.Role.{RoleParts}
use Rattle.pair_structure.specs.Structure.{Structure}
use Rattle.ctl_form.specs.declared.pair_spec.PairSpec.{PairSpec}
use Rattle.ctl_form.specs.Kind.{SatisfiesKind, Solves}
use Rattle.ctl_text.specs.Value.{SpecParts, kind_at}
use Rattle.pair_quotient.specs.Quotient.{IsShrunk}
use Rattle.ctl_text.specs.Text.{IsSpecText, IsRefused}
use Rattle.solution_text.specs.Text.{IsSolutionText, IsRefused as IsSolutionRefused}
use Rattle.skeleton_tool.specs.declared.status.Status.{Status}
use Rattle.skeleton_tool.specs.declared.status.Status.TheVariants.{Done, Usage, Unsatisfiable, Fails, WriteFault, OutOfMemory}
use Rattle.skeleton_tool.specs.Command.{Command, synth, prove, skel, check, replay, run, migrate, command_of, usage_text, spec_limit, solution_limit}
use Rattle.skeleton_tool.specs.Status.{code_of}
use Rattle.skeleton_tool.specs.Check.{AnswersCertificate}
use Rattle.skeleton_tool.specs.Failing.{NamesFailing}
use Rattle.skeleton_tool.specs.Migrate.{Migrates}
use Rattle.skeleton_tool.specs.Skel.{Skels}
use Rattle.skeleton_tool.specs.Replay.{AnswersJournal}
use Rattle.skeleton_tool.specs.Reading.{Grammar, IsUnread, ReadsAndAnswers}
use Rattle.skeleton_tool.specs.Taking.{ShelfSeen}

-- a specification
abbrev pub spec_grammar : Grammar SpecParts
spec_grammar = record { word = codes "spec"; limit = spec_limit; is_text = IsSpecText; is_refused = IsRefused }

-- a solution of this specification
abbrev pub solution_grammar : SpecParts → Grammar (List Structure)
solution_grammar v = record { word = codes "solution"; limit = solution_limit; is_text = IsSolutionText v.roles v.kinds; is_refused = IsSolutionRefused v.roles v.kinds }

-- structures that solve these kinds, in none of which two states are bisimilar
pub record AreLeast (roles : List RoleParts) (kinds : List PairSpec) (structures : List Structure) : Type 0 where
  pub solve : Solves roles kinds structures
  pub shrunk : All IsShrunk structures

-- the text of structures that solve these kinds, in none of which two states are bisimilar
pub record IsSolved (roles : List RoleParts) (kinds : List PairSpec) (text : List ℕ) : Type 0 where
  pub structures : List Structure
  pub solves : Solves roles kinds structures
  pub shrunk : All IsShrunk structures
  pub is_text : IsSolutionText roles kinds text structures

-- no structure satisfies this kind, and each kind before it has one
pub record IsFirstUnsatisfiable (roles : List RoleParts) (kinds : List PairSpec) (kind : ℕ) : Type 0 where
  pub within : kind < length kinds
  pub none : (m : Structure) → SatisfiesKind roles (kind_at kinds kind) m → ⊥
  pub before : (earlier : ℕ) → earlier < kind → (m : Structure) × SatisfiesKind roles (kind_at kinds earlier) m

-- the first kind that no structure satisfies, by name
pub record IsUnsolvable (roles : List RoleParts) (kinds : List PairSpec) (text : List ℕ) : Type 0 where
  pub kind : ℕ
  pub first : IsFirstUnsatisfiable roles kinds kind
  pub text_is : text ≡ codes "unsatisfiable " ++ (kind_at kinds kind).name ++ codes "\n"

-- the status and its text are an answer to these roles and kinds
abbrev pub AnswersKinds : List RoleParts → List PairSpec → Status → List ℕ → Type 0
AnswersKinds roles kinds Done text = IsSolved roles kinds text
AnswersKinds roles kinds Unsatisfiable text = IsUnsolvable roles kinds text
AnswersKinds roles kinds status text = ⊥

-- the status and its text are an answer to `synth` of this file
abbrev pub AnswersSynth : ShelfSeen → List ℕ → Status → List ℕ → Type 0
AnswersSynth shelf file status text = ReadsAndAnswers spec_grammar (λ v. AnswersKinds v.roles v.kinds) shelf file status text

-- the status and its text are an answer to `migrate` of this file
abbrev pub AnswersMigrate : ShelfSeen → List ℕ → Status → List ℕ → Type 0
AnswersMigrate shelf file status text = ReadsAndAnswers spec_grammar Migrates shelf file status text

-- the structures solve, or the first kind that fails is named
abbrev pub Proves : SpecParts → List Structure → Status → List ℕ → Type 0
Proves v structures Done text = Solves v.roles v.kinds structures × (text ≡ codes "solves\n")
Proves v structures Fails text = NamesFailing v structures text
Proves v structures status text = ⊥

-- one of the two is not read: the specification comes first, whole
abbrev pub NotRead : ShelfSeen → List ℕ → List ℕ → Status → List ℕ → Type 0
NotRead shelf spec sol status text = ReadsAndAnswers spec_grammar (λ v. IsUnread (solution_grammar v) shelf sol) shelf spec status text

-- a specification and then a solution of it are read, and what they say is answered so; or one of the two is not read
abbrev pub AnswersBoth : (SpecParts → List Structure → Status → List ℕ → Type 0) → ShelfSeen → List ℕ → List ℕ → Status → List ℕ → Type 0
AnswersBoth answers shelf spec sol status text = ReadsAndAnswers spec_grammar (λ v. ReadsAndAnswers (solution_grammar v) (answers v) shelf sol) shelf spec status text

-- the status and its text are an answer to this command; a run is none of those that `plan` answers
abbrev pub AnswersCommand : ShelfSeen → Command → Status → List ℕ → Type 0
AnswersCommand shelf (synth spec) status text = AnswersSynth shelf spec status text
AnswersCommand shelf (prove spec sol) status text = AnswersBoth Proves shelf spec sol status text
AnswersCommand shelf (skel spec sol) status text = AnswersBoth Skels shelf spec sol status text
AnswersCommand shelf (check spec sol certificate) status text = AnswersBoth (AnswersCertificate shelf certificate) shelf spec sol status text
AnswersCommand shelf (replay spec sol journal) status text = AnswersBoth (AnswersJournal shelf journal) shelf spec sol status text
AnswersCommand shelf (run spec sol callers room seed) status text = ⊥
AnswersCommand shelf (migrate spec) status text = AnswersMigrate shelf spec status text

-- the words are no command, and the usage is told; or they are one, and it is answered
abbrev pub AnswersWords : List (List ℕ) → ShelfSeen → Status → List ℕ → Type 0
AnswersWords words shelf status text = ((command_of words ≡ None) × (status ≡ Usage) × (text ≡ usage_text)) ⊎ ((command : Command) × (command_of words ≡ Some command) × AnswersCommand shelf command status text)

-- what is known of the sink before and after the call: its bytes, where they are told, and its count
pub record SinkSeen : Type 0 where
  pub before : Option (List ℕ)
  pub after : Option (List ℕ)
  pub faults_before : ℕ
  pub faults_after : ℕ

-- a sink of which these are the bytes and the count, seen before a call and after it
abbrev pub sink_seen : {A : Type 0} → (A → Option (List ℕ)) → (A → ℕ) → A → A → SinkSeen
sink_seen written faults old new = record { before = written old; after = written new; faults_before = faults old; faults_after = faults new }

-- what was written belongs to the status, of which these are the answers: its whole text; of a write fault, a prefix of
-- another's; for want of memory, nothing
abbrev pub IsOutcome : (Status → List ℕ → Type 0) → SinkSeen → Status → Type 0
IsOutcome answers sink WriteFault = (other : Status) × (text : List ℕ) × answers other text × Rose sink.faults_before sink.faults_after × AppendsPrefix sink.before sink.after text
IsOutcome answers sink OutOfMemory = sink.after ≡ sink.before
IsOutcome answers sink status = (text : List ℕ) × answers status text × Appends sink.before sink.after text

-- the call ends with the number of a status, and what was written belongs to it
abbrev pub IsEnded : (Status → List ℕ → Type 0) → SinkSeen → ℕ → Type 0
IsEnded answers sink code = (status : Status) × (code ≡ code_of status) × IsOutcome answers sink status

-- the call ends so with an answer to these words
abbrev pub IsPlanned : List (List ℕ) → ShelfSeen → SinkSeen → ℕ → Type 0
IsPlanned words shelf sink code = IsEnded (AnswersWords words shelf) sink code

-- a text was put whole, and the status is this one; or a prefix of it, and it is that of a write fault
abbrev pub IsSaid : Status → List ℕ → SinkSeen → Status → Type 0
IsSaid status text sink said = ((said ≡ status) × Appends sink.before sink.after text) ⊎ ((said ≡ WriteFault) × Rose sink.faults_before sink.faults_after × AppendsPrefix sink.before sink.after text)

-- What is answered of files that are told.
use Rattle.std.proofs.Common.{ℕ, ◌≡◌, ◌∙◌, inl, inr, Some, None, List, IfSome, sym, subst}
use Rattle.edge_io.specs.Told.{file_named}
use Rattle.pair_structure.specs.Structure.{Structure}
use Rattle.ctl_text.specs.Value.{SpecParts}
use Rattle.skeleton_tool.specs.declared.status.Status.{Status}
use Rattle.skeleton_tool.specs.Answer.{AnswersBoth, AnswersCommand, AnswersWords, spec_grammar, solution_grammar}
use Rattle.skeleton_tool.specs.Command.{Command, synth, prove, skel, check, replay, run, migrate, command_of}
use Rattle.skeleton_tool.specs.Reading.{Grammar, IsBad, IsRead, IsTold, IsUnread, ReadsAndAnswers}
use Rattle.skeleton_tool.specs.Run.{Runs}
use Rattle.skeleton_tool.specs.Taking.{Files, ShelfSeen}
use Rattle.skeleton_tool.specs.Top.{AnswersTop}

some_same : {A : Type 0} (x y : A) → Some x ≡ Some y → x ≡ y
some_same x y e = cc

-- what is told of a file is one list of bytes
told_bytes : (files : Files) (all : List (List ℕ × List ℕ)) (file bytes given : List ℕ) → files ≡ Some all → file_named all file ≡ Some bytes → IfSome files (λ every. file_named every file ≡ Some given) → given ≡ bytes
told_bytes files all file bytes given told has is = some_same given bytes (sym (rw told at is) ∙ has)

-- what is read of a told file is the value that its bytes are a text of
pub read_told : {V : Type 0} (grammar : Grammar V) (files : Files) (all : List (List ℕ × List ℕ)) (file : List ℕ) (v w : V) → files ≡ Some all → IsTold grammar all file v → IsRead grammar files file w → w ≡ v
read_told grammar files all file v w told is read =
    let same : read.bytes ≡ is.bytes = told_bytes files all file is.bytes read.bytes told is.has read.given.told in
    read.only v (subst (λ bytes. grammar.is_text bytes v) (sym same) is.text)

-- a told file that is a text of a value is no text of none
pub never_bad : {V : Type 0} (grammar : Grammar V) (files : Files) (all : List (List ℕ × List ℕ)) (file : List ℕ) (v : V) (text : List ℕ) → files ≡ Some all → IsTold grammar all file v → IsBad grammar files file text → ⊥
never_bad grammar files all file v text told is bad =
    let same : bad.bytes ≡ is.bytes = told_bytes files all file is.bytes bad.bytes told is.has bad.given.told in
    bad.no_text v (subst (λ bytes. grammar.is_text bytes v) (sym same) is.text)

-- a file that is told as a text of a value is answered as that value, where it is read
pub reads_told : {V : Type 0} (grammar : Grammar V) (answers : V → Status → List ℕ → Type 0) (shelf : ShelfSeen) (all : List (List ℕ × List ℕ)) (file : List ℕ) (v : V) (status : Status) (text : List ℕ)
    → shelf.files ≡ Some all → (IsUnread grammar shelf file status text → ⊥) → IsTold grammar all file v → ReadsAndAnswers grammar answers shelf file status text → answers v status text
reads_told grammar answers shelf all file v status text told never is (inl h) = absurd (never h)
reads_told grammar answers shelf all file v status text told never is (inr (w, read, h)) = subst (λ u. answers u status text) (read_told grammar shelf.files all file v w told is read) h

pub both_told : (answers : SpecParts → List Structure → Status → List ℕ → Type 0) (shelf : ShelfSeen) (all : List (List ℕ × List ℕ)) (spec sol : List ℕ) (v : SpecParts) (structures : List Structure) (status : Status) (text : List ℕ)
    → shelf.files ≡ Some all → (IsUnread spec_grammar shelf spec status text → ⊥) → (IsUnread (solution_grammar v) shelf sol status text → ⊥) → IsTold spec_grammar all spec v → IsTold (solution_grammar v) all sol structures → AnswersBoth answers shelf spec sol status text
    → answers v structures status text
both_told answers shelf all spec sol v structures status text told never_spec never_sol spec_is sol_is h =
    let behind = reads_told spec_grammar (λ u. ReadsAndAnswers (solution_grammar u) (answers u) shelf sol) shelf all spec v status text told never_spec spec_is h in
    reads_told (solution_grammar v) (answers v) shelf all sol structures status text told never_sol sol_is behind

-- the command that the words are is answered
answers_command : (words : List (List ℕ)) (shelf : ShelfSeen) (status : Status) (text : List ℕ) (command : Command) → command_of words ≡ Some command → AnswersWords words shelf status text → AnswersCommand shelf command status text
answers_command words shelf status text command is (inl h) = absurd (let e : None ≡ Some command = sym h.0 ∙ is in cc)
answers_command words shelf status text command is (inr h) = subst (λ c. AnswersCommand shelf c status text) (some_same h.0 command (sym h.1 ∙ is)) h.2

-- what `top` answers to a command
abbrev pub AnswersAny : ℕ → ShelfSeen → Command → Status → List ℕ → Type 0
AnswersAny turn shelf (run spec sol callers room seed) status text = AnswersBoth (Runs turn callers room seed) shelf spec sol status text
AnswersAny turn shelf command status text = AnswersCommand shelf command status text

any_command : (turn : ℕ) (shelf : ShelfSeen) (command : Command) (status : Status) (text : List ℕ) → AnswersCommand shelf command status text → AnswersAny turn shelf command status text
any_command turn shelf (synth spec) status text h = h
any_command turn shelf (prove spec sol) status text h = h
any_command turn shelf (skel spec sol) status text h = h
any_command turn shelf (check spec sol file) status text h = h
any_command turn shelf (replay spec sol file) status text h = h
any_command turn shelf (run spec sol callers room seed) status text h = absurd h
any_command turn shelf (migrate spec) status text h = h

pub top_answers : (turn : ℕ) (words : List (List ℕ)) (shelf : ShelfSeen) (status : Status) (text : List ℕ) (command : Command) → command_of words ≡ Some command → AnswersTop turn words shelf status text → AnswersAny turn shelf command status text
top_answers turn words shelf status text command is (inl h) = subst (λ c. AnswersAny turn shelf c status text) (some_same (run h.spec h.sol h.callers h.room h.seed) command (sym h.command_is ∙ is)) h.answer
top_answers turn words shelf status text command is (inr h) = any_command turn shelf command status text (answers_command words shelf status text command is h)

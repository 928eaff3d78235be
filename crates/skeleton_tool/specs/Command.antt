-- The words of a call, and the command that they are.
use Rattle.std.specs.Prelude.{ℕ, ◌≡◌, ◌<◌, ◌^◌, All, ◌==◌, ◌||◌, Bool, false, Option, Some, None, List, [], ◌∷◌, codes, decimal, map, String, string_bytes, if◌then◌else◌}
use Rattle.std.specs.declared.alloc.Global.{Global}
use Rattle.std.specs.Str.{bytes_eq}
use Rattle.skeleton_tool.specs.Number.{number_of}

-- each with its files: a specification, behind it for all but `synth` and `migrate` a solution, for `check` a
-- certificate, and for `replay` a journal; behind the files of `run` a number of callers, the room of each for replies,
-- and a seed
pub data Command : Type 0 where
  synth : List ℕ → Command
  prove : List ℕ → List ℕ → Command
  skel : List ℕ → List ℕ → Command
  check : List ℕ → List ℕ → List ℕ → Command
  replay : List ℕ → List ℕ → List ℕ → Command
  run : List ℕ → List ℕ → ℕ → ℕ → ℕ → Command
  migrate : List ℕ → Command

-- 45 is '-'
abbrev pub begins_with_dash : List ℕ → Bool
begins_with_dash [] = false
begins_with_dash (first ∷ rest) = first == 45

-- the commands over a specification
abbrev pub command_with : List ℕ → List ℕ → Option Command
command_with name spec =
    if begins_with_dash spec then None else
    if bytes_eq name (codes "synth") then Some (synth spec) else
    if bytes_eq name (codes "migrate") then Some (migrate spec) else None

-- the commands over a specification and a solution
abbrev pub command_on : List ℕ → List ℕ → List ℕ → Option Command
command_on name spec sol =
    if begins_with_dash spec || begins_with_dash sol then None else
    if bytes_eq name (codes "prove") then Some (prove spec sol) else
    if bytes_eq name (codes "skel") then Some (skel spec sol) else None

-- the command of three numbers, where these words are numbers
abbrev pub with_numbers : (ℕ → ℕ → ℕ → Command) → Option ℕ → Option ℕ → Option ℕ → Option Command
with_numbers command (Some a) (Some b) (Some c) = Some (command a b c)
with_numbers command a b c = None

-- the commands over a specification, a solution and a third file
abbrev pub command_over : List ℕ → List ℕ → List ℕ → List ℕ → Option Command
command_over name spec sol file =
    if begins_with_dash spec || begins_with_dash sol || begins_with_dash file then None else
    if bytes_eq name (codes "check") then Some (check spec sol file) else
    if bytes_eq name (codes "replay") then Some (replay spec sol file) else None

-- the run of a solution with these numbers, where the words are numbers
abbrev pub run_with : List ℕ → List ℕ → List ℕ → List ℕ → List ℕ → Option Command
run_with spec sol callers room seed = with_numbers (run spec sol) (number_of callers) (number_of room) (number_of seed)

-- the command over a specification, a solution and three numbers
abbrev pub command_by : List ℕ → List ℕ → List ℕ → List ℕ → List ℕ → List ℕ → Option Command
command_by name spec sol callers room seed =
    if begins_with_dash spec || begins_with_dash sol then None else
    if bytes_eq name (codes "run") then run_with spec sol callers room seed else None

-- the name of the command, and as many words as it takes, of which none begins with a dash, and the last three of a run
-- are numbers
abbrev pub command_of : List (List ℕ) → Option Command
command_of (name ∷ spec ∷ []) = command_with name spec
command_of (name ∷ spec ∷ sol ∷ []) = command_on name spec sol
command_of (name ∷ spec ∷ sol ∷ file ∷ []) = command_over name spec sol file
command_of (name ∷ spec ∷ sol ∷ callers ∷ room ∷ seed ∷ []) = command_by name spec sol callers room seed
command_of words = None

-- the words of a command: its name, and behind it its files or its numbers
abbrev pub words_for : Command → List (List ℕ)
words_for (synth spec) = codes "synth" ∷ spec ∷ []
words_for (prove spec sol) = codes "prove" ∷ spec ∷ sol ∷ []
words_for (skel spec sol) = codes "skel" ∷ spec ∷ sol ∷ []
words_for (check spec sol certificate) = codes "check" ∷ spec ∷ sol ∷ certificate ∷ []
words_for (replay spec sol journal) = codes "replay" ∷ spec ∷ sol ∷ journal ∷ []
words_for (run spec sol callers room seed) = codes "run" ∷ spec ∷ sol ∷ decimal callers ∷ decimal room ∷ decimal seed ∷ []
words_for (migrate spec) = codes "migrate" ∷ spec ∷ []

-- the numbers of a command
abbrev pub numbers_of : Command → List ℕ
numbers_of (run spec sol callers room seed) = callers ∷ room ∷ seed ∷ []
numbers_of command = []

abbrev pub IsNarrow : ℕ → Type 0
IsNarrow n = n < 2 ^ 64

abbrev pub NoDash : List ℕ → Type 0
NoDash word = begins_with_dash word ≡ false

-- the words are those of this command, its numbers have 64 bits, and no word begins with a dash
pub record IsCommand (words : List (List ℕ)) (command : Command) : Type 0 where
  pub words_are : words ≡ words_for command
  pub no_dash : All NoDash words
  pub narrow : All IsNarrow (numbers_of command)

-- words are a command exactly where they are its words, its numbers have 64 bits, and no word begins with a dash
abbrev pub NamesCommands : Type 0
NamesCommands = (words : List (List ℕ)) (command : Command) → (command_of words ≡ Some command → IsCommand words command) × (IsCommand words command → command_of words ≡ Some command)

-- the first word is `run`
abbrev pub AsksRun : List (List ℕ) → Type 0
AsksRun [] = ⊥
AsksRun (name ∷ words) = name ≡ codes "run"

abbrev pub words_of : List (String Global) → List (List ℕ)
words_of = map string_bytes

abbrev pub usage_text : List ℕ
usage_text = codes "usage:\n  synth SPEC\n  prove SPEC SOL\n  skel SPEC SOL\n  check SPEC SOL CERT\n  replay SPEC SOL JOURNAL\n  run SPEC SOL CALLERS ROOM SEED\n  migrate SPEC\n"

-- the most bytes that a specification may have
abbrev pub spec_limit : ℕ
spec_limit = 1048576

-- the most bytes that a solution may have
abbrev pub solution_limit : ℕ
solution_limit = 67108864

-- the most bytes that a certificate may have
abbrev pub certificate_limit : ℕ
certificate_limit = 67108864

-- the most bytes that a journal may have
abbrev pub journal_limit : ℕ
journal_limit = 536870912

-- the files that a command asks for, each with the most bytes that it may have
abbrev pub asked_files : Option Command → List (List ℕ × ℕ)
asked_files (Some (synth spec)) = (spec, spec_limit) ∷ []
asked_files (Some (prove spec sol)) = (spec, spec_limit) ∷ (sol, solution_limit) ∷ []
asked_files (Some (skel spec sol)) = (spec, spec_limit) ∷ (sol, solution_limit) ∷ []
asked_files (Some (check spec sol certificate)) = (spec, spec_limit) ∷ (sol, solution_limit) ∷ (certificate, certificate_limit) ∷ []
asked_files (Some (replay spec sol journal)) = (spec, spec_limit) ∷ (sol, solution_limit) ∷ (journal, journal_limit) ∷ []
asked_files (Some (run spec sol callers room seed)) = (spec, spec_limit) ∷ (sol, solution_limit) ∷ []
asked_files (Some (migrate spec)) = (spec, spec_limit) ∷ []
asked_files None = []

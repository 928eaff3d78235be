-- What `replay` answers to a solution and a journal: the run that the journal's wishes are, or the first that does not
-- move.
use Rattle.std.specs.Prelude.{ℕ, ◌≡◌, ◌<◌, ◌⊎◌, List, [], ◌++◌, codes, decimal, length, slice_index}
use Rattle.std.specs.List.{flat_map, range_with_len}
use Rattle.pair_structure.specs.Structure.{Structure}
use Rattle.skeleton_extract.specs.SkeletonText.{name_at}
use Rattle.conjunctive_compose.specs.declared.wish.Wish.{Wish}
use Rattle.conjunctive_compose.specs.declared.wish.StepAnswer.{StepAnswer}
use Rattle.conjunctive_compose.specs.declared.wish.StepAnswer.TheVariants.{Moved, Away, Blocked}
use Rattle.conjunctive_compose.specs.System.{SystemParts, edge_at, edge_count, process_count, role_of}
use Rattle.conjunctive_compose.specs.Whole.{WholeParts, HasPair, local_at}
use Rattle.firing_journal.specs.declared.journal.Entry.{Entry}
use Rattle.firing_journal.specs.Journal.{wishes_of}
use Rattle.firing_journal.specs.Replay.{LeavesWhole, IsFirstStuck, wish_at}
use Rattle.firing_journal.specs.Text.{IsJournalText, IsRefused}
use Rattle.ctl_form.specs.Kind.{Solves}
use Rattle.ctl_text.specs.Value.{SpecParts, process_at}
use Rattle.skeleton_tool.specs.declared.status.Status.{Status}
use Rattle.skeleton_tool.specs.declared.status.Status.TheVariants.{Done, Fails}
use Rattle.skeleton_tool.specs.Command.{journal_limit}
use Rattle.skeleton_tool.specs.Failing.{NamesFailing}
use Rattle.skeleton_tool.specs.Reading.{Grammar}
use Rattle.skeleton_tool.specs.Taking.{ShelfSeen}
use Rattle.skeleton_tool.specs.Third.{AnswersThird, AnswersValue}

-- a journal for this system
abbrev pub journal_grammar : SystemParts → Grammar (List Entry)
journal_grammar sys = record { word = codes "journal"; limit = journal_limit; is_text = IsJournalText sys; is_refused = IsRefused sys }

abbrev pub process_name : SystemParts → ℕ → List ℕ
process_name sys k = (process_at sys.network.processes k).name

-- the name of a local state of this process's role
abbrev pub local_name : SystemParts → ℕ → ℕ → List ℕ
local_name sys k local = name_at (role_of sys k).locals local

-- a process: its local state, and how often it fired
abbrev pub process_line : SystemParts → WholeParts → List ℕ → ℕ → List ℕ
process_line sys w moves k = codes "process " ++ process_name sys k ++ codes " " ++ local_name sys k (local_at w k) ++ codes " " ++ decimal (slice_index moves k) ++ codes "\n"

-- an edge: its two processes, and its pair state
abbrev pub edge_line : SystemParts → List ℕ → ℕ → List ℕ
edge_line sys states e = codes "edge " ++ process_name sys (edge_at sys e).a ++ codes " " ++ process_name sys (edge_at sys e).b ++ codes " " ++ decimal (slice_index states e) ++ codes "\n"

abbrev pub processes_text : SystemParts → WholeParts → List ℕ → List ℕ
processes_text sys w moves = flat_map (process_line sys w moves) (range_with_len 0 (process_count sys))

abbrev pub edges_text : SystemParts → List ℕ → List ℕ
edges_text sys states = flat_map (edge_line sys states) (range_with_len 0 (edge_count sys))

-- so many entries, each process and each edge
abbrev pub run_text : SystemParts → ℕ → WholeParts → List ℕ → List ℕ → List ℕ
run_text sys count w moves states = codes "run " ++ decimal count ++ codes "\n" ++ processes_text sys w moves ++ edges_text sys states ++ codes "done\n"

-- the pair state of each edge
pub record AreStates (sys : SystemParts) (w : WholeParts) (states : List ℕ) : Type 0 where
  pub one_each : length states ≡ edge_count sys
  pub pairs : (e : ℕ) → e < edge_count sys → HasPair sys w e (slice_index states e)

-- the wishes are a run, and what it leaves is told
pub record TellsRun (sys : SystemParts) (run : List Wish) (text : List ℕ) : Type 0 where
  pub whole : WholeParts
  pub moves : List ℕ
  pub leaves : LeavesWhole sys run whole moves
  pub states : List ℕ
  pub are_states : AreStates sys whole states
  pub text_is : text ≡ run_text sys (length run) whole moves states

-- the place of a wish, and the local state of its process, which the arc does not leave
abbrev pub away_text : SystemParts → ℕ → ℕ → ℕ → List ℕ
away_text sys at k local = codes "not-a-run " ++ decimal at ++ codes " away " ++ local_name sys k local ++ codes "\n"

-- the place of a wish, and the neighbour that does not permit the arc
abbrev pub blocked_text : SystemParts → ℕ → ℕ → List ℕ
blocked_text sys at j = codes "not-a-run " ++ decimal at ++ codes " blocked " ++ process_name sys j ++ codes "\n"

-- why a wish of process k does not move
abbrev pub stuck_text : SystemParts → ℕ → ℕ → StepAnswer → List ℕ
stuck_text sys at k (Away local) = away_text sys at k local
stuck_text sys at k (Blocked j) = blocked_text sys at j
stuck_text sys at k Moved = []

-- the wishes are no run, and the first that does not move is told
pub record TellsStuck (sys : SystemParts) (run : List Wish) (text : List ℕ) : Type 0 where
  pub at : ℕ
  pub why : StepAnswer
  pub first : IsFirstStuck sys run at why
  pub text_is : text ≡ stuck_text sys at (wish_at run at).process why

-- the run that the wishes are, or the first that does not move
abbrev pub ReplaysWishes : SystemParts → List Wish → Status → List ℕ → Type 0
ReplaysWishes sys run Done text = TellsRun sys run text
ReplaysWishes sys run Fails text = TellsStuck sys run text
ReplaysWishes sys run status text = ⊥

-- the structures solve, and the wishes are told; or the first kind that fails is named
abbrev pub Replays : SpecParts → List Structure → SystemParts → List Wish → Status → List ℕ → Type 0
Replays v structures sys run status text = (Solves v.roles v.kinds structures × ReplaysWishes sys run status text) ⊎ ((status ≡ Fails) × NamesFailing v structures text)

abbrev pub ReplaysJournal : AnswersValue (List Entry)
ReplaysJournal v structures sys entries = Replays v structures sys (wishes_of entries)

-- the status and its text are an answer to this file as a journal of the system of the solution
abbrev pub AnswersJournal : ShelfSeen → List ℕ → SpecParts → List Structure → Status → List ℕ → Type 0
AnswersJournal = AnswersThird (λ v. journal_grammar) ReplaysJournal

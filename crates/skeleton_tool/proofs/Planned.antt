-- An answer is put whole, or a prefix of it is; no answer has the status of a write fault or of want of memory.
use Rattle.std.proofs.Common.{ℕ, ◌≡◌, inl, inr, List, Some, sym, subst}
use Rattle.pair_structure.specs.Role.{RoleParts}
use Rattle.pair_structure.specs.Structure.{Structure}
use Rattle.conjunctive_compose.specs.declared.wish.Wish.{Wish}
use Rattle.conjunctive_compose.specs.System.{SystemParts}
use Rattle.firing_journal.specs.Journal.{wishes_of}
use Rattle.edge_io.specs.Told.{Appends}
use Rattle.waitfor_check.specs.declared.star.Star.{Star}
use Rattle.waitfor_check.specs.declared.verdict.Verdict.{Verdict}
use Rattle.waitfor_check.specs.declared.verdict.Verdict.TheVariants.{Accepted, NoPeelAtStart, ShapeMissing, StartMissing, NotClosed, Waits}
use Rattle.ctl_form.specs.declared.pair_spec.PairSpec.{PairSpec}
use Rattle.ctl_text.specs.Value.{SpecParts}
use Rattle.skeleton_tool.specs.declared.status.Status.{Status}
use Rattle.skeleton_tool.specs.declared.status.Status.TheVariants.{Done, Usage, Refused, Unsatisfiable, Fails, ReadFault, WriteFault, OutOfLimits, OutOfMemory}
use Rattle.skeleton_tool.specs.Answer.{AnswersBoth, AnswersCommand, AnswersKinds, AnswersWords, IsOutcome, IsSaid, Proves, SinkSeen, spec_grammar, solution_grammar}
use Rattle.skeleton_tool.specs.Check.{AnswersCertificate, Checks, TellsVerdict, certificate_grammar, verdict_status}
use Rattle.skeleton_tool.specs.Command.{Command, synth, prove, skel, check, replay, run, migrate, command_of}
use Rattle.skeleton_tool.specs.Migrate.{Migrates}
use Rattle.skeleton_tool.specs.Reading.{Grammar, IsUnread, ReadsAndAnswers}
use Rattle.skeleton_tool.specs.Replay.{AnswersJournal, Replays, ReplaysJournal, ReplaysWishes, journal_grammar}
use Rattle.skeleton_tool.specs.Run.{Runs}
use Rattle.skeleton_tool.specs.Skel.{Skels}
use Rattle.skeleton_tool.specs.Taking.{ShelfSeen, IsUntaken}
use Rattle.skeleton_tool.specs.Third.{AnswersThird, AnswersValue}
use Rattle.skeleton_tool.specs.Top.{AnswersTop}

-- the status of a call that wrote no answer
abbrev IsUnwritten : Status → Type 0
IsUnwritten WriteFault = Unit {0}
IsUnwritten OutOfMemory = Unit {0}
IsUnwritten status = ⊥

not_of : (status other : Status) → IsUnwritten status → status ≡ other → IsUnwritten other
not_of status other unwritten is = subst IsUnwritten is unwritten

untaken : (shelf : ShelfSeen) (word file : List ℕ) (max : ℕ) (status : Status) (text : List ℕ) → IsUnwritten status → IsUntaken shelf word file max status text → ⊥
untaken shelf word file max WriteFault text unwritten h = h
untaken shelf word file max OutOfMemory text unwritten h = h
untaken shelf word file max status text unwritten h = unwritten

unread : {V : Type 0} (grammar : Grammar V) (shelf : ShelfSeen) (file : List ℕ) (status : Status) (text : List ℕ) → IsUnwritten status → IsUnread grammar shelf file status text → ⊥
unread grammar shelf file status text unwritten (inl h) = untaken shelf grammar.word file grammar.limit status text unwritten h
unread grammar shelf file status text unwritten (inr h) = not_of status Refused unwritten h.0

-- nor has what is read such a status, if what it says has none
reads : {V : Type 0} (grammar : Grammar V) (answers : V → Status → List ℕ → Type 0) (shelf : ShelfSeen) (file : List ℕ) (status : Status) (text : List ℕ) → IsUnwritten status → ((v : V) → answers v status text → ⊥) → ReadsAndAnswers grammar answers shelf file status text → ⊥
reads grammar answers shelf file status text unwritten none (inl h) = unread grammar shelf file status text unwritten h
reads grammar answers shelf file status text unwritten none (inr (v, read, h)) = none v h

both : (answers : SpecParts → List Structure → Status → List ℕ → Type 0) (shelf : ShelfSeen) (spec sol : List ℕ) (status : Status) (text : List ℕ) → IsUnwritten status → ((v : SpecParts) (structures : List Structure) → answers v structures status text → ⊥) → AnswersBoth answers shelf spec sol status text → ⊥
both answers shelf spec sol status text unwritten none h =
    reads spec_grammar (λ v. ReadsAndAnswers (solution_grammar v) (answers v) shelf sol) shelf spec status text unwritten (λ v. reads (solution_grammar v) (answers v) shelf sol status text unwritten (none v)) h

proves : (v : SpecParts) (structures : List Structure) (status : Status) (text : List ℕ) → IsUnwritten status → Proves v structures status text → ⊥
proves v structures WriteFault text unwritten h = h
proves v structures OutOfMemory text unwritten h = h
proves v structures status text unwritten h = unwritten

skels : (v : SpecParts) (structures : List Structure) (status : Status) (text : List ℕ) → IsUnwritten status → Skels v structures status text → ⊥
skels v structures WriteFault text unwritten h = h
skels v structures OutOfMemory text unwritten h = h
skels v structures status text unwritten h = unwritten

replays_wishes : (sys : SystemParts) (wishes : List Wish) (status : Status) (text : List ℕ) → IsUnwritten status → ReplaysWishes sys wishes status text → ⊥
replays_wishes sys wishes WriteFault text unwritten h = h
replays_wishes sys wishes OutOfMemory text unwritten h = h
replays_wishes sys wishes status text unwritten h = unwritten

replays : (v : SpecParts) (structures : List Structure) (sys : SystemParts) (wishes : List Wish) (status : Status) (text : List ℕ) → IsUnwritten status → Replays v structures sys wishes status text → ⊥
replays v structures sys wishes status text unwritten (inl h) = replays_wishes sys wishes status text unwritten h.1
replays v structures sys wishes status text unwritten (inr h) = not_of status Fails unwritten h.0

verdict : (sys : SystemParts) (stars : List Star) (status : Status) (text : List ℕ) → IsUnwritten status → TellsVerdict sys stars status text → ⊥
verdict sys stars status text unwritten h = no_verdict h.verdict (not_of status (verdict_status h.verdict) unwritten h.status_is)
  where
    no_verdict : (v : Verdict) → IsUnwritten (verdict_status v) → ⊥
    no_verdict Accepted u = u
    no_verdict NoPeelAtStart u = u
    no_verdict (ShapeMissing k) u = u
    no_verdict (StartMissing s) u = u
    no_verdict (NotClosed s m i) u = u
    no_verdict (Waits s m i) u = u

checks : (v : SpecParts) (structures : List Structure) (sys : SystemParts) (stars : List Star) (status : Status) (text : List ℕ) → IsUnwritten status → Checks v structures sys stars status text → ⊥
checks v structures sys stars status text unwritten (inl h) = verdict sys stars status text unwritten h.1
checks v structures sys stars status text unwritten (inr h) = not_of status Fails unwritten h.0

third : {V : Type 0} (grammar : SpecParts → SystemParts → Grammar V) (answers : AnswersValue V) (shelf : ShelfSeen) (file : List ℕ) (v : SpecParts) (structures : List Structure) (status : Status) (text : List ℕ) → IsUnwritten status → ((sys : SystemParts) (value : V) → answers v structures sys value status text → ⊥)
    → AnswersThird grammar answers shelf file v structures status text → ⊥
third grammar answers shelf file v structures status text unwritten none (sys, system, h) = reads (grammar v sys) (answers v structures sys) shelf file status text unwritten (none sys) h

kinds_answer : (roles : List RoleParts) (kinds : List PairSpec) (status : Status) (text : List ℕ) → IsUnwritten status → AnswersKinds roles kinds status text → ⊥
kinds_answer roles kinds WriteFault text unwritten h = h
kinds_answer roles kinds OutOfMemory text unwritten h = h
kinds_answer roles kinds status text unwritten h = unwritten

migrates : (v : SpecParts) (status : Status) (text : List ℕ) → IsUnwritten status → Migrates v status text → ⊥
migrates v WriteFault text unwritten h = h
migrates v OutOfMemory text unwritten h = h
migrates v status text unwritten h = unwritten

-- no answer to a command has such a status
unwritten_answer : (shelf : ShelfSeen) (command : Command) (status : Status) (text : List ℕ) → IsUnwritten status → AnswersCommand shelf command status text → ⊥
unwritten_answer shelf (synth spec) status text unwritten h = reads spec_grammar (λ v. AnswersKinds v.roles v.kinds) shelf spec status text unwritten (λ v. kinds_answer v.roles v.kinds status text unwritten) h
unwritten_answer shelf (prove spec sol) status text unwritten h = both Proves shelf spec sol status text unwritten (λ v structures. proves v structures status text unwritten) h
unwritten_answer shelf (skel spec sol) status text unwritten h = both Skels shelf spec sol status text unwritten (λ v structures. skels v structures status text unwritten) h
unwritten_answer shelf (check spec sol file) status text unwritten h = both (AnswersCertificate shelf file) shelf spec sol status text unwritten (λ v structures. third certificate_grammar Checks shelf file v structures status text unwritten (λ sys stars. checks v structures sys stars status text unwritten)) h
unwritten_answer shelf (replay spec sol file) status text unwritten h = both (AnswersJournal shelf file) shelf spec sol status text unwritten (λ v structures. third (λ v. journal_grammar) ReplaysJournal shelf file v structures status text unwritten (λ sys entries. replays v structures sys (wishes_of entries) status text unwritten)) h
unwritten_answer shelf (run spec sol callers room seed) status text unwritten h = h
unwritten_answer shelf (migrate spec) status text unwritten h = reads spec_grammar Migrates shelf spec status text unwritten (λ v. migrates v status text unwritten) h

unwritten_words : (words : List (List ℕ)) (shelf : ShelfSeen) (status : Status) (text : List ℕ) → IsUnwritten status → AnswersWords words shelf status text → ⊥
unwritten_words words shelf status text unwritten (inl h) = not_of status Usage unwritten h.1
unwritten_words words shelf status text unwritten (inr h) = unwritten_answer shelf h.0 status text unwritten h.2

runs : (turn callers room seed : ℕ) (v : SpecParts) (structures : List Structure) (status : Status) (text : List ℕ) → IsUnwritten status → Runs turn callers room seed v structures status text → ⊥
runs turn callers room seed v structures WriteFault text unwritten h = h
runs turn callers room seed v structures OutOfMemory text unwritten h = h
runs turn callers room seed v structures status text unwritten h = unwritten

unwritten_run : (turn callers room seed : ℕ) (shelf : ShelfSeen) (spec sol : List ℕ) (status : Status) (text : List ℕ) → IsUnwritten status → AnswersBoth (Runs turn callers room seed) shelf spec sol status text → ⊥
unwritten_run turn callers room seed shelf spec sol status text unwritten h = both (Runs turn callers room seed) shelf spec sol status text unwritten (λ v structures. runs turn callers room seed v structures status text unwritten) h

-- none of these answers has such a status
abbrev NeverUnwritten : (Status → List ℕ → Type 0) → Type 0
NeverUnwritten answers = (status : Status) (text : List ℕ) → IsUnwritten status → answers status text → ⊥

-- an answer that was put whole
put_whole : (answers : Status → List ℕ → Type 0) (sink : SinkSeen) (status : Status) (text : List ℕ) → NeverUnwritten answers → answers status text → Appends sink.before sink.after text → IsOutcome answers sink status
put_whole answers sink WriteFault text never answer appends = absurd (never WriteFault text tt answer)
put_whole answers sink OutOfMemory text never answer appends = absurd (never OutOfMemory text tt answer)
put_whole answers sink status text never answer appends = (text, answer, appends)

-- an answer that was put, whole or in part
put_answer : (answers : Status → List ℕ → Type 0) (sink : SinkSeen) (status said : Status) (text put : List ℕ) → NeverUnwritten answers → answers status text → put ≡ text → IsSaid status put sink said → IsOutcome answers sink said
put_answer answers sink status said text put never answer same (inl h) = subst (IsOutcome answers sink) (sym h.0) (put_whole answers sink status text never answer (rw same at h.1))
put_answer answers sink status said text put never answer same (inr h) = subst (IsOutcome answers sink) (sym h.0) (status, text, answer, h.1, rw same at h.2)

pub put_words : (words : List (List ℕ)) (shelf : ShelfSeen) (sink : SinkSeen) (status said : Status) (text put : List ℕ) → AnswersWords words shelf status text → put ≡ text → IsSaid status put sink said → IsOutcome (AnswersWords words shelf) sink said
put_words words shelf sink status said text put answer same h = put_answer (AnswersWords words shelf) sink status said text put (unwritten_words words shelf) answer same h

pub put_run : (turn callers room seed : ℕ) (shelf : ShelfSeen) (spec sol : List ℕ) (sink : SinkSeen) (status said : Status) (text put : List ℕ) → AnswersBoth (Runs turn callers room seed) shelf spec sol status text → put ≡ text → IsSaid status put sink said → IsOutcome (AnswersBoth (Runs turn callers room seed) shelf spec sol) sink said
put_run turn callers room seed shelf spec sol sink status said text put answer same h = put_answer (AnswersBoth (Runs turn callers room seed) shelf spec sol) sink status said text put (unwritten_run turn callers room seed shelf spec sol) answer same h

outcome_is : (one other : Status → List ℕ → Type 0) (sink : SinkSeen) (status : Status) → ((s : Status) (t : List ℕ) → one s t → other s t) → IsOutcome one sink status → IsOutcome other sink status
outcome_is one other sink WriteFault each h = (h.0, h.1, each h.0 h.1 h.2, h.3, h.4)
outcome_is one other sink OutOfMemory each h = h
outcome_is one other sink status each h = (h.0, each status h.0 h.1, h.2)

-- what `plan` answers is what `top` answers
pub words_top : (turn : ℕ) (words : List (List ℕ)) (shelf : ShelfSeen) (sink : SinkSeen) (status : Status) → IsOutcome (AnswersWords words shelf) sink status → IsOutcome (AnswersTop turn words shelf) sink status
words_top turn words shelf sink status h = outcome_is (AnswersWords words shelf) (AnswersTop turn words shelf) sink status (λ s t. inr) h

-- what a run is answered is what `top` answers
pub run_top : (turn callers room seed : ℕ) (words : List (List ℕ)) (shelf : ShelfSeen) (spec sol : List ℕ) (sink : SinkSeen) (status : Status) → command_of words ≡ Some (run spec sol callers room seed) → IsOutcome (AnswersBoth (Runs turn callers room seed) shelf spec sol) sink status → IsOutcome (AnswersTop turn words shelf) sink status
run_top turn callers room seed words shelf spec sol sink status is h =
    outcome_is (AnswersBoth (Runs turn callers room seed) shelf spec sol) (AnswersTop turn words shelf) sink status
    (λ s t answer. inl (record { spec = spec; sol = sol; callers = callers; room = room; seed = seed; command_is = is; answer = answer }))
    h

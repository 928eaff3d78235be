-- What a call promises of each command follows from its outcome.
use Rattle.std.proofs.Common.{ℕ, ◌≡◌, ◌⊎◌, ◌∙◌, inl, inr, Some, List, codes, sym, subst, ap, refl}
use Rattle.std.specs.Prelude.{◌==◌, if◌then◌else◌}
use Rattle.edge_io.specs.Told.{Appends}
use Rattle.pair_structure.specs.Structure.{Structure}
use Rattle.conjunctive_compose.specs.System.{SystemParts}
use Rattle.firing_journal.specs.declared.journal.Entry.{Entry}
use Rattle.firing_journal.specs.Journal.{wishes_of}
use Rattle.ctl_form.specs.Kind.{Solves}
use Rattle.ctl_text.specs.Value.{SpecParts}
use Rattle.waitfor_check.specs.declared.star.Star.{Star}
use Rattle.waitfor_check.specs.declared.verdict.Verdict.{Verdict}
use Rattle.waitfor_check.specs.declared.verdict.Verdict.TheVariants.{Accepted, NoPeelAtStart, ShapeMissing, StartMissing, NotClosed, Waits}
use Rattle.waitfor_check.specs.Accepted.{IsAccepted}
use Rattle.waitfor_check.specs.Verdicts.{IsVerdict}
use Rattle.waitfor_check.proofs.GoingOn.{accepted_goes_on}
use Rattle.skeleton_tool.specs.declared.status.Status.{Status}
use Rattle.skeleton_tool.specs.declared.status.Status.TheVariants.{Done, Usage, Refused, Unsatisfiable, Fails, ReadFault, WriteFault, OutOfLimits, OutOfMemory}
use Rattle.skeleton_tool.specs.Answer.{SinkSeen, AnswersBoth, AnswersKinds, IsOutcome, Proves, spec_grammar, solution_grammar}
use Rattle.firing_crew.specs.Crews.{orders_of}
use Rattle.skeleton_tool.specs.Check.{AnswersCertificate, Checks, TellsVerdict, certificate_grammar, verdict_status, verdict_text}
use Rattle.skeleton_tool.specs.Command.{Command, synth, prove, skel, check, replay, run, migrate, command_of}
use Rattle.skeleton_tool.specs.Failing.{NamesFailing}
use Rattle.skeleton_tool.specs.Headline.{CheckJudges, IsCalled, MigrateWrites, Promises, ProveJudges, ReplayTells, RunReports, RunsGoOn, SkelShows, SynthFindsNone, SynthSolves}
use Rattle.skeleton_tool.specs.Migrate.{Migrates}
use Rattle.skeleton_tool.specs.Reading.{Grammar, IsTold, IsUnread, ReadsAndAnswers}
use Rattle.skeleton_tool.specs.Replay.{AnswersJournal, Replays, ReplaysJournal, TellsRun, TellsStuck, journal_grammar}
use Rattle.skeleton_tool.specs.Run.{IsReportOf, Runs}
use Rattle.skeleton_tool.specs.Skel.{Skels}
use Rattle.skeleton_tool.specs.Status.{code_of}
use Rattle.skeleton_tool.specs.Taking.{ShelfSeen, IsUntaken}
use Rattle.skeleton_tool.specs.Third.{AnswersThird, AnswersValue, IsSystemOf}
use Rattle.skeleton_tool.specs.Top.{AnswersTop, IsTopped}
use Rattle.skeleton_tool.proofs.OneSystem.{one_system}
use Rattle.skeleton_tool.proofs.Told.{AnswersAny, top_answers, both_told, reads_told}

-- the status of a number
abbrev status_of : ℕ → Status
status_of n =
    if n == 0 then Done else if n == 1 then Usage else if n == 2 then Refused else if n == 3 then Unsatisfiable else if n == 4 then Fails else if n == 5 then ReadFault else if n == 6 then WriteFault else if n == 7 then OutOfLimits else OutOfMemory

status_of-code_of : (status : Status) → status_of (code_of status) ≡ status
status_of-code_of Done = refl
status_of-code_of Usage = refl
status_of-code_of Refused = refl
status_of-code_of Unsatisfiable = refl
status_of-code_of Fails = refl
status_of-code_of ReadFault = refl
status_of-code_of WriteFault = refl
status_of-code_of OutOfLimits = refl
status_of-code_of OutOfMemory = refl

-- a command's own status, which no file that is not read has
abbrev IsOwn : Status → Type 0
IsOwn Done = Unit {0}
IsOwn Unsatisfiable = Unit {0}
IsOwn Fails = Unit {0}
IsOwn OutOfLimits = Unit {0}
IsOwn status = ⊥

untaken : (shelf : ShelfSeen) (word file : List ℕ) (max : ℕ) (status : Status) (text : List ℕ) → IsOwn status → IsUntaken shelf word file max status text → ⊥
untaken shelf word file max Done text own h = h
untaken shelf word file max Unsatisfiable text own h = h
untaken shelf word file max Fails text own h = h
untaken shelf word file max OutOfLimits text own h = h
untaken shelf word file max status text own h = own

unread : {V : Type 0} (grammar : Grammar V) (shelf : ShelfSeen) (file : List ℕ) (status : Status) (text : List ℕ) → IsOwn status → IsUnread grammar shelf file status text → ⊥
unread grammar shelf file status text own (inl h) = untaken shelf grammar.word file grammar.limit status text own h
unread grammar shelf file status text own (inr h) = subst IsOwn h.0 own

-- with such a status the command's own answer was written
own_status_writes : (turn : ℕ) (words : List (List ℕ)) (shelf : ShelfSeen) (sink : SinkSeen) (command : Command) (status : Status) → command_of words ≡ Some command → IsOwn status → IsOutcome (AnswersTop turn words shelf) sink status → (text : List ℕ) × AnswersAny turn shelf command status text × Appends sink.before sink.after text
own_status_writes turn words shelf sink command Done is own h = (h.0, top_answers turn words shelf Done h.0 command is h.1, h.2)
own_status_writes turn words shelf sink command Unsatisfiable is own h = (h.0, top_answers turn words shelf Unsatisfiable h.0 command is h.1, h.2)
own_status_writes turn words shelf sink command Fails is own h = (h.0, top_answers turn words shelf Fails h.0 command is h.1, h.2)
own_status_writes turn words shelf sink command OutOfLimits is own h = (h.0, top_answers turn words shelf OutOfLimits h.0 command is h.1, h.2)
own_status_writes turn words shelf sink command status is own h = absurd own

own_answer : (turn : ℕ) (words : List (List ℕ)) (shelf : ShelfSeen) (sink : SinkSeen) (code : ℕ) (command : Command) (status : Status) → IsTopped turn words shelf sink code → command_of words ≡ Some command → code ≡ code_of status → IsOwn status → (text : List ℕ) × AnswersAny turn shelf command status text × Appends sink.before sink.after text
own_answer turn words shelf sink code command status (other, other_is, outcome) is code_is own =
    let same : other ≡ status = sym (status_of-code_of other) ∙ ap status_of (sym other_is ∙ code_is) ∙ status_of-code_of status in
    own_status_writes turn words shelf sink command status is own (subst (IsOutcome (AnswersTop turn words shelf) sink) same outcome)

kinds_answer : (turn : ℕ) (words : List (List ℕ)) (shelf : ShelfSeen) (sink : SinkSeen) (code : ℕ) (status : Status) (files : List (List ℕ × List ℕ)) (spec : List ℕ) (v : SpecParts)
    → IsTopped turn words shelf sink code → IsCalled words shelf (synth spec) files → IsTold spec_grammar files spec v → code ≡ code_of status → IsOwn status → (text : List ℕ) × AnswersKinds v.roles v.kinds status text × Appends sink.before sink.after text
kinds_answer turn words shelf sink code status files spec v planned called told code_is own =
    let own_is = own_answer turn words shelf sink code (synth spec) status planned called.command_is code_is own in
    (own_is.0, reads_told spec_grammar (λ u. AnswersKinds u.roles u.kinds) shelf files spec v status own_is.0 called.told (unread spec_grammar shelf spec status own_is.0 own) told own_is.1, own_is.2)

synth_solves : (turn : ℕ) (words : List (List ℕ)) (shelf : ShelfSeen) (sink : SinkSeen) (code : ℕ) → IsTopped turn words shelf sink code → SynthSolves words shelf sink code
synth_solves turn words shelf sink code planned files spec v called told is = kinds_answer turn words shelf sink code Done files spec v planned called told is tt

synth_finds_none : (turn : ℕ) (words : List (List ℕ)) (shelf : ShelfSeen) (sink : SinkSeen) (code : ℕ) → IsTopped turn words shelf sink code → SynthFindsNone words shelf sink code
synth_finds_none turn words shelf sink code planned files spec v called told is = kinds_answer turn words shelf sink code Unsatisfiable files spec v planned called told is tt

both_own : (answers : SpecParts → List Structure → Status → List ℕ → Type 0) (shelf : ShelfSeen) (files : List (List ℕ × List ℕ)) (spec sol : List ℕ) (v : SpecParts) (structures : List Structure) (status : Status) (text : List ℕ)
    → shelf.files ≡ Some files → IsOwn status → IsTold spec_grammar files spec v → IsTold (solution_grammar v) files sol structures → AnswersBoth answers shelf spec sol status text → answers v structures status text
both_own answers shelf files spec sol v structures status text told own spec_is sol_is h =
    both_told answers shelf files spec sol v structures status text told (unread spec_grammar shelf spec status text own) (unread (solution_grammar v) shelf sol status text own) spec_is sol_is h

prove_judges : (turn : ℕ) (words : List (List ℕ)) (shelf : ShelfSeen) (sink : SinkSeen) (code : ℕ) → IsTopped turn words shelf sink code → ProveJudges words shelf sink code
prove_judges turn words shelf sink code planned files spec sol v structures called spec_is sol_is = (
  λ is.
      (let own = own_answer turn words shelf sink code (prove spec sol) Done planned called.command_is is tt in
      let proves = both_own Proves shelf files spec sol v structures Done own.0 called.told tt spec_is sol_is own.1 in
      (proves.0, (own.0, proves.1, own.2))),
  λ is.
      (let own = own_answer turn words shelf sink code (prove spec sol) Fails planned called.command_is is tt in
      (own.0, both_own Proves shelf files spec sol v structures Fails own.0 called.told tt spec_is sol_is own.1, own.2)),
)

skel_shows : (turn : ℕ) (words : List (List ℕ)) (shelf : ShelfSeen) (sink : SinkSeen) (code : ℕ) → IsTopped turn words shelf sink code → SkelShows words shelf sink code
skel_shows turn words shelf sink code planned files spec sol v structures called spec_is sol_is = (
  λ is.
      (let own = own_answer turn words shelf sink code (skel spec sol) Done planned called.command_is is tt in
      let shows = both_own Skels shelf files spec sol v structures Done own.0 called.told tt spec_is sol_is own.1 in
      (shows.0, (own.0, shows.1, own.2))),
  λ is.
      (let own = own_answer turn words shelf sink code (skel spec sol) Fails planned called.command_is is tt in
      (own.0, both_own Skels shelf files spec sol v structures Fails own.0 called.told tt spec_is sol_is own.1, own.2)),
)

third_own : {V : Type 0} (grammar : SpecParts → SystemParts → Grammar V) (answers : AnswersValue V) (shelf : ShelfSeen) (files : List (List ℕ × List ℕ)) (spec sol file : List ℕ) (v : SpecParts) (structures : List Structure) (sys : SystemParts) (value : V) (status : Status) (text : List ℕ)
    → shelf.files ≡ Some files → IsOwn status → IsTold spec_grammar files spec v → IsTold (solution_grammar v) files sol structures → IsSystemOf v structures sys → IsTold (grammar v sys) files file value → AnswersBoth (AnswersThird grammar answers shelf file) shelf spec sol status text
    → answers v structures sys value status text
third_own grammar answers shelf files spec sol file v structures sys value status text told own spec_is sol_is system file_is h =
    let (other, other_is, behind) = both_own (AnswersThird grammar answers shelf file) shelf files spec sol v structures status text told own spec_is sol_is h in
    let here = subst (λ (s : SystemParts). ReadsAndAnswers (grammar v s) (answers v structures s) shelf file status text) (one_system v structures other sys other_is system) behind in
    reads_told (grammar v sys) (answers v structures sys) shelf files file value status text told (unread (grammar v sys) shelf file status text own) file_is here

-- with 0 the verdict is that the certificate is accepted
accepted_verdict : (sys : SystemParts) (stars : List Star) (text : List ℕ) (verdict : Verdict) → Done ≡ verdict_status verdict → IsVerdict sys stars verdict → text ≡ verdict_text sys verdict → IsAccepted sys stars × (text ≡ codes "accepted\n")
accepted_verdict sys stars text Accepted is h text_is = (h, text_is)
accepted_verdict sys stars text NoPeelAtStart is h text_is = absurd (let e : Done ≡ Fails = is in cc)
accepted_verdict sys stars text (ShapeMissing k) is h text_is = absurd (let e : Done ≡ Fails = is in cc)
accepted_verdict sys stars text (StartMissing s) is h text_is = absurd (let e : Done ≡ Fails = is in cc)
accepted_verdict sys stars text (NotClosed s m i) is h text_is = absurd (let e : Done ≡ Fails = is in cc)
accepted_verdict sys stars text (Waits s m i) is h text_is = absurd (let e : Done ≡ Fails = is in cc)

done_accepts : (v : SpecParts) (structures : List Structure) (sys : SystemParts) (stars : List Star) (text : List ℕ) → Checks v structures sys stars Done text → Solves v.roles v.kinds structures × IsAccepted sys stars × (text ≡ codes "accepted\n")
done_accepts v structures sys stars text (inl h) = let accepted = accepted_verdict sys stars text h.1.verdict h.1.status_is h.1.is_verdict h.1.text_is in (h.0, accepted.0, accepted.1)
done_accepts v structures sys stars text (inr h) = absurd (let e : Done ≡ Fails = h.0 in cc)

refused_so : (v : SpecParts) (structures : List Structure) (sys : SystemParts) (stars : List Star) (text : List ℕ) → Checks v structures sys stars Fails text → (Solves v.roles v.kinds structures × TellsVerdict sys stars Fails text) ⊎ NamesFailing v structures text
refused_so v structures sys stars text (inl h) = inl h
refused_so v structures sys stars text (inr h) = inr h.1

check_judges : (turn : ℕ) (words : List (List ℕ)) (shelf : ShelfSeen) (sink : SinkSeen) (code : ℕ) → IsTopped turn words shelf sink code → CheckJudges words shelf sink code
check_judges turn words shelf sink code planned files spec sol file v structures sys stars called spec_is sol_is system file_is = (
  λ is.
      (let own = own_answer turn words shelf sink code (check spec sol file) Done planned called.command_is is tt in
      let done = done_accepts v structures sys stars own.0 (third_own certificate_grammar Checks shelf files spec sol file v structures sys stars Done own.0 called.told tt spec_is sol_is system file_is own.1) in
      (done.0, done.1, (λ wishes run. accepted_goes_on sys stars wishes system.system done.1 run), (own.0, done.2, own.2))),
  λ is.
      (let own = own_answer turn words shelf sink code (check spec sol file) Fails planned called.command_is is tt in
      (own.0, refused_so v structures sys stars own.0 (third_own certificate_grammar Checks shelf files spec sol file v structures sys stars Fails own.0 called.told tt spec_is sol_is system file_is own.1), own.2)),
)

done_runs : (v : SpecParts) (structures : List Structure) (sys : SystemParts) (entries : List Entry) (text : List ℕ) → Replays v structures sys (wishes_of entries) Done text → Solves v.roles v.kinds structures × TellsRun sys (wishes_of entries) text
done_runs v structures sys entries text (inl h) = h
done_runs v structures sys entries text (inr h) = absurd (let e : Done ≡ Fails = h.0 in cc)

fails_so : (v : SpecParts) (structures : List Structure) (sys : SystemParts) (entries : List Entry) (text : List ℕ) → Replays v structures sys (wishes_of entries) Fails text → (Solves v.roles v.kinds structures × TellsStuck sys (wishes_of entries) text) ⊎ NamesFailing v structures text
fails_so v structures sys entries text (inl h) = inl h
fails_so v structures sys entries text (inr h) = inr h.1

replay_tells : (turn : ℕ) (words : List (List ℕ)) (shelf : ShelfSeen) (sink : SinkSeen) (code : ℕ) → IsTopped turn words shelf sink code → ReplayTells words shelf sink code
replay_tells turn words shelf sink code planned files spec sol journal v structures sys entries called spec_is sol_is system journal_is = (
  λ is.
      (let own = own_answer turn words shelf sink code (replay spec sol journal) Done planned called.command_is is tt in
      let runs = done_runs v structures sys entries own.0 (third_own (λ v. journal_grammar) ReplaysJournal shelf files spec sol journal v structures sys entries Done own.0 called.told tt spec_is sol_is system journal_is own.1) in
      (runs.0, (own.0, runs.1, own.2))),
  λ is.
      (let own = own_answer turn words shelf sink code (replay spec sol journal) Fails planned called.command_is is tt in
      (own.0, fails_so v structures sys entries own.0 (third_own (λ v. journal_grammar) ReplaysJournal shelf files spec sol journal v structures sys entries Fails own.0 called.told tt spec_is sol_is system journal_is own.1), own.2)),
)

migrate_writes : (turn : ℕ) (words : List (List ℕ)) (shelf : ShelfSeen) (sink : SinkSeen) (code : ℕ) → IsTopped turn words shelf sink code → MigrateWrites words shelf sink code
migrate_writes turn words shelf sink code planned files spec v called told is =
    let own = own_answer turn words shelf sink code (migrate spec) Done planned called.command_is is tt in
    (own.0, reads_told spec_grammar Migrates shelf files spec v Done own.0 called.told (unread spec_grammar shelf spec Done own.0 tt) told own.1, own.2)

pub run_reports : (turn : ℕ) (words : List (List ℕ)) (shelf : ShelfSeen) (sink : SinkSeen) (code : ℕ) → IsTopped turn words shelf sink code → RunReports turn words shelf sink code
run_reports turn words shelf sink code planned files spec sol callers room seed v structures sys called spec_is sol_is system = (
  λ is.
      (let own = own_answer turn words shelf sink code (run spec sol callers room seed) Done planned called.command_is is tt in
      let reports = both_own (Runs turn callers room seed) shelf files spec sol v structures Done own.0 called.told tt spec_is sol_is own.1 in
      let one = one_system v structures reports.1.sys sys reports.1.system system in
      (reports.0, reports.1.within, (own.0, subst (λ (s : SystemParts). IsReportOf s (orders_of callers room seed turn) own.0) one reports.1.report, own.2))),
  λ is.
      (let own = own_answer turn words shelf sink code (run spec sol callers room seed) OutOfLimits planned called.command_is is tt in
      let limits = both_own (Runs turn callers room seed) shelf files spec sol v structures OutOfLimits own.0 called.told tt spec_is sol_is own.1 in
      (limits.0, limits.1.past, (own.0, limits.1.text_is, own.2))),
  λ is.
      (let own = own_answer turn words shelf sink code (run spec sol callers room seed) Fails planned called.command_is is tt in
      (own.0, both_own (Runs turn callers room seed) shelf files spec sol v structures Fails own.0 called.told tt spec_is sol_is own.1, own.2)),
)

pub Promises-from_topped : (turn : ℕ) (words : List (List ℕ)) (shelf : ShelfSeen) (sink : SinkSeen) (code : ℕ) → IsTopped turn words shelf sink code → Promises words shelf sink code
Promises-from_topped turn words shelf sink code planned = record {
  synth_solves = synth_solves turn words shelf sink code planned;
  synth_finds_none = synth_finds_none turn words shelf sink code planned;
  prove_judges = prove_judges turn words shelf sink code planned;
  skel_shows = skel_shows turn words shelf sink code planned;
  check_judges = check_judges turn words shelf sink code planned;
  replay_tells = replay_tells turn words shelf sink code planned;
  migrate_writes = migrate_writes turn words shelf sink code planned;
}

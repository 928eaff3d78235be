-- Where nothing hinders a command, it ends with a status that its files decide, or for want of memory.
use Rattle.std.proofs.Common.{ℕ, ◌≡◌, ◌⊎◌, ◌∙◌, inl, inr, List, sym, subst, ap, refl}
use Rattle.pair_structure.specs.Structure.{Structure}
use Rattle.conjunctive_compose.specs.declared.wish.Wish.{Wish}
use Rattle.conjunctive_compose.specs.System.{SystemParts}
use Rattle.firing_journal.specs.declared.journal.Entry.{Entry}
use Rattle.firing_journal.specs.Journal.{wishes_of}
use Rattle.ctl_form.specs.Kind.{Solves}
use Rattle.ctl_text.specs.Value.{SpecParts}
use Rattle.waitfor_check.specs.declared.star.Star.{Star}
use Rattle.waitfor_check.specs.declared.verdict.Verdict.{Verdict}
use Rattle.waitfor_check.specs.declared.verdict.Verdict.TheVariants.{Accepted, NoPeelAtStart, ShapeMissing, StartMissing, NotClosed, Waits}
use Rattle.waitfor_check.specs.Accepted.{IsAccepted}
use Rattle.waitfor_check.specs.Fitting.{Fits}
use Rattle.waitfor_check.specs.Verdicts.{IsVerdict}
use Rattle.waitfor_check.proofs.OneVerdict.{one_verdict}
use Rattle.skeleton_tool.specs.declared.status.Status.{Status}
use Rattle.skeleton_tool.specs.declared.status.Status.TheVariants.{Done, Usage, Refused, Unsatisfiable, Fails, ReadFault, WriteFault, OutOfLimits, OutOfMemory}
use Rattle.skeleton_tool.specs.Answer.{SinkSeen, AnswersBoth, AnswersKinds, IsOutcome, Proves, spec_grammar, solution_grammar}
use Rattle.skeleton_tool.specs.Check.{AnswersCertificate, Checks, TellsVerdict, certificate_grammar, verdict_status}
use Rattle.skeleton_tool.specs.Command.{Command, synth, prove, skel, check, replay, run, migrate}
use Rattle.skeleton_tool.specs.Complete.{Decides, IsUnhindered, DecidesSpec, DecidesSynth, DecidesSolution, DecidesProve, DecidesSkel, DecidesStars, DecidesCheck, DecidesRun, DecidesReplay, DecidesNumbers, DecidesFiring, DecidesMigrate}
use Rattle.skeleton_tool.specs.Migrate.{Migrates}
use Rattle.skeleton_tool.specs.Reading.{Grammar, IsTold, IsUnread, ReadsAndAnswers}
use Rattle.skeleton_tool.specs.Replay.{AnswersJournal, Replays, ReplaysJournal, ReplaysWishes, journal_grammar}
use Rattle.skeleton_tool.specs.Run.{Runs}
use Rattle.skeleton_tool.specs.Skel.{Skels}
use Rattle.skeleton_tool.specs.Status.{code_of}
use Rattle.skeleton_tool.specs.Taking.{ShelfSeen, IsUntaken}
use Rattle.skeleton_tool.specs.Third.{AnswersThird, AnswersValue, IsSystemOf}
use Rattle.skeleton_tool.specs.Top.{AnswersTop, IsTopped}
use Rattle.skeleton_tool.proofs.OneSystem.{one_system}
use Rattle.skeleton_tool.proofs.Solved.{never_fails}
use Rattle.skeleton_tool.proofs.Told.{AnswersAny, top_answers, both_told, never_bad, reads_told}

never_untaken : (words : List (List ℕ)) (shelf : ShelfSeen) (sink : SinkSeen) (command : Command) (all : List (List ℕ × List ℕ)) (word file : List ℕ) (max : ℕ) (status : Status) (text : List ℕ) → IsUnhindered words shelf sink command all → IsUntaken shelf word file max status text → ⊥
never_untaken words shelf sink command all word file max Refused text free h = free.none_long h.0.counted
never_untaken words shelf sink command all word file max ReadFault text free h = free.no_fault h.0
never_untaken words shelf sink command all word file max Done text free h = h
never_untaken words shelf sink command all word file max Usage text free h = h
never_untaken words shelf sink command all word file max Unsatisfiable text free h = h
never_untaken words shelf sink command all word file max Fails text free h = h
never_untaken words shelf sink command all word file max WriteFault text free h = h
never_untaken words shelf sink command all word file max OutOfLimits text free h = h
never_untaken words shelf sink command all word file max OutOfMemory text free h = h

-- where nothing hinders it, a told file that is a text of a value is read
never_unread : {V : Type 0} (grammar : Grammar V) (words : List (List ℕ)) (shelf : ShelfSeen) (sink : SinkSeen) (command : Command) (all : List (List ℕ × List ℕ)) (file : List ℕ) (v : V) (status : Status) (text : List ℕ) → IsUnhindered words shelf sink command all → IsTold grammar all file v → IsUnread grammar shelf file status text → ⊥
never_unread grammar words shelf sink command all file v status text free told (inl h) = never_untaken words shelf sink command all grammar.word file grammar.limit status text free h
never_unread grammar words shelf sink command all file v status text free told (inr h) = never_bad grammar shelf.files all file v text free.told told h.1

unhindered_both : (answers : SpecParts → List Structure → Status → List ℕ → Type 0) (words : List (List ℕ)) (shelf : ShelfSeen) (sink : SinkSeen) (command : Command) (all : List (List ℕ × List ℕ)) (spec sol : List ℕ) (v : SpecParts) (structures : List Structure) (status : Status) (text : List ℕ)
    → IsUnhindered words shelf sink command all → IsTold spec_grammar all spec v → IsTold (solution_grammar v) all sol structures → AnswersBoth answers shelf spec sol status text → answers v structures status text
unhindered_both answers words shelf sink command all spec sol v structures status text free spec_is sol_is h =
    both_told answers shelf all spec sol v structures status text free.told (never_unread spec_grammar words shelf sink command all spec v status text free spec_is) (never_unread (solution_grammar v) words shelf sink command all sol structures status text free sol_is) spec_is sol_is h

-- a call that nothing hinders answers its command, or memory ran out
answered : (turn : ℕ) (words : List (List ℕ)) (shelf : ShelfSeen) (sink : SinkSeen) (command : Command) (all : List (List ℕ × List ℕ)) (status : Status) → IsUnhindered words shelf sink command all → IsOutcome (AnswersTop turn words shelf) sink status → (status ≡ OutOfMemory) ⊎ ((text : List ℕ) × AnswersAny turn shelf command status text)
answered turn words shelf sink command all WriteFault free (other, text, answer, rose, prefix) = absurd (free.written rose)
answered turn words shelf sink command all OutOfMemory free h = inl refl
answered turn words shelf sink command all Done free h = inr (h.0, top_answers turn words shelf Done h.0 command free.command_is h.1)
answered turn words shelf sink command all Usage free h = inr (h.0, top_answers turn words shelf Usage h.0 command free.command_is h.1)
answered turn words shelf sink command all Refused free h = inr (h.0, top_answers turn words shelf Refused h.0 command free.command_is h.1)
answered turn words shelf sink command all Unsatisfiable free h = inr (h.0, top_answers turn words shelf Unsatisfiable h.0 command free.command_is h.1)
answered turn words shelf sink command all Fails free h = inr (h.0, top_answers turn words shelf Fails h.0 command free.command_is h.1)
answered turn words shelf sink command all ReadFault free h = inr (h.0, top_answers turn words shelf ReadFault h.0 command free.command_is h.1)
answered turn words shelf sink command all OutOfLimits free h = inr (h.0, top_answers turn words shelf OutOfLimits h.0 command free.command_is h.1)

-- what follows from each answer to the command follows from the outcome
decided : (turn : ℕ) (words : List (List ℕ)) (shelf : ShelfSeen) (sink : SinkSeen) (command : Command) (all : List (List ℕ × List ℕ)) (IsSo : ℕ → Type 0) (code : ℕ) → IsUnhindered words shelf sink command all → IsSo 8 → ((status : Status) (text : List ℕ) → AnswersAny turn shelf command status text → IsSo (code_of status)) → IsTopped turn words shelf sink code → IsSo code
decided turn words shelf sink command all IsSo code free memory each (status, is, outcome) =
    elim (answered turn words shelf sink command all status free outcome) [
      | inl out ↦ subst IsSo (sym (is ∙ ap code_of out)) memory
      | inr (text, answer) ↦ subst IsSo (sym is) (each status text answer)
    ]

decides_kinds : (v : SpecParts) (status : Status) (text : List ℕ) → AnswersKinds v.roles v.kinds status text → DecidesSpec v (code_of status)
decides_kinds v Done text h = inr (inl (refl, (h.structures, h.solves)))
decides_kinds v Unsatisfiable text h = inr (inr (refl, (h.kind, h.first)))
decides_kinds v Usage text h = absurd h
decides_kinds v Refused text h = absurd h
decides_kinds v Fails text h = absurd h
decides_kinds v ReadFault text h = absurd h
decides_kinds v WriteFault text h = absurd h
decides_kinds v OutOfLimits text h = absurd h
decides_kinds v OutOfMemory text h = absurd h

decides_synth : (turn : ℕ) (words : List (List ℕ)) (shelf : ShelfSeen) (sink : SinkSeen) (code : ℕ) → IsTopped turn words shelf sink code → DecidesSynth words shelf sink code
decides_synth turn words shelf sink code planned files spec v free told =
    decided turn words shelf sink (synth spec) files (DecidesSpec v) code free (inl refl) (λ status text h. decides_kinds v status text (reads_told spec_grammar (λ u. AnswersKinds u.roles u.kinds) shelf files spec v status text free.told (never_unread spec_grammar words shelf sink (synth spec) files spec v status text free told) told h)) planned

decides_solution : (v : SpecParts) (structures : List Structure) (status : Status) (text : List ℕ) → Proves v structures status text → DecidesSolution v structures (code_of status)
decides_solution v structures Done text h = inr (inl (refl, h.0))
decides_solution v structures Fails text h = inr (inr (refl, (h.0, h.1)))
decides_solution v structures Usage text h = absurd h
decides_solution v structures Refused text h = absurd h
decides_solution v structures Unsatisfiable text h = absurd h
decides_solution v structures ReadFault text h = absurd h
decides_solution v structures WriteFault text h = absurd h
decides_solution v structures OutOfLimits text h = absurd h
decides_solution v structures OutOfMemory text h = absurd h

decides_prove : (turn : ℕ) (words : List (List ℕ)) (shelf : ShelfSeen) (sink : SinkSeen) (code : ℕ) → IsTopped turn words shelf sink code → DecidesProve words shelf sink code
decides_prove turn words shelf sink code planned files spec sol v structures free told sol_told =
    decided turn words shelf sink (prove spec sol) files (DecidesSolution v structures) code free (inl refl) (λ status text h. decides_solution v structures status text (unhindered_both Proves words shelf sink (prove spec sol) files spec sol v structures status text free told sol_told h)) planned

shown : (v : SpecParts) (structures : List Structure) (status : Status) (text : List ℕ) → Solves v.roles v.kinds structures → Skels v structures status text → (code_of status ≡ 8) ⊎ (code_of status ≡ 0)
shown v structures Done text solves h = inr refl
shown v structures Fails text solves h = absurd (never_fails v.roles v.kinds structures h.0 solves h.1)
shown v structures Usage text solves h = absurd h
shown v structures Refused text solves h = absurd h
shown v structures Unsatisfiable text solves h = absurd h
shown v structures ReadFault text solves h = absurd h
shown v structures WriteFault text solves h = absurd h
shown v structures OutOfLimits text solves h = absurd h
shown v structures OutOfMemory text solves h = absurd h

decides_skel : (turn : ℕ) (words : List (List ℕ)) (shelf : ShelfSeen) (sink : SinkSeen) (code : ℕ) → IsTopped turn words shelf sink code → DecidesSkel words shelf sink code
decides_skel turn words shelf sink code planned files spec sol v structures free told sol_told solves =
    decided turn words shelf sink (skel spec sol) files (λ n. (n ≡ 8) ⊎ (n ≡ 0)) code free (inl refl) (λ status text h. shown v structures status text solves (unhindered_both Skels words shelf sink (skel spec sol) files spec sol v structures status text free told sol_told h)) planned

decides_wishes : (sys : SystemParts) (wishes : List Wish) (status : Status) (text : List ℕ) → ReplaysWishes sys wishes status text → DecidesRun sys wishes (code_of status)
decides_wishes sys wishes Done text h = inr (inl (refl, (h.whole, h.moves, h.leaves)))
decides_wishes sys wishes Fails text h = inr (inr (refl, (h.at, h.why, h.first)))
decides_wishes sys wishes Usage text h = absurd h
decides_wishes sys wishes Refused text h = absurd h
decides_wishes sys wishes Unsatisfiable text h = absurd h
decides_wishes sys wishes ReadFault text h = absurd h
decides_wishes sys wishes WriteFault text h = absurd h
decides_wishes sys wishes OutOfLimits text h = absurd h
decides_wishes sys wishes OutOfMemory text h = absurd h

decides_run : (v : SpecParts) (structures : List Structure) (sys : SystemParts) (wishes : List Wish) (status : Status) (text : List ℕ) → Solves v.roles v.kinds structures → Replays v structures sys wishes status text → DecidesRun sys wishes (code_of status)
decides_run v structures sys wishes status text solves (inl h) = decides_wishes sys wishes status text h.1
decides_run v structures sys wishes status text solves (inr h) = absurd (never_fails v.roles v.kinds structures h.1.0 solves h.1.1)

-- where the third file is told as a text of a value, this value is answered
third_told : {V : Type 0} (grammar : SpecParts → SystemParts → Grammar V) (answers : AnswersValue V) (words : List (List ℕ)) (shelf : ShelfSeen) (sink : SinkSeen) (command : Command) (files : List (List ℕ × List ℕ)) (file : List ℕ) (v : SpecParts) (structures : List Structure) (sys : SystemParts) (value : V) (status : Status) (text : List ℕ)
    → IsUnhindered words shelf sink command files → IsSystemOf v structures sys → IsTold (grammar v sys) files file value → AnswersThird grammar answers shelf file v structures status text → answers v structures sys value status text
third_told grammar answers words shelf sink command files file v structures sys value status text free system told (other, other_is, h) =
    let behind = subst (λ (s : SystemParts). ReadsAndAnswers (grammar v s) (answers v structures s) shelf file status text) (one_system v structures other sys other_is system) h in
    reads_told (grammar v sys) (answers v structures sys) shelf files file value status text free.told (never_unread (grammar v sys) words shelf sink command files file value status text free told) told behind

decides_verdict : (sys : SystemParts) (stars : List Star) → Fits sys stars → (verdict : Verdict) → IsVerdict sys stars verdict → DecidesStars sys stars (code_of (verdict_status verdict))
decides_verdict sys stars fits Accepted h = inr (inl (refl, h))
decides_verdict sys stars fits NoPeelAtStart h = inr (inr (refl, λ accepted. (let e : Accepted ≡ NoPeelAtStart = one_verdict sys stars Accepted NoPeelAtStart fits accepted h in cc)))
decides_verdict sys stars fits (ShapeMissing k) h = inr (inr (refl, λ accepted. (let e : Accepted ≡ ShapeMissing k = one_verdict sys stars Accepted (ShapeMissing k) fits accepted h in cc)))
decides_verdict sys stars fits (StartMissing s) h = inr (inr (refl, λ accepted. (let e : Accepted ≡ StartMissing s = one_verdict sys stars Accepted (StartMissing s) fits accepted h in cc)))
decides_verdict sys stars fits (NotClosed s m i) h = inr (inr (refl, λ accepted. (let e : Accepted ≡ NotClosed s m i = one_verdict sys stars Accepted (NotClosed s m i) fits accepted h in cc)))
decides_verdict sys stars fits (Waits s m i) h = inr (inr (refl, λ accepted. (let e : Accepted ≡ Waits s m i = one_verdict sys stars Accepted (Waits s m i) fits accepted h in cc)))

decides_stars : (v : SpecParts) (structures : List Structure) (sys : SystemParts) (stars : List Star) (status : Status) (text : List ℕ) → Solves v.roles v.kinds structures → Checks v structures sys stars status text → DecidesStars sys stars (code_of status)
decides_stars v structures sys stars status text solves (inl h) = subst (λ (s : Status). DecidesStars sys stars (code_of s)) (sym h.1.status_is) (decides_verdict sys stars h.1.fits h.1.verdict h.1.is_verdict)
decides_stars v structures sys stars status text solves (inr h) = absurd (never_fails v.roles v.kinds structures h.1.0 solves h.1.1)

decides_check : (turn : ℕ) (words : List (List ℕ)) (shelf : ShelfSeen) (sink : SinkSeen) (code : ℕ) → IsTopped turn words shelf sink code → DecidesCheck words shelf sink code
decides_check turn words shelf sink code planned files spec sol file v structures sys stars free told sol_told system file_told solves =
    let command = check spec sol file in
    decided turn words shelf sink command files (DecidesStars sys stars) code free (inl refl)
    (λ status text h.
    decides_stars v structures sys stars status text solves
    (third_told certificate_grammar Checks words shelf sink command files file v structures sys stars status text free system file_told (unhindered_both (AnswersCertificate shelf file) words shelf sink command files spec sol v structures status text free told sol_told h)))
    planned

decides_replay : (turn : ℕ) (words : List (List ℕ)) (shelf : ShelfSeen) (sink : SinkSeen) (code : ℕ) → IsTopped turn words shelf sink code → DecidesReplay words shelf sink code
decides_replay turn words shelf sink code planned files spec sol file v structures sys entries free told sol_told system file_told solves =
    let command = replay spec sol file in
    decided turn words shelf sink command files (DecidesRun sys (wishes_of entries)) code free (inl refl)
    (λ status text h.
    decides_run v structures sys (wishes_of entries) status text solves
    (third_told (λ v. journal_grammar) ReplaysJournal words shelf sink command files file v structures sys entries status text free system file_told (unhindered_both (AnswersJournal shelf file) words shelf sink command files spec sol v structures status text free told sol_told h)))
    planned

migrated : (v : SpecParts) (status : Status) (text : List ℕ) → Migrates v status text → (code_of status ≡ 8) ⊎ (code_of status ≡ 0)
migrated v Done text h = inr refl
migrated v Usage text h = absurd h
migrated v Refused text h = absurd h
migrated v Unsatisfiable text h = absurd h
migrated v Fails text h = absurd h
migrated v ReadFault text h = absurd h
migrated v WriteFault text h = absurd h
migrated v OutOfLimits text h = absurd h
migrated v OutOfMemory text h = absurd h

decides_migrate : (turn : ℕ) (words : List (List ℕ)) (shelf : ShelfSeen) (sink : SinkSeen) (code : ℕ) → IsTopped turn words shelf sink code → DecidesMigrate words shelf sink code
decides_migrate turn words shelf sink code planned files spec v free told =
    decided turn words shelf sink (migrate spec) files (λ n. (n ≡ 8) ⊎ (n ≡ 0)) code free (inl refl) (λ status text h. migrated v status text (reads_told spec_grammar Migrates shelf files spec v status text free.told (never_unread spec_grammar words shelf sink (migrate spec) files spec v status text free told) told h)) planned

decides_numbers : (turn callers room seed : ℕ) (v : SpecParts) (structures : List Structure) (status : Status) (text : List ℕ) → Solves v.roles v.kinds structures → Runs turn callers room seed v structures status text → DecidesNumbers v callers room (code_of status)
decides_numbers turn callers room seed v structures Done text solves h = inr (inl (refl, h.1.within))
decides_numbers turn callers room seed v structures OutOfLimits text solves h = inr (inr (refl, h.1.past))
decides_numbers turn callers room seed v structures Fails text solves h = absurd (never_fails v.roles v.kinds structures h.0 solves h.1)
decides_numbers turn callers room seed v structures Usage text solves h = absurd h
decides_numbers turn callers room seed v structures Refused text solves h = absurd h
decides_numbers turn callers room seed v structures Unsatisfiable text solves h = absurd h
decides_numbers turn callers room seed v structures ReadFault text solves h = absurd h
decides_numbers turn callers room seed v structures WriteFault text solves h = absurd h
decides_numbers turn callers room seed v structures OutOfMemory text solves h = absurd h

pub decides_firing : (turn : ℕ) (words : List (List ℕ)) (shelf : ShelfSeen) (sink : SinkSeen) (code : ℕ) → IsTopped turn words shelf sink code → DecidesFiring words shelf sink code
decides_firing turn words shelf sink code planned files spec sol callers room seed v structures free told sol_told solves =
    let command = run spec sol callers room seed in
    decided turn words shelf sink command files (DecidesNumbers v callers room) code free (inl refl)
    (λ status text h. decides_numbers turn callers room seed v structures status text solves (unhindered_both (Runs turn callers room seed) words shelf sink command files spec sol v structures status text free told sol_told h))
    planned

pub Decides-from_topped : (turn : ℕ) (words : List (List ℕ)) (shelf : ShelfSeen) (sink : SinkSeen) (code : ℕ) → IsTopped turn words shelf sink code → Decides words shelf sink code
Decides-from_topped turn words shelf sink code planned = record {
  decides_synth = decides_synth turn words shelf sink code planned;
  decides_prove = decides_prove turn words shelf sink code planned;
  decides_skel = decides_skel turn words shelf sink code planned;
  decides_check = decides_check turn words shelf sink code planned;
  decides_replay = decides_replay turn words shelf sink code planned;
  decides_migrate = decides_migrate turn words shelf sink code planned;
}

-- Two answers to one call are one.
use Rattle.std.proofs.Common.{ℕ, ◌≡◌, ◌∙◌, inl, inr, Some, None, List, IfSome, refl, sym, ap, subst}
use Rattle.edge_io.specs.Counts.{Rose}
use Rattle.edge_io.specs.Told.{file_named}
use Rattle.pair_structure.specs.Structure.{Structure}
use Rattle.conjunctive_compose.specs.declared.wish.Wish.{Wish}
use Rattle.conjunctive_compose.specs.System.{SystemParts}
use Rattle.firing_journal.specs.Journal.{wishes_of}
use Rattle.text_cause.specs.declared.cause.TextCause.{TextCause}
use Rattle.ctl_text.specs.Value.{SpecParts}
use Rattle.waitfor_check.specs.declared.star.Star.{Star}
use Rattle.waitfor_check.proofs.OneVerdict.{one_verdict}
use Rattle.skeleton_tool.specs.declared.status.Status.{Status}
use Rattle.skeleton_tool.specs.declared.status.Status.TheVariants.{Done, Usage, Refused, Unsatisfiable, Fails, ReadFault, WriteFault, OutOfLimits, OutOfMemory}
use Rattle.skeleton_tool.specs.Answer.{AnswersBoth, AnswersCommand, AnswersKinds, AnswersWords, Proves, spec_grammar, solution_grammar}
use Rattle.skeleton_tool.specs.Check.{AnswersCertificate, Checks, TellsVerdict, certificate_grammar, verdict_status, verdict_text}
use Rattle.skeleton_tool.specs.Command.{Command, synth, prove, skel, check, replay, run, migrate, command_of}
use Rattle.skeleton_tool.specs.OneAnswer.{AreOne, IsChoice, OneAnswer}
use Rattle.skeleton_tool.specs.Migrate.{Migrates}
use Rattle.skeleton_tool.specs.Reading.{Grammar, IsBad, IsRead, IsUnread, ReadsAndAnswers}
use Rattle.skeleton_tool.specs.Refusal.{refused_text}
use Rattle.skeleton_tool.specs.Replay.{AnswersJournal, Replays, ReplaysJournal, ReplaysWishes, journal_grammar}
use Rattle.skeleton_tool.specs.Run.{Runs}
use Rattle.skeleton_tool.specs.Skel.{Skels}
use Rattle.skeleton_tool.specs.Taking.{Files, ShelfSeen, IsUntaken, IsGiven}
use Rattle.skeleton_tool.specs.Third.{AnswersThird, AnswersValue, IsSystemOf}
use Rattle.skeleton_tool.specs.Top.{AnswersRun, AnswersTop}
use Rattle.skeleton_tool.proofs.OneReplay.{run_once, runs_through, stuck_once}
use Rattle.skeleton_tool.proofs.OneRefusal.{certificate_refused_once, journal_refused_once, solution_refused_once, spec_refused_once}
use Rattle.skeleton_tool.proofs.OneSystem.{one_system}
use Rattle.skeleton_tool.proofs.OneText.{failing_once, never_solved, shown_once, unsolvable_once}
use Rattle.skeleton_tool.proofs.Solved.{never_fails}

-- no count of the shelf rose
record IsQuiet (shelf : ShelfSeen) (all : List (List ℕ × List ℕ)) : Type 0 where
  told : shelf.files ≡ Some all
  no_fault : Rose shelf.faults_before shelf.faults_after → ⊥
  none_long : Rose shelf.longs_before shelf.longs_after → ⊥

-- the bytes of a file are one, where they are told
given_once : (files : Files) (all : List (List ℕ × List ℕ)) (file : List ℕ) (max : ℕ) (one other : List ℕ) → files ≡ Some all → IsGiven files file max one → IsGiven files file max other → one ≡ other
given_once files all file max one other told a b =
    let here : file_named all file ≡ Some one = (rw told at a.told) in
    let there : file_named all file ≡ Some other = (rw told at b.told) in
    let same : Some one ≡ Some other = sym here ∙ there in
    cc

never_untaken : (shelf : ShelfSeen) (all : List (List ℕ × List ℕ)) (word file : List ℕ) (max : ℕ) (status : Status) (text : List ℕ) → IsQuiet shelf all → IsUntaken shelf word file max status text → ⊥
never_untaken shelf all word file max Refused text quiet h = quiet.none_long h.0.counted
never_untaken shelf all word file max ReadFault text quiet h = quiet.no_fault h.0
never_untaken shelf all word file max Done text quiet h = h
never_untaken shelf all word file max Usage text quiet h = h
never_untaken shelf all word file max Unsatisfiable text quiet h = h
never_untaken shelf all word file max Fails text quiet h = h
never_untaken shelf all word file max WriteFault text quiet h = h
never_untaken shelf all word file max OutOfLimits text quiet h = h
never_untaken shelf all word file max OutOfMemory text quiet h = h

-- the bytes of a grammar are refused by one text
abbrev RefusesOnce : {V : Type 0} → Grammar V → Type 0
RefusesOnce grammar = (bytes : List ℕ) (line at : ℕ) (c d : TextCause) → grammar.is_refused bytes line c → grammar.is_refused bytes at d → refused_text grammar.word line c ≡ refused_text grammar.word at d

bad_once : {V : Type 0} (grammar : Grammar V) (files : Files) (all : List (List ℕ × List ℕ)) (file text written : List ℕ) → RefusesOnce grammar → files ≡ Some all → IsBad grammar files file text → IsBad grammar files file written → text ≡ written
bad_once grammar files all file text written once told a b =
    let same : a.bytes ≡ b.bytes = given_once files all file grammar.limit a.bytes b.bytes told a.given b.given in
    a.text_is ∙ once b.bytes a.line b.line a.cause b.cause (subst (λ bytes. grammar.is_refused bytes a.line a.cause) same a.refused) b.refused ∙ sym b.text_is

never_both : {V : Type 0} (grammar : Grammar V) (files : Files) (all : List (List ℕ × List ℕ)) (file text : List ℕ) (v : V) → files ≡ Some all → IsBad grammar files file text → IsRead grammar files file v → ⊥
never_both grammar files all file text v told a b =
    let same : b.bytes ≡ a.bytes = given_once files all file grammar.limit b.bytes a.bytes told b.given a.given in
    a.no_text v (subst (λ bytes. grammar.is_text bytes v) same b.text)

read_once : {V : Type 0} (grammar : Grammar V) (files : Files) (all : List (List ℕ × List ℕ)) (file : List ℕ) (v w : V) → files ≡ Some all → IsRead grammar files file v → IsRead grammar files file w → w ≡ v
read_once grammar files all file v w told a b =
    let same : a.bytes ≡ b.bytes = given_once files all file grammar.limit a.bytes b.bytes told a.given b.given in
    b.only v (subst (λ bytes. grammar.is_text bytes v) same a.text)

-- two answers to what is read are one, where they are of each value
reads_once : {V : Type 0} (grammar : Grammar V) (answers : V → Status → List ℕ → Type 0) (choice : Type 0) (shelf : ShelfSeen) (all : List (List ℕ × List ℕ)) (file : List ℕ) (one other : Status) (text written : List ℕ)
    → RefusesOnce grammar → IsQuiet shelf all → ((v : V) → IsRead grammar shelf.files file v → answers v one text → answers v other written → AreOne choice one other text written) → ReadsAndAnswers grammar answers shelf file one text → ReadsAndAnswers grammar answers shelf file other written
    → AreOne choice one other text written
reads_once grammar answers choice shelf all file one other text written once quiet each (inl (inl a)) b = absurd (never_untaken shelf all grammar.word file grammar.limit one text quiet a)
reads_once grammar answers choice shelf all file one other text written once quiet each (inl (inr a)) (inl (inl b)) = absurd (never_untaken shelf all grammar.word file grammar.limit other written quiet b)
reads_once grammar answers choice shelf all file one other text written once quiet each (inl (inr a)) (inl (inr b)) = record {
  status = a.0 ∙ sym b.0;
  text_is = λ no. bad_once grammar shelf.files all file text written once quiet.told a.1 b.1;
}
reads_once grammar answers choice shelf all file one other text written once quiet each (inl (inr a)) (inr (w, read, b)) = absurd (never_both grammar shelf.files all file text w quiet.told a.1 read)
reads_once grammar answers choice shelf all file one other text written once quiet each (inr (v, read, a)) (inl (inl b)) = absurd (never_untaken shelf all grammar.word file grammar.limit other written quiet b)
reads_once grammar answers choice shelf all file one other text written once quiet each (inr (v, read, a)) (inl (inr b)) = absurd (never_both grammar shelf.files all file written v quiet.told b.1 read)
reads_once grammar answers choice shelf all file one other text written once quiet each (inr (v, read, a)) (inr (w, also, b)) = each v read a (subst (λ u. answers u other written) (read_once grammar shelf.files all file v w quiet.told read also) b)

-- one status and one text
one_text : (choice : Type 0) (status : Status) (text written : List ℕ) → text ≡ written → AreOne choice status status text written
one_text choice status text written same = record { status = refl; text_is = λ no. same }

kinds_once : (v : SpecParts) (spec : List ℕ) (one other : Status) (text written : List ℕ) → AnswersKinds v.roles v.kinds one text → AnswersKinds v.roles v.kinds other written → AreOne (IsChoice (Some (synth spec)) one) one other text written
kinds_once v spec Done Done text written a b = record { status = refl; text_is = λ no. absurd (no tt) }
kinds_once v spec Done Unsatisfiable text written a b = absurd (never_solved v.roles v.kinds a.structures b.kind a.solves b.first)
kinds_once v spec Unsatisfiable Done text written a b = absurd (never_solved v.roles v.kinds b.structures a.kind b.solves a.first)
kinds_once v spec Unsatisfiable Unsatisfiable text written a b = one_text ⊥ Unsatisfiable text written (unsolvable_once v.roles v.kinds text written a b)
kinds_once v spec Done status text written a b = absurd b
kinds_once v spec Unsatisfiable status text written a b = absurd b
kinds_once v spec status other text written a b = absurd a

migrates_once : (v : SpecParts) (one other : Status) (text written : List ℕ) → Migrates v one text → Migrates v other written → AreOne ⊥ one other text written
migrates_once v Done Done text written a b = one_text ⊥ Done text written (a.text_is ∙ sym b.text_is)
migrates_once v Done status text written a b = absurd b
migrates_once v status other text written a b = absurd a

proves_once : (v : SpecParts) (structures : List Structure) (one other : Status) (text written : List ℕ) → Proves v structures one text → Proves v structures other written → AreOne ⊥ one other text written
proves_once v structures Done Done text written a b = one_text ⊥ Done text written (a.1 ∙ sym b.1)
proves_once v structures Done Fails text written a b = absurd (never_fails v.roles v.kinds structures b.0 a.0 b.1)
proves_once v structures Fails Done text written a b = absurd (never_fails v.roles v.kinds structures a.0 b.0 a.1)
proves_once v structures Fails Fails text written a b = one_text ⊥ Fails text written (failing_once v structures text written a b)
proves_once v structures Done status text written a b = absurd b
proves_once v structures Fails status text written a b = absurd b
proves_once v structures status other text written a b = absurd a

skels_once : (v : SpecParts) (structures : List Structure) (one other : Status) (text written : List ℕ) → Skels v structures one text → Skels v structures other written → AreOne ⊥ one other text written
skels_once v structures Done Done text written a b = one_text ⊥ Done text written (shown_once v structures text written a.1 b.1)
skels_once v structures Done Fails text written a b = absurd (never_fails v.roles v.kinds structures b.0 a.0 b.1)
skels_once v structures Fails Done text written a b = absurd (never_fails v.roles v.kinds structures a.0 b.0 a.1)
skels_once v structures Fails Fails text written a b = one_text ⊥ Fails text written (failing_once v structures text written a b)
skels_once v structures Done status text written a b = absurd b
skels_once v structures Fails status text written a b = absurd b
skels_once v structures status other text written a b = absurd a

wishes_once : (sys : SystemParts) (wishes : List Wish) (one other : Status) (text written : List ℕ) → ReplaysWishes sys wishes one text → ReplaysWishes sys wishes other written → AreOne ⊥ one other text written
wishes_once sys wishes Done Done text written a b = one_text ⊥ Done text written (run_once sys wishes text written a b)
wishes_once sys wishes Done Fails text written a b = absurd (runs_through sys wishes b.at b.why a.whole a.moves a.leaves b.first)
wishes_once sys wishes Fails Done text written a b = absurd (runs_through sys wishes a.at a.why b.whole b.moves b.leaves a.first)
wishes_once sys wishes Fails Fails text written a b = one_text ⊥ Fails text written (stuck_once sys wishes text written a b)
wishes_once sys wishes Done status text written a b = absurd b
wishes_once sys wishes Fails status text written a b = absurd b
wishes_once sys wishes status other text written a b = absurd a

replays_once : (v : SpecParts) (structures : List Structure) (sys : SystemParts) (wishes : List Wish) (one other : Status) (text written : List ℕ) → Replays v structures sys wishes one text → Replays v structures sys wishes other written → AreOne ⊥ one other text written
replays_once v structures sys wishes one other text written (inl a) (inl b) = wishes_once sys wishes one other text written a.1 b.1
replays_once v structures sys wishes one other text written (inl a) (inr b) = absurd (never_fails v.roles v.kinds structures b.1.0 a.0 b.1.1)
replays_once v structures sys wishes one other text written (inr a) (inl b) = absurd (never_fails v.roles v.kinds structures a.1.0 b.0 a.1.1)
replays_once v structures sys wishes one other text written (inr a) (inr b) = record {
  status = a.0 ∙ sym b.0;
  text_is = λ no. failing_once v structures text written a.1 b.1;
}

verdict_once : (sys : SystemParts) (stars : List Star) (one other : Status) (text written : List ℕ) → TellsVerdict sys stars one text → TellsVerdict sys stars other written → AreOne ⊥ one other text written
verdict_once sys stars one other text written a b =
    let same = one_verdict sys stars a.verdict b.verdict a.fits a.is_verdict b.is_verdict in record {
      status = a.status_is ∙ ap verdict_status same ∙ sym b.status_is;
      text_is = λ no. a.text_is ∙ ap (verdict_text sys) same ∙ sym b.text_is;
    }

checks_once : (v : SpecParts) (structures : List Structure) (sys : SystemParts) (stars : List Star) (one other : Status) (text written : List ℕ) → Checks v structures sys stars one text → Checks v structures sys stars other written → AreOne ⊥ one other text written
checks_once v structures sys stars one other text written (inl a) (inl b) = verdict_once sys stars one other text written a.1 b.1
checks_once v structures sys stars one other text written (inl a) (inr b) = absurd (never_fails v.roles v.kinds structures b.1.0 a.0 b.1.1)
checks_once v structures sys stars one other text written (inr a) (inl b) = absurd (never_fails v.roles v.kinds structures a.1.0 b.0 a.1.1)
checks_once v structures sys stars one other text written (inr a) (inr b) = record {
  status = a.0 ∙ sym b.0;
  text_is = λ no. failing_once v structures text written a.1 b.1;
}

third_once : {V : Type 0} (grammar : SpecParts → SystemParts → Grammar V) (answers : AnswersValue V) (shelf : ShelfSeen) (all : List (List ℕ × List ℕ)) (file : List ℕ) (v : SpecParts) (structures : List Structure) (one other : Status) (text written : List ℕ)
    → IsQuiet shelf all → ((sys : SystemParts) → RefusesOnce (grammar v sys)) → ((sys : SystemParts) (value : V) → answers v structures sys value one text → answers v structures sys value other written → AreOne ⊥ one other text written)
    → AnswersThird grammar answers shelf file v structures one text → AnswersThird grammar answers shelf file v structures other written → AreOne ⊥ one other text written
third_once grammar answers shelf all file v structures one other text written quiet once each (sys, system, a) (also, also_is, b) =
    let here = subst (λ (s : SystemParts). ReadsAndAnswers (grammar v s) (answers v structures s) shelf file other written) (one_system v structures also sys also_is system) b in
    reads_once (grammar v sys) (answers v structures sys) ⊥ shelf all file one other text written (once sys) quiet (λ value read. each sys value) a here

both_once : (answers : SpecParts → List Structure → Status → List ℕ → Type 0) (choice : Type 0) (shelf : ShelfSeen) (all : List (List ℕ × List ℕ)) (spec sol : List ℕ) (one other : Status) (text written : List ℕ)
    → IsQuiet shelf all → ((v : SpecParts) (structures : List Structure) → answers v structures one text → answers v structures other written → AreOne choice one other text written) → AnswersBoth answers shelf spec sol one text → AnswersBoth answers shelf spec sol other written
    → AreOne choice one other text written
both_once answers choice shelf all spec sol one other text written quiet each a b =
    reads_once spec_grammar (λ v. ReadsAndAnswers (solution_grammar v) (answers v) shelf sol) choice shelf all spec one other text written (spec_refused_once spec_grammar.word) quiet
    (λ v read. reads_once (solution_grammar v) (answers v) choice shelf all sol one other text written (solution_refused_once v.roles v.kinds (solution_grammar v).word) quiet (λ structures also. each v structures))
    a b

command_once : (shelf : ShelfSeen) (all : List (List ℕ × List ℕ)) (command : Command) (one other : Status) (text written : List ℕ) → IsQuiet shelf all → AnswersCommand shelf command one text → AnswersCommand shelf command other written → AreOne (IsChoice (Some command) one) one other text written
command_once shelf all (synth spec) one other text written quiet a b =
    reads_once spec_grammar (λ v. AnswersKinds v.roles v.kinds) (IsChoice (Some (synth spec)) one) shelf all spec one other text written (spec_refused_once spec_grammar.word) quiet (λ v read. kinds_once v spec one other text written) a b
command_once shelf all (prove spec sol) one other text written quiet a b = both_once Proves ⊥ shelf all spec sol one other text written quiet (λ v structures. proves_once v structures one other text written) a b
command_once shelf all (skel spec sol) one other text written quiet a b = both_once Skels ⊥ shelf all spec sol one other text written quiet (λ v structures. skels_once v structures one other text written) a b
command_once shelf all (check spec sol file) one other text written quiet a b =
    both_once (AnswersCertificate shelf file) ⊥ shelf all spec sol one other text written quiet
    (λ v structures. third_once certificate_grammar Checks shelf all file v structures one other text written quiet (λ sys. certificate_refused_once v sys (certificate_grammar v sys).word) (λ sys stars. checks_once v structures sys stars one other text written))
    a b
command_once shelf all (replay spec sol file) one other text written quiet a b =
    both_once (AnswersJournal shelf file) ⊥ shelf all spec sol one other text written quiet
    (λ v structures. third_once (λ v. journal_grammar) ReplaysJournal shelf all file v structures one other text written quiet (λ sys. journal_refused_once sys (journal_grammar sys).word) (λ sys entries. replays_once v structures sys (wishes_of entries) one other text written))
    a b
command_once shelf all (run spec sol callers room seed) one other text written quiet a b = absurd a
command_once shelf all (migrate spec) one other text written quiet a b = reads_once spec_grammar Migrates ⊥ shelf all spec one other text written (spec_refused_once spec_grammar.word) quiet (λ v read. migrates_once v one other text written) a b

same_command : (words : List (List ℕ)) (one other : Command) → command_of words ≡ Some one → command_of words ≡ Some other → other ≡ one
same_command words one other a b = let e : Some one ≡ Some other = sym a ∙ b in cc

never_named : (words : List (List ℕ)) (command : Command) → command_of words ≡ None → command_of words ≡ Some command → ⊥
never_named words command a b = let e : None ≡ Some command = sym a ∙ b in cc

words_once : (words : List (List ℕ)) (shelf : ShelfSeen) (all : List (List ℕ × List ℕ)) (one other : Status) (text written : List ℕ) → IsQuiet shelf all → AnswersWords words shelf one text → AnswersWords words shelf other written → AreOne (IsChoice (command_of words) one) one other text written
words_once words shelf all one other text written quiet (inl a) (inl b) = record { status = a.1 ∙ sym b.1; text_is = λ no. a.2 ∙ sym b.2 }
words_once words shelf all one other text written quiet (inl a) (inr b) = absurd (never_named words b.0 a.0 b.1)
words_once words shelf all one other text written quiet (inr a) (inl b) = absurd (never_named words a.0 b.0 a.1)
words_once words shelf all one other text written quiet (inr (command, is, a)) (inr (also, also_is, b)) =
    let here : AnswersCommand shelf command other written = subst (λ c. AnswersCommand shelf c other written) (same_command words command also is also_is) b in
    subst (λ c. AreOne (IsChoice c one) one other text written) (sym is) (command_once shelf all command one other text written quiet a here)

runs_once : (turn callers room seed : ℕ) (v : SpecParts) (structures : List Structure) (spec sol : List ℕ) (one other : Status) (text written : List ℕ) → Runs turn callers room seed v structures one text → Runs turn callers room seed v structures other written → AreOne (IsChoice (Some (run spec sol callers room seed)) one) one other text written
runs_once turn callers room seed v structures spec sol Done Done text written a b = record { status = refl; text_is = λ no. absurd (no tt) }
runs_once turn callers room seed v structures spec sol Done OutOfLimits text written a b = absurd (b.1.past a.1.within)
runs_once turn callers room seed v structures spec sol Done Fails text written a b = absurd (never_fails v.roles v.kinds structures b.0 a.0 b.1)
runs_once turn callers room seed v structures spec sol OutOfLimits Done text written a b = absurd (a.1.past b.1.within)
runs_once turn callers room seed v structures spec sol OutOfLimits OutOfLimits text written a b = one_text ⊥ OutOfLimits text written (a.1.text_is ∙ sym b.1.text_is)
runs_once turn callers room seed v structures spec sol OutOfLimits Fails text written a b = absurd (never_fails v.roles v.kinds structures b.0 a.0 b.1)
runs_once turn callers room seed v structures spec sol Fails Done text written a b = absurd (never_fails v.roles v.kinds structures a.0 b.0 a.1)
runs_once turn callers room seed v structures spec sol Fails OutOfLimits text written a b = absurd (never_fails v.roles v.kinds structures a.0 b.0 a.1)
runs_once turn callers room seed v structures spec sol Fails Fails text written a b = one_text ⊥ Fails text written (failing_once v structures text written a b)
runs_once turn callers room seed v structures spec sol Done status text written a b = absurd b
runs_once turn callers room seed v structures spec sol OutOfLimits status text written a b = absurd b
runs_once turn callers room seed v structures spec sol Fails status text written a b = absurd b
runs_once turn callers room seed v structures spec sol status other text written a b = absurd a

-- a run is none of the commands that `plan` answers
never_plain : (words : List (List ℕ)) (shelf : ShelfSeen) (spec sol : List ℕ) (callers room seed : ℕ) (status : Status) (text : List ℕ) → command_of words ≡ Some (run spec sol callers room seed) → AnswersWords words shelf status text → ⊥
never_plain words shelf spec sol callers room seed status text is (inl h) = never_named words (run spec sol callers room seed) h.0 is
never_plain words shelf spec sol callers room seed status text is (inr (command, also, h)) = subst (λ c. AnswersCommand shelf c status text) (same_command words (run spec sol callers room seed) command is also) h

reports_once : (turn : ℕ) (words : List (List ℕ)) (shelf : ShelfSeen) (all : List (List ℕ × List ℕ)) (one other : Status) (text written : List ℕ) (spec sol : List ℕ) (callers room seed : ℕ) → IsQuiet shelf all → command_of words ≡ Some (run spec sol callers room seed)
    → AnswersBoth (Runs turn callers room seed) shelf spec sol one text → AnswersBoth (Runs turn callers room seed) shelf spec sol other written → AreOne (IsChoice (command_of words) one) one other text written
reports_once turn words shelf all one other text written spec sol callers room seed quiet is a b =
    let choice = IsChoice (Some (run spec sol callers room seed)) one in
    subst (λ c. AreOne (IsChoice c one) one other text written) (sym is) (both_once (Runs turn callers room seed) choice shelf all spec sol one other text written quiet (λ v structures. runs_once turn callers room seed v structures spec sol one other text written) a b)

-- what a run is answered, over its command
abbrev AnswersAs : ℕ → ShelfSeen → Command → Status → List ℕ → Type 0
AnswersAs turn shelf (run spec sol callers room seed) status text = AnswersBoth (Runs turn callers room seed) shelf spec sol status text
AnswersAs turn shelf command status text = ⊥

tops_once : (turn : ℕ) (words : List (List ℕ)) (shelf : ShelfSeen) (all : List (List ℕ × List ℕ)) (one other : Status) (text written : List ℕ) → IsQuiet shelf all → AnswersTop turn words shelf one text → AnswersTop turn words shelf other written → AreOne (IsChoice (command_of words) one) one other text written
tops_once turn words shelf all one other text written quiet (inl a) (inl b) =
    let same = same_command words (run a.spec a.sol a.callers a.room a.seed) (run b.spec b.sol b.callers b.room b.seed) a.command_is b.command_is in
    let here = subst (λ c. AnswersAs turn shelf c other written) same b.answer in
    reports_once turn words shelf all one other text written a.spec a.sol a.callers a.room a.seed quiet a.command_is a.answer here
tops_once turn words shelf all one other text written quiet (inl a) (inr b) = absurd (never_plain words shelf a.spec a.sol a.callers a.room a.seed other written a.command_is b)
tops_once turn words shelf all one other text written quiet (inr a) (inl b) = absurd (never_plain words shelf b.spec b.sol b.callers b.room b.seed one text b.command_is a)
tops_once turn words shelf all one other text written quiet (inr a) (inr b) = words_once words shelf all one other text written quiet a b

pub one_answer : OneAnswer
one_answer turn words shelf files one other text written told no_fault none_long a b = tops_once turn words shelf files one other text written (record { told = told; no_fault = no_fault; none_long = none_long }) a b

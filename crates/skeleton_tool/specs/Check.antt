-- What `check` answers to a solution and a certificate: that it is accepted, or the first part of the test that fails,
-- and where.
use Rattle.std.specs.Prelude.{ℕ, ◌≡◌, ◌⊎◌, List, ◌++◌, codes, decimal}
use Rattle.pair_structure.specs.Structure.{Structure}
use Rattle.conjunctive_compose.specs.System.{SystemParts}
use Rattle.waitfor_check.specs.declared.star.Star.{Star}
use Rattle.waitfor_check.specs.declared.verdict.Verdict.{Verdict}
use Rattle.waitfor_check.specs.declared.verdict.Verdict.TheVariants.{Accepted, NoPeelAtStart, ShapeMissing, StartMissing, NotClosed, Waits}
use Rattle.waitfor_check.specs.Fitting.{Fits}
use Rattle.waitfor_check.specs.Verdicts.{IsVerdict}
use Rattle.certificate_text.specs.Text.{IsCertificateText, IsRefused}
use Rattle.ctl_form.specs.Kind.{Solves}
use Rattle.ctl_text.specs.Value.{SpecParts}
use Rattle.skeleton_tool.specs.declared.status.Status.{Status}
use Rattle.skeleton_tool.specs.declared.status.Status.TheVariants.{Done, Fails}
use Rattle.skeleton_tool.specs.Command.{certificate_limit}
use Rattle.skeleton_tool.specs.Failing.{NamesFailing}
use Rattle.skeleton_tool.specs.Reading.{Grammar}
use Rattle.skeleton_tool.specs.Replay.{process_name}
use Rattle.skeleton_tool.specs.Taking.{ShelfSeen}
use Rattle.skeleton_tool.specs.Third.{AnswersThird, AnswersValue}

-- a certificate for this system, over the names of this specification
abbrev pub certificate_grammar : SpecParts → SystemParts → Grammar (List Star)
certificate_grammar v sys = record { word = codes "certificate"; limit = certificate_limit; is_text = IsCertificateText v sys; is_refused = IsRefused v sys }

-- a step: the numbers of its star and its member, and its place among the member's steps
abbrev pub step_text : ℕ → ℕ → ℕ → List ℕ
step_text star member step = decimal star ++ codes " " ++ decimal member ++ codes " " ++ decimal step ++ codes "\n"

abbrev pub verdict_text : SystemParts → Verdict → List ℕ
verdict_text sys Accepted = codes "accepted\n"
verdict_text sys NoPeelAtStart = codes "no-peel\n"
verdict_text sys (ShapeMissing process) = codes "shape-missing " ++ process_name sys process ++ codes "\n"
verdict_text sys (StartMissing star) = codes "start-missing " ++ decimal star ++ codes "\n"
verdict_text sys (NotClosed star member step) = codes "not-closed " ++ step_text star member step
verdict_text sys (Waits star member step) = codes "waits " ++ step_text star member step

abbrev pub verdict_status : Verdict → Status
verdict_status Accepted = Done
verdict_status verdict = Fails

-- the stars are a certificate for the system, and the verdict on them is told
pub record TellsVerdict (sys : SystemParts) (stars : List Star) (status : Status) (text : List ℕ) : Type 0 where
  pub fits : Fits sys stars
  pub verdict : Verdict
  pub is_verdict : IsVerdict sys stars verdict
  pub status_is : status ≡ verdict_status verdict
  pub text_is : text ≡ verdict_text sys verdict

-- the structures solve, and the verdict is told; or the first kind that fails is named
abbrev pub Checks : AnswersValue (List Star)
Checks v structures sys stars status text = (Solves v.roles v.kinds structures × TellsVerdict sys stars status text) ⊎ ((status ≡ Fails) × NamesFailing v structures text)

-- the status and its text are an answer to this file as a certificate for the system of the solution
abbrev pub AnswersCertificate : ShelfSeen → List ℕ → SpecParts → List Structure → Status → List ℕ → Type 0
AnswersCertificate = AnswersThird certificate_grammar Checks

-- What is told of a verdict.
use Rattle.std.proofs.Common.{ℕ, ◌≡◌, ◌<◌, ◌++◌, ◌∙◌, List, [], length, ap, arith, subst, sym, length-append}
use Rattle.conjunctive_compose.specs.System.{SystemParts}
use Rattle.waitfor_check.specs.declared.star.Star.{Star}
use Rattle.waitfor_check.specs.declared.verdict.Verdict.{Verdict}
use Rattle.waitfor_check.specs.declared.verdict.Verdict.TheVariants.{Accepted, NoPeelAtStart, ShapeMissing, StartMissing, NotClosed, Waits}
use Rattle.waitfor_check.specs.Verdicts.{IsVerdict}
use Rattle.skeleton_tool.specs.Check.{verdict_text}
use Rattle.skeleton_tool.specs.inside.Telling.{NamesProcess}

-- the process whose shape is missing is one of the system
pub names_process : (sys : SystemParts) (stars : List Star) (verdict : Verdict) → IsVerdict sys stars verdict → NamesProcess sys verdict
names_process sys stars Accepted h = tt
names_process sys stars NoPeelAtStart h = tt
names_process sys stars (ShapeMissing process) h = h.1.0
names_process sys stars (StartMissing star) h = tt
names_process sys stars (NotClosed star member step) h = tt
names_process sys stars (Waits star member step) h = tt

some_text : (sys : SystemParts) (verdict : Verdict) → 0 < length (verdict_text sys verdict)
some_text sys Accepted = omega arith
some_text sys NoPeelAtStart = omega arith
some_text sys (ShapeMissing process) = omega arith
some_text sys (StartMissing star) = omega arith
some_text sys (NotClosed star member step) = omega arith
some_text sys (Waits star member step) = omega arith

-- the text of a verdict is not empty
pub tells_some : (sys : SystemParts) (verdict : Verdict) (old new : List ℕ) → old ≡ [] → new ≡ old ++ verdict_text sys verdict → 0 < length new
tells_some sys verdict old new empty is = subst (λ (text : List ℕ). 0 < length text) (sym (is ∙ ap (λ l. l ++ verdict_text sys verdict) empty)) (some_text sys verdict)

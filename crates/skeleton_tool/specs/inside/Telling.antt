-- What is told of a wish that does not move, and of a certificate.
use Rattle.std.specs.Prelude.{◌<◌}
use Rattle.conjunctive_compose.specs.declared.wish.StepAnswer.{StepAnswer}
use Rattle.conjunctive_compose.specs.declared.wish.StepAnswer.TheVariants.{Moved, Away, Blocked}
use Rattle.conjunctive_compose.specs.System.{SystemParts, process_count}
use Rattle.waitfor_check.specs.declared.verdict.Verdict.{Verdict}
use Rattle.waitfor_check.specs.declared.verdict.Verdict.TheVariants.{ShapeMissing}

-- the wish did not move, and the process that blocked it is one of the system
abbrev pub IsRefusal : SystemParts → StepAnswer → Type 0
IsRefusal sys Moved = ⊥
IsRefusal sys (Away local) = Unit {0}
IsRefusal sys (Blocked j) = j < process_count sys

-- a process that a verdict names is one of the system
abbrev pub NamesProcess : SystemParts → Verdict → Type 0
NamesProcess sys (ShapeMissing process) = process < process_count sys
NamesProcess sys verdict = Unit {0}

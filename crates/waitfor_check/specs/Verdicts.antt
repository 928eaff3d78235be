-- What a check of a certificate answers: the lowest verdict that stands, at its first place.
use Rattle.std.specs.Prelude.{◌≡◌, Some, None, List, length}
use Rattle.conjunctive_compose.specs.declared.wish.Wish.{Wish}
use Rattle.conjunctive_compose.specs.System.{SystemParts, process_count}
use Rattle.conjunctive_compose.specs.Whole.{start_of}
use Rattle.conjunctive_compose.specs.Run.{IsRun, whole_after}
use Rattle.conjunctive_compose.specs.Peel.{HasPeelOrder}
use Rattle.pair_structure.specs.inside.FirstFailing.{IsFirstFailing}
use Rattle.waitfor_check.specs.declared.verdict.Verdict.{Verdict}
use Rattle.waitfor_check.specs.declared.verdict.Verdict.TheVariants.{Accepted, NoPeelAtStart, ShapeMissing, StartMissing, NotClosed, Waits}
use Rattle.waitfor_check.specs.Accepted.{HasStarts, IsAccepted}
use Rattle.waitfor_check.specs.Closed.{IsFirstUnclosed}
use Rattle.waitfor_check.specs.Fitting.{Fits}
use Rattle.waitfor_check.specs.Laws.{GoesOn}
use Rattle.waitfor_check.specs.Parts.{HasShapesOf, IsFirstOf, star_at}
use Rattle.waitfor_check.specs.declared.star.Star.{Star}
use Rattle.waitfor_check.specs.Waits.{IsFirstWait}

-- the start has a peel order
abbrev pub Peels : SystemParts → Type 0
Peels sys = HasPeelOrder sys (start_of sys)

-- and each shape is there
abbrev pub HasShapes : SystemParts → List Star → Type 0
HasShapes sys stars = Peels sys × IsFirstFailing (HasShapesOf sys stars) (process_count sys) None

-- and each star has its starts
abbrev pub HasAllStarts : SystemParts → List Star → Type 0
HasAllStarts sys stars = HasShapes sys stars × IsFirstFailing (λ star. HasStarts sys (star_at stars star)) (length stars) None

-- and each star is closed
abbrev pub AreClosed : SystemParts → List Star → Type 0
AreClosed sys stars = HasAllStarts sys stars × IsFirstOf (IsFirstUnclosed sys) stars None

-- each verdict but the first says that the parts before its own hold, and where its own first fails
abbrev pub IsVerdict : SystemParts → List Star → Verdict → Type 0
IsVerdict sys stars Accepted = IsAccepted sys stars
IsVerdict sys stars NoPeelAtStart = Peels sys → ⊥
IsVerdict sys stars (ShapeMissing process) = Peels sys × IsFirstFailing (HasShapesOf sys stars) (process_count sys) (Some process)
IsVerdict sys stars (StartMissing star) = HasShapes sys stars × IsFirstFailing (λ star. HasStarts sys (star_at stars star)) (length stars) (Some star)
IsVerdict sys stars (NotClosed star member step) = HasAllStarts sys stars × IsFirstOf (IsFirstUnclosed sys) stars (Some (record { star = star; place = record { member = member; step = step } }))
IsVerdict sys stars (Waits star member step) = AreClosed sys stars × IsFirstOf (IsFirstWait sys) stars (Some (record { star = star; place = record { member = member; step = step } }))

-- every run of an accepted system ends in a whole state that goes on
abbrev pub RunsGoOn : SystemParts → Verdict → Type 0
RunsGoOn sys verdict = verdict ≡ Accepted → (wishes : List Wish) → IsRun sys (start_of sys) wishes → GoesOn sys (whole_after sys (start_of sys) wishes)

-- a certificate that fits has one verdict
abbrev pub OneVerdict : Type 0
OneVerdict = (sys : SystemParts) (stars : List Star) (one other : Verdict) → Fits sys stars → IsVerdict sys stars one → IsVerdict sys stars other → one ≡ other

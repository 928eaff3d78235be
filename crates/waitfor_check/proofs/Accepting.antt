-- A certificate all of whose parts hold is accepted.
use Rattle.std.proofs.Common.{ℕ, ◌≡◌, ◌<◌, None, List, [], length, get_or, sym, ◌∙◌, subst, All, Contains}
use Rattle.std.proofs.lemmas.List.{get_or_default}
use Rattle.std.proofs.lemmas.List.Elements.{All-contains, All-from_get_or}
use Rattle.conjunctive_compose.specs.System.{SystemParts}
use Rattle.waitfor_check.specs.Accepted.{HasStarts, IsAccepted, IsCalm, IsCalmAt, IsClosed}
use Rattle.waitfor_check.specs.Closed.{IsFirstUnclosed, steps_at}
use Rattle.waitfor_check.specs.inside.Fits.{IsFitting}
use Rattle.waitfor_check.specs.Parts.{IsFirstOf, no_star, star_at}
use Rattle.waitfor_check.specs.Star.{IsStarState}
use Rattle.waitfor_check.specs.declared.star.Star.{Star}
use Rattle.waitfor_check.specs.Steps.{centre_steps, steps}
use Rattle.waitfor_check.specs.Verdicts.{AreClosed}
use Rattle.waitfor_check.specs.Waits.{IsFirstWait, centre_steps_at}
use Rattle.waitfor_check.proofs.StepLists.{centre_have, steps_have}

closed_from : (sys : SystemParts) (star : Star) → IsFitting sys star → IsFirstUnclosed sys star None → IsClosed sys star
closed_from sys star fits stay xs ys (m, lt, is) step =
    let state = All-contains (IsStarState sys star.shape) star.members xs fits.states (m, lt, is) in
    let at : get_or star.members m [] ≡ xs = get_or_default star.members m [] xs lt ∙ is in
    let among = subst (λ zs. Contains (steps sys star.shape zs) ys) (sym at) (steps_have sys star.shape xs ys fits.some state step) in
    subst (Contains star.members) (get_or_default (steps_at sys star m) among.0 [] ys among.1 ∙ among.2) (stay m lt among.0 among.1)

calm_from : (sys : SystemParts) (star : Star) → IsFitting sys star → IsFirstWait sys star None → IsCalm sys star
calm_from sys star fits stay arc xs ys (m, lt, is) step =
    let state = All-contains (IsStarState sys star.shape) star.members xs fits.states (m, lt, is) in
    let at : get_or star.members m [] ≡ xs = get_or_default star.members m [] xs lt ∙ is in
    let among = subst (λ zs. Contains (centre_steps sys star.shape zs) ys) (sym at) (centre_have sys star.shape xs ys arc fits.some state step) in
    subst (IsCalmAt sys star.shape) (get_or_default (centre_steps_at sys star m) among.0 [] ys among.1 ∙ among.2) (stay m lt among.0 among.1)

pub accepted_from : (sys : SystemParts) (stars : List Star) → All (IsFitting sys) stars → AreClosed sys stars → IsFirstOf (IsFirstWait sys) stars None → IsAccepted sys stars
accepted_from sys stars fits parts calm = record {
  start = parts.0.0.0;
  shapes = λ k shape lt some is. parts.0.0.1 k lt some shape is;
  starts = All-from_get_or (HasStarts sys) stars no_star parts.0.1;
  closed = All-from_get_or (IsClosed sys) stars no_star (λ i lt. closed_from sys (star_at stars i) (fit i lt) (parts.1 i lt));
  calm = All-from_get_or (IsCalm sys) stars no_star (λ i lt. calm_from sys (star_at stars i) (fit i lt) (calm i lt));
}
  where
    fit : (i : ℕ) → i < length stars → IsFitting sys (star_at stars i)
    fit i lt = All-contains (IsFitting sys) stars (star_at stars i) fits (i, lt, get_or_default stars i (star_at stars i) no_star lt)

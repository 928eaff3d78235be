-- The laws of the history: what a firing leaves of what a cell shows.
use Rattle.std.proofs.Common.{ℕ, zero, suc, ◌≡◌, ◌≤◌, ◌+◌, Bool, true, false, cond, List, [], ◌∷◌, ◌++◌, length, take, arith, refl, sym, ◌∙◌, ap, subst, length-append}
use Rattle.std.proofs.lemmas.List.{take-append-le, take_all}
use Rattle.std.proofs.lemmas.List.Sums.{sum_by-cons}
use Rattle.conjunctive_compose.specs.declared.wish.Wish.{Wish}
use Rattle.conjunctive_compose.specs.System.{SystemParts, IsSystem}
use Rattle.conjunctive_compose.specs.Whole.{WholeParts, IsProper, start_of}
use Rattle.conjunctive_compose.specs.Firing.{fired}
use Rattle.conjunctive_compose.specs.Run.{IsRun, whole_after}
use Rattle.conjunctive_compose.proofs.Pairs.{fired_proper}
use Rattle.conjunctive_compose.proofs.Runs.{run_proper}
use Rattle.conjunctive_compose.proofs.Starts.{start_is_proper}
use Rattle.firing_words.specs.declared.cell.Cell.{Cell}
use Rattle.firing_words.specs.declared.cell.Reading.{Reading}
use Rattle.firing_words.specs.Cells.{HasContent, IsCell, is_moved}
use Rattle.firing_words.specs.History.{Firing, IsLatest, Shows, moves_before, moves_in, wishes}
use Rattle.firing_words.proofs.Cells.{content_stays}

pub wishes_push : (log : List Firing) (e : Firing) → wishes (log ++ e ∷ []) ≡ wishes log ++ e.wish ∷ []
wishes_push [] e = refl
wishes_push (x ∷ log) e = ap (λ (run : List Wish). x.wish ∷ run) (wishes_push log e)

pub length-wishes : (log : List Firing) → length (wishes log) ≡ length log
length-wishes [] = refl
length-wishes (x ∷ log) = ap suc (length-wishes log)

pub after_push : (sys : SystemParts) (w : WholeParts) (run : List Wish) (wish : Wish) → whole_after sys w (run ++ wish ∷ []) ≡ fired sys (whole_after sys w run) wish
after_push sys w [] wish = refl
after_push sys w (x ∷ run) wish = after_push sys (fired sys w x) run wish

pub moves_cons : (sys : SystemParts) (wish : Wish) (run : List Wish) (i : Cell) → moves_in sys (wish ∷ run) i ≡ cond (is_moved sys i wish) 1 0 + moves_in sys run i
moves_cons sys wish run i = sum_by-cons (λ (x : Wish). cond (is_moved sys i x) 1 0) wish run

pub moves_push : (sys : SystemParts) (run : List Wish) (wish : Wish) (i : Cell) → moves_in sys (run ++ wish ∷ []) i ≡ moves_in sys run i + cond (is_moved sys i wish) 1 0
moves_push sys [] wish i = omega (arith, moves_cons sys wish [] i)
moves_push sys (x ∷ run) wish i = omega (arith, moves_cons sys x (run ++ wish ∷ []) i, moves_cons sys x run i, moves_push sys run wish i)

-- a firing that moves the cell, and one that does not
pub moves_hit : (sys : SystemParts) (run : List Wish) (wish : Wish) (i : Cell) → is_moved sys i wish ≡ true → moves_in sys (run ++ wish ∷ []) i ≡ moves_in sys run i + 1
moves_hit sys run wish i is = moves_push sys run wish i ∙ ap (λ (b : Bool). moves_in sys run i + cond b 1 0) is

pub moves_miss : (sys : SystemParts) (run : List Wish) (wish : Wish) (i : Cell) → is_moved sys i wish ≡ false → moves_in sys (run ++ wish ∷ []) i ≡ moves_in sys run i
moves_miss sys run wish i is = moves_push sys run wish i ∙ ap (λ (b : Bool). moves_in sys run i + cond b 1 0) is ∙ omega arith

pub moves_whole : (sys : SystemParts) (run : List Wish) (i : Cell) → moves_before sys run i (length run) ≡ moves_in sys run i
moves_whole sys run i = ap (λ (r : List Wish). moves_in sys r i) (take_all (length run) run (omega arith))

pub moves_longer : (sys : SystemParts) (run more : List Wish) (i : Cell) (p : ℕ) → p ≤ length run → moves_before sys (run ++ more) i p ≡ moves_before sys run i p
moves_longer sys run more i p le = ap (λ (r : List Wish). moves_in sys r i) (take-append-le p run more le)

-- where the cell does not move between, it still has what it had
settles_from : (sys : SystemParts) (w : WholeParts) (run : List Wish) (p : ℕ) (i : Cell) (x : ℕ) → IsSystem sys → IsCell sys i → IsProper sys w → IsRun sys w run → moves_before sys run i p ≡ moves_in sys run i → HasContent sys (whole_after sys w (take p run)) i x → HasContent sys (whole_after sys w run) i x
settles_from sys w [] p i x system cell proper is same has = subst (λ (r : List Wish). HasContent sys (whole_after sys w r) i x) (nothing p) has
  where
    nothing : (p : ℕ) → ◌≡◌ {A = List Wish} (take p []) []
    nothing zero = refl
    nothing (suc p) = refl
settles_from sys w (wish ∷ run) zero i x system cell proper is same has = by_head (is_moved sys i wish) refl (settles_from sys (fired sys w wish) run zero i x system cell (fired_proper sys w wish system proper is.0) is.1)
  where
    by_head : (b : Bool) → is_moved sys i wish ≡ b → (moves_before sys run i zero ≡ moves_in sys run i → HasContent sys (fired sys w wish) i x → HasContent sys (whole_after sys (fired sys w wish) run) i x) → HasContent sys (whole_after sys (fired sys w wish) run) i x
    by_head true moved go = absurd (omega (arith, same, moves_cons sys wish run i, ap {B = ℕ} (λ (b : Bool). cond b 1 0) moved))
    by_head false still go = go (omega (arith, same, moves_cons sys wish run i)) (content_stays sys w wish i x proper cell still has)
settles_from sys w (wish ∷ run) (suc p) i x system cell proper is same has =
    settles_from sys (fired sys w wish) run p i x system cell (fired_proper sys w wish system proper is.0) is.1 (omega (arith, same, moves_cons sys wish run i, moves_cons sys wish (take p run) i)) has

pub settles : (sys : SystemParts) (run : List Wish) (i : Cell) (x : ℕ) → IsSystem sys → IsCell sys i → IsRun sys (start_of sys) run → Shows sys run i (moves_in sys run i) x → HasContent sys (whole_after sys (start_of sys) run) i x
settles sys run i x system cell is (p, le, count, has) = settles_from sys (start_of sys) run p i x system cell (start_is_proper sys system).proper is count has

-- what a cell shows it shows in a longer run
pub shows_longer : (sys : SystemParts) (run more : List Wish) (i : Cell) (m x : ℕ) → Shows sys run i m x → Shows sys (run ++ more) i m x
shows_longer sys run more i m x (p, le, count, has) = (p, omega (arith, le, length-append run more), moves_longer sys run more i p le ∙ count, subst (λ (r : List Wish). HasContent sys (whole_after sys (start_of sys) r) i x) (sym (take-append-le p run more le)) has)

-- all moves are shown at the end
pub shows_latest : (sys : SystemParts) (run : List Wish) (r : Reading) → IsLatest sys run r → Shows sys run r.cell r.moves r.content
shows_latest sys run r is = (length run, omega arith, moves_whole sys run r.cell ∙ sym is.moves, subst (λ (u : List Wish). HasContent sys (whole_after sys (start_of sys) u) r.cell r.content) (sym (take_all (length run) run (omega arith))) is.content)

pub reached_proper : (sys : SystemParts) (run : List Wish) → IsSystem sys → IsRun sys (start_of sys) run → IsProper sys (whole_after sys (start_of sys) run)
reached_proper sys run system is = run_proper sys (start_of sys) run system (start_is_proper sys system).proper is

-- a firing that does not move the cell leaves it as it is
pub latest_stays : (sys : SystemParts) (run : List Wish) (wish : Wish) (r : Reading) → IsSystem sys → IsRun sys (start_of sys) run → IsCell sys r.cell → is_moved sys r.cell wish ≡ false → IsLatest sys run r → IsLatest sys (run ++ wish ∷ []) r
latest_stays sys run wish r system is cell still latest = record {
  moves = latest.moves ∙ sym (moves_miss sys run wish r.cell still);
  content = subst (λ (w : WholeParts). HasContent sys w r.cell r.content) (sym (after_push sys (start_of sys) run wish)) (content_stays sys (whole_after sys (start_of sys) run) wish r.cell r.content (reached_proper sys run system is) cell still latest.content);
}

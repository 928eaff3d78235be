-- Wishes that are fired one after another from the start.
use Rattle.std.proofs.Common.{ℕ, ◌≡◌, ◌<◌, ◌≤◌, ◌+◌, ◌⊎◌, inl, inr, Bool, false, List, [], ◌∷◌, ◌++◌, length, get_or, set, take, arith, refl, sym, ◌∙◌, ap, subst, eq-eqb}
use Rattle.std.specs.Prelude.{◌==◌, replicate}
use Rattle.std.proofs.lemmas.Bool.{cases_eq}
use Rattle.std.proofs.lemmas.List.{ext_get_or, get_or-map, get_or-set_other, get_or-set_same, get_or-replicate, length-map, length-replicate, length-set, length-take, take_more, take_all}
use Rattle.std.proofs.lemmas.List.FromFn.{get_or-map-range_with_len, length-map-range_with_len}
use Rattle.std.proofs.lemmas.List.Sums.{count_by_more_no, count_by_more_yes, count_by-le-length}
use Rattle.std.proofs.Math.Nat.{min-le_left}
use Rattle.conjunctive_compose.specs.declared.wish.Wish.{Wish}
use Rattle.conjunctive_compose.specs.declared.wish.StepAnswer.{StepAnswer}
use Rattle.conjunctive_compose.specs.declared.wish.StepAnswer.TheVariants.{Moved, Away, Blocked}
use Rattle.conjunctive_compose.specs.System.{SystemParts, process_count}
use Rattle.conjunctive_compose.specs.Whole.{WholeParts, IsProper, start_of}
use Rattle.conjunctive_compose.specs.Firing.{IsAnswer, Moves, fired}
use Rattle.conjunctive_compose.specs.Run.{IsRun, whole_after}
use Rattle.conjunctive_compose.specs.Reply.{after_first, count_of}
use Rattle.conjunctive_compose.proofs.Runs.{run_grows}
use Rattle.firing_journal.specs.declared.journal.Entry.{Entry}
use Rattle.firing_journal.specs.Journal.{wish_of, wishes_of}
use Rattle.firing_journal.specs.Replay.{IsFirstStuck, LeavesWhole, moves_among, no_wish, wish_at}

pub after-append : (sys : SystemParts) (w : WholeParts) (run : List Wish) (wish : Wish) → whole_after sys w (run ++ wish ∷ []) ≡ fired sys (whole_after sys w run) wish
after-append sys w [] wish = refl
after-append sys w (x ∷ run) wish = after-append sys (fired sys w x) run wish

pub after_more : (sys : SystemParts) (run : List Wish) (i : ℕ) (d : Wish) → i < length run → after_first sys run (i + 1) ≡ fired sys (after_first sys run i) (get_or run i d)
after_more sys run i d lt = rw (take_more run i d lt) (after-append sys (start_of sys) (take i run) (get_or run i d))

pub run_more : (sys : SystemParts) (run : List Wish) (i : ℕ) (d : Wish) → i < length run → IsRun sys (start_of sys) (take i run) → Moves sys (after_first sys run i) (get_or run i d) → IsRun sys (start_of sys) (take (i + 1) run)
run_more sys run i d lt is moves = rw (take_more run i d lt) (run_grows sys (start_of sys) (take i run) (get_or run i d) is moves)

abbrev fires : ℕ → Wish → Bool
fires k wish = wish.process == k

-- the counts after one more wish: that of its process is one more
pub counts_more : (sys : SystemParts) (run : List Wish) (i k : ℕ) (d : Wish) → i < length run → (get_or run i d).process ≡ k → k < process_count sys
    → set (moves_among sys run i) k (get_or (moves_among sys run i) k 0 + 1) ≡ moves_among sys run (i + 1)
counts_more sys run i k d lt is in' = ext_get_or 0 _ (moves_among sys run (i + 1)) (length-set (moves_among sys run i) k _ ∙ size i ∙ sym (size (i + 1))) each
  where
    size : (n : ℕ) → length (moves_among sys run n) ≡ process_count sys
    size n = length-map-range_with_len (λ j. count_of run j n) 0 (process_count sys)

    at : (n j : ℕ) → j < process_count sys → get_or (moves_among sys run n) j 0 ≡ count_of run j n
    at n j l = get_or-map-range_with_len (λ j. count_of run j n) 0 (process_count sys) j j 0 l (omega arith)

    one : (j : ℕ) → j < process_count sys → (j ≡ k) ⊎ (j ≡ k → ⊥) → get_or (set (moves_among sys run i) k (get_or (moves_among sys run i) k 0 + 1)) j 0 ≡ count_of run j (i + 1)
    one j l (inl same) = rw same (get_or-set_same (moves_among sys run i) k (get_or (moves_among sys run i) k 0 + 1) 0 (omega (arith, size i, in')) ∙ ap {B = ℕ} (λ x. x + 1) (at i k in') ∙ sym (count_by_more_yes (fires k) run i d lt (eq-eqb _ k is)))
    one j l (inr other) = get_or-set_other (moves_among sys run i) k j _ 0 other ∙ at i j l ∙ sym (count_by_more_no (fires j) run i d lt (not_equal j other))
      where
        not_equal : (j : ℕ) → (j ≡ k → ⊥) → ((get_or run i d).process == j) ≡ false
        not_equal j other = grind (arith, is, other)

    each : (j : ℕ) → j < length (set (moves_among sys run i) k (get_or (moves_among sys run i) k 0 + 1)) → get_or (set (moves_among sys run i) k (get_or (moves_among sys run i) k 0 + 1)) j 0 ≡ get_or (moves_among sys run (i + 1)) j 0
    each j l =
        let l' : j < process_count sys = omega (arith, l, length-set (moves_among sys run i) k (get_or (moves_among sys run i) k 0 + 1), size i) in
        one j l' (cases_eq j k) ∙ sym (at (i + 1) j l')

-- before the first wish no process has fired
pub no_moves : (sys : SystemParts) (run : List Wish) → replicate (process_count sys) 0 ≡ moves_among sys run 0
no_moves sys run = ext_get_or 0 (replicate (process_count sys) 0) (moves_among sys run 0) (length-replicate {A = ℕ} (process_count sys) 0 ∙ sym (length-map-range_with_len (λ j. count_of run j 0) 0 (process_count sys))) each
  where
    each : (j : ℕ) → j < length {A = ℕ} (replicate (process_count sys) 0) → get_or (replicate (process_count sys) 0) j 0 ≡ get_or (moves_among sys run 0) j 0
    each j lt =
        let l : j < process_count sys = omega (arith, lt, length-replicate {A = ℕ} (process_count sys) 0) in
        get_or-replicate (process_count sys) j 0 0 l ∙ sym (get_or-map-range_with_len (λ k. count_of run k 0) 0 (process_count sys) j j 0 l (omega arith))

-- the first i wishes are a run that leaves this whole state, in which each process fires so often
pub record FiredUpTo (sys : SystemParts) (run : List Wish) (i : ℕ) (w : WholeParts) (moves : List ℕ) : Type 0 where
  pub is_run : IsRun sys (start_of sys) (take i run)
  pub whole : w ≡ after_first sys run i
  pub each : moves ≡ moves_among sys run i
  pub proper : IsProper sys w

pub fired_start : (sys : SystemParts) (run : List Wish) (w : WholeParts) (moves : List ℕ) → w ≡ start_of sys → IsProper sys w → moves ≡ replicate (process_count sys) 0 → FiredUpTo sys run 0 w moves
fired_start sys run w moves is proper none = record { is_run = tt; whole = is; each = none ∙ no_moves sys run; proper = proper }

pub fired_more : (sys : SystemParts) (run : List Wish) (i : ℕ) (w v : WholeParts) (moves more : List ℕ) (d : Wish) → i < length run → FiredUpTo sys run i w moves → Moves sys w (get_or run i d) → v ≡ fired sys w (get_or run i d) → IsProper sys v
    → more ≡ set moves (get_or run i d).process (get_or moves (get_or run i d).process 0 + 1) → FiredUpTo sys run (i + 1) v more
fired_more sys run i w v moves more d lt so step is proper set_is = record {
  is_run = run_more sys run i d lt so.is_run (rw (← so.whole) step);
  whole = is ∙ ap (λ (u : WholeParts). fired sys u (get_or run i d)) so.whole ∙ sym (after_more sys run i d lt);
  each = set_is ∙ ap (λ (m : List ℕ). set m (get_or run i d).process (get_or m (get_or run i d).process 0 + 1)) so.each ∙ counts_more sys run i (get_or run i d).process d lt refl step.fits.process_in;
  proper = proper;
}

-- a count has room for one more
pub count_fits : (sys : SystemParts) (run : List Wish) (i k : ℕ) → k < process_count sys → get_or (moves_among sys run i) k 0 ≤ i
count_fits sys run i k lt = omega (arith, get_or-map-range_with_len (λ j. count_of run j i) 0 (process_count sys) k k 0 lt (omega arith), count_by-le-length (fires k) (take i run), length-take i run, min-le_left i (length run))

-- an answer other than that it moved says that it does not move
pub answer_stuck : (sys : SystemParts) (w v : WholeParts) (wish : Wish) (answer : StepAnswer) → (answer ≡ Moved → ⊥) → IsAnswer sys w wish answer v → (Moves sys w wish → ⊥) × IsAnswer sys w wish answer w
answer_stuck sys w v wish Moved other is = absurd (other refl)
answer_stuck sys w v wish (Away local) other is = ((λ moves. is.1 (moves.leaves ∙ sym is.0)), (is.0, is.1, refl))
answer_stuck sys w v wish (Blocked j) other (leaves, ((e, side, lt, on, at, shut), lowest), same) = ((λ moves. shut (moves.permit e side lt on)), (leaves, ((e, side, lt, on, at, shut), lowest), refl))

pub first_stuck : (sys : SystemParts) (run : List Wish) (i : ℕ) (w v : WholeParts) (moves : List ℕ) (answer : StepAnswer) → i < length run → FiredUpTo sys run i w moves → (answer ≡ Moved → ⊥) → IsAnswer sys w (wish_at run i) answer v → IsFirstStuck sys run i answer
first_stuck sys run i w v moves answer lt so other is =
    let stuck = answer_stuck sys w v (wish_at run i) answer other is in
    record {
      within = lt;
      before = so.is_run;
      stuck = rw (← so.whole) stuck.0;
      answered = rw (← so.whole) stuck.1;
    }

pub leaves_whole : (sys : SystemParts) (run : List Wish) (w : WholeParts) (moves : List ℕ) (i : ℕ) → i ≡ length run → FiredUpTo sys run i w moves → LeavesWhole sys run w moves
leaves_whole sys run w moves i all so = record {
  is_run = subst (IsRun sys (start_of sys)) (take_all i run (omega (arith, all))) so.is_run;
  whole = so.whole ∙ ap (whole_after sys (start_of sys)) (take_all i run (omega (arith, all)));
  each = so.each ∙ ap (λ (n : ℕ). moves_among sys run n) all;
}

-- the wish of an entry is that of its place
pub wish_there : (entries : List Entry) (i : ℕ) (d : Wish) (e : Entry) → i < length entries → get_or (wishes_of entries) i d ≡ (get_or entries i e).wish
wish_there entries i d e lt = get_or-map wish_of entries i e d lt

pub length-wishes : (entries : List Entry) → length (wishes_of entries) ≡ length entries
length-wishes entries = length-map entries wish_of

pub entry_fired : (sys : SystemParts) (entries : List Entry) (i : ℕ) (w v : WholeParts) (moves : List ℕ) (e : Entry) → i < length entries → FiredUpTo sys (wishes_of entries) i w moves → IsAnswer sys w (get_or entries i e).wish Moved v → IsProper sys v
    → FiredUpTo sys (wishes_of entries) (i + 1) v (set moves (get_or entries i e).wish.process (get_or moves (get_or entries i e).wish.process 0 + 1))
entry_fired sys entries i w v moves e lt so answer proper =
    subst (λ (wish : Wish). IsAnswer sys w wish Moved v → FiredUpTo sys (wishes_of entries) (i + 1) v (set moves wish.process (get_or moves wish.process 0 + 1))) (wish_there entries i e.wish e lt)
    (λ is. fired_more sys (wishes_of entries) i w v moves (set moves (get_or (wishes_of entries) i e.wish).process (get_or moves (get_or (wishes_of entries) i e.wish).process 0 + 1)) e.wish (omega (arith, lt, length-wishes entries)) so is.0 is.1 proper refl)
    answer

pub entry_stuck : (sys : SystemParts) (entries : List Entry) (i : ℕ) (w v : WholeParts) (moves : List ℕ) (e : Entry) (answer : StepAnswer) → i < length entries → FiredUpTo sys (wishes_of entries) i w moves → (answer ≡ Moved → ⊥) → IsAnswer sys w (get_or entries i e).wish answer v
    → IsFirstStuck sys (wishes_of entries) i answer
entry_stuck sys entries i w v moves e answer lt so other is =
    first_stuck sys (wishes_of entries) i w v moves answer (omega (arith, lt, length-wishes entries)) so other (subst (λ (wish : Wish). IsAnswer sys w wish answer v) (sym (wish_there entries i no_wish e lt)) is)

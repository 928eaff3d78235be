-- What a job begins with, and what the passes are when all are done.
use Rattle.std.proofs.Common.{ℕ, ◌≡◌, ◌<◌, ◌+◌, None, List, [], ◌∷◌, zero, suc, inl, inr, length, get_or, arith, refl, sym, ◌∙◌, ap, subst, All}
use Rattle.std.proofs.Math.Nat.{mod-lt}
use Rattle.std.proofs.lemmas.List.{length-map}
use Rattle.std.proofs.lemmas.Option.{slice_get-get_or}
use Rattle.conjunctive_compose.specs.System.{IsSystem, SystemParts, process_count}
use Rattle.conjunctive_compose.specs.Whole.{start_of}
use Rattle.conjunctive_compose.proofs.Starts.{start_is_proper}
use Rattle.firing_words.specs.Of.{system_of}
use Rattle.firing_words.specs.Lists.{Has}
use Rattle.firing_journal.specs.Report.{IsLawful, list_by, lists_of}
use Rattle.firing_journal.specs.declared.asked.Asked.{Asked}
use Rattle.firing_journal.specs.declared.report.Report.{Report}
use Rattle.firing_hall.specs.Closing.{AreListsIn, ProjectsToPaths}
use Rattle.firing_hall.specs.Opening.{ArePasses, IsFresh}
use Rattle.firing_hall.specs.Passes.{IsPassOf}
use Rattle.firing_hall.specs.declared.firing.Hall.{Hall}
use Rattle.firing_hall.specs.declared.pass.Pass.{Pass}
use Rattle.firing_crew.specs.declared.draw.TheConstants.{MODULUS}
use Rattle.firing_crew.specs.declared.orders.Orders.{Orders}
use Rattle.firing_crew.specs.Draws.{first_state}
use Rattle.firing_crew.specs.Crews.{IsCrewReport}
use Rattle.firing_crew.specs.Workers.{AreReplies, WorkerParts, first_worker}
use Rattle.firing_crew.specs.inside.Jobs.{AreDone, IsBegun, IsDone}
use Rattle.firing_crew.specs.inside.Working.{IsWorkerOf, StandsAt, Works}
use Rattle.firing_crew.proofs.Away.{never_away}
use Rattle.firing_crew.proofs.ByPlace.{From}

first_fits : (sys : SystemParts) (orders : Orders) (c : ℕ) → IsSystem sys → c < process_count sys → IsWorkerOf sys (first_worker sys orders c)
first_fits sys orders c is lt =
    let proper = (start_is_proper sys is).proper in
    record {
      caller = lt;
      next = lt;
      word = mod-lt (orders.seed + c) {m = MODULUS} (omega arith);
      locals = record { size = proper.locals; within = proper.within };
      look = λ j none. absurd (cc);
    }

-- a fresh pass and the first worker of its caller
pub begun : (hall : Hall) (orders : Orders) (c : ℕ) (pass : Pass) (w : WorkerParts) (locals : List ℕ) (sys : SystemParts) → sys ≡ system_of hall.words → IsSystem sys → IsFresh hall c pass → c < process_count (system_of hall.words) → locals ≡ (start_of (system_of hall.words)).locals → w ≡ record { caller = c; next = c; word = first_state orders.seed c; locals = locals; look = None } → IsBegun hall orders c pass w
begun hall orders c pass w locals sys same is fresh lt start first = record {
  works = record { of = fresh.0; stands = subst (λ (k : ℕ). StandsAt (system_of hall.words) orders k pass.asked.items w) (sym fresh.1) (subst (λ (l : List Asked). StandsAt (system_of hall.words) orders c l w) (sym fresh.2) (subst (StandsAt (system_of hall.words) orders c []) (sym first_is) stands)) };
  caller = fresh.1;
  empty = fresh.2;
}
  where
    first_is : w ≡ first_worker (system_of hall.words) orders c
    first_is = first ∙ ap (λ (l : List ℕ). record { caller = c; next = c; word = first_state orders.seed c; locals = l; look = None }) start

    stands : StandsAt (system_of hall.words) orders c [] (first_worker (system_of hall.words) orders c)
    stands = record { of = first_fits (system_of hall.words) orders c (subst IsSystem same is) lt; replies = tt; behind = refl }

pub fresh_from : (hall : Hall) (n : ℕ) (passes : List Pass) → ArePasses hall n passes → From (IsFresh hall) 0 passes
fresh_from hall n passes are j d lt = subst (λ (k : ℕ). IsFresh hall k (get_or passes j d)) (omega arith) (are.1 j (get_or passes j d) (slice_get-get_or passes j d lt))

pub done_passes : (hall : Hall) (orders : Orders) (passes : List Pass) → AreDone hall orders passes → All (IsPassOf hall) passes
done_passes hall orders passes are i d lt = (are.each i d lt).of

has_at : {X : Type 0} (xs : List X) (i : ℕ) (d : X) → i < length xs → Has (get_or xs i d) xs
has_at [] i d lt = absurd (omega (arith, lt))
has_at (x ∷ xs) zero d lt = inl refl
has_at (x ∷ xs) (suc i) d lt = inr (has_at xs i d (omega (arith, lt)))

some_of : {X : Type 0} (xs : List X) (n : ℕ) → n < length xs → X
some_of [] n lt = absurd (omega (arith, lt))
some_of (x ∷ xs) n lt = x

module _ (hall : Hall) (orders : Orders) (passes : List Pass) (report : Report) (done : AreDone hall orders passes) (lawful : IsLawful (system_of hall.words) report.journal (lists_of report)) (paths : ProjectsToPaths (system_of hall.words) report.journal) (size : length report.callers.items ≡ orders.callers) (lists : AreListsIn passes (lists_of report)) where
  -- list c is that of a full pass
  done_list : (c : ℕ) → c < orders.callers → (length (list_by (lists_of report) c) ≡ orders.room) × AreReplies (system_of hall.words) orders (first_worker (system_of hall.words) orders c) (list_by (lists_of report) c)
  done_list c lt =
      let within : c < length passes = omega (arith, lt, done.count) in
      let d : Pass = some_of passes c within in
      let is_done = done.each c d within in
      let is : list_by (lists_of report) c ≡ (get_or passes c d).asked.items = ap (list_by (lists_of report)) (sym is_done.caller) ∙ lists (get_or passes c d) (has_at passes c d within) in
      (ap length is ∙ is_done.count, subst (AreReplies (system_of hall.words) orders (first_worker (system_of hall.words) orders c)) (sym is) is_done.replies)

  pub crew_report : IsCrewReport (system_of hall.words) orders report
  crew_report = record {
    lawful = lawful;
    paths = paths;
    callers = many;
    by_rule = λ c lt. record {
      count = (done_list c lt).0;
      replies = (done_list c lt).1;
      never_away = never_away (system_of hall.words) orders report.journal (lists_of report) (record { callers = many; replies = λ c lt. (done_list c lt).1 }) lawful c lt;
    };
  }
    where
      many : length (lists_of report) ≡ orders.callers
      many = length-map report.callers.items (λ list. list.items) ∙ size

-- a worker that stands behind as many replies as there is room for is done
pub done_from : (hall : Hall) (orders : Orders) (c : ℕ) (pass : Pass) (w : WorkerParts) → Works hall orders pass w → pass.caller ≡ c → length pass.asked.items ≡ orders.room → IsDone hall orders c pass
done_from hall orders c pass w works caller full = record {
  of = works.of;
  caller = caller;
  count = full;
  replies = subst (λ (k : ℕ). AreReplies (system_of hall.words) orders (first_worker (system_of hall.words) orders k) pass.asked.items) caller works.stands.replies;
}

-- the one pass is done
pub one_done : (hall : Hall) (orders : Orders) (pass : Pass) (passes : List Pass) → orders.callers ≡ 1 → passes ≡ pass ∷ [] → IsDone hall orders 0 pass → AreDone hall orders passes
one_done hall orders pass passes one is done = subst (AreDone hall orders) (sym is) (record { count = sym one; each = each })
  where
    each : (c : ℕ) (d : Pass) → c < length (pass ∷ []) → IsDone hall orders c (get_or (pass ∷ []) c d)
    each zero d lt = done
    each (suc c) d lt = absurd (omega (arith, lt))

-- Each caller fires its own processes, and knows their local states.
use Rattle.std.proofs.Common.{ℕ, ◌≡◌, ◌<◌, ◌+◌, ◌%◌, Bool, true, false, nat_lt, Option, List, [], ◌∷◌, ◌++◌, length, All, arith, refl, ◌∙◌, ap}
use Rattle.std.specs.Prelude.{if◌then◌else◌, slice_index}
use Rattle.std.proofs.Math.Nat.{add-mod_right, mod-eq_of_lt}
use Rattle.std.proofs.lemmas.List.{length-set}
use Rattle.std.proofs.lemmas.List.Elements.{All-cons, All-nil}
use Rattle.conjunctive_compose.specs.Firing.{arc_of}
use Rattle.conjunctive_compose.specs.System.{SystemParts, process_count}
use Rattle.firing_journal.specs.declared.asked.Asked.{Asked}
use Rattle.firing_journal.specs.declared.asked.Asked.TheVariants.{Fired, Away, Blocked, Seen, SeenPair}
use Rattle.firing_journal.specs.declared.journal.Entry.{Entry}
use Rattle.firing_journal.specs.Journal.{wishes_of}
use Rattle.firing_journal.specs.Report.{fired_of}
use Rattle.firing_crew.specs.declared.orders.Orders.{Orders}
use Rattle.firing_crew.specs.Workers.{AreReplies, IsNextReply, WorkerParts, after_reply, after_wish, process_after}
use Rattle.firing_crew.specs.inside.Working.{after_all}
use Rattle.firing_crew.proofs.Locals.{local_from, local_set}

-- the worker is that of caller c of n, and its next process is one of c's
pub record Owns (n c : ℕ) (w : WorkerParts) : Type 0 where
  pub caller : w.caller ≡ c
  pub next : w.next % n ≡ c

after_owned : (processes n c k : ℕ) → c < n → k % n ≡ c → process_after processes n c k % n ≡ c
after_owned processes n c k lt own = by (nat_lt (k + n) processes)
  where
    by : (b : Bool) → (if b then k + n else c) % n ≡ c
    by true = add-mod_right k n ∙ own
    by false = mod-eq_of_lt lt

turned : (processes n c : ℕ) (w : WorkerParts) (locals : List ℕ) (look : Option ℕ) → c < n → Owns n c w → Owns n c (after_wish processes n w locals look)
turned processes n c w locals look lt owns = record {
  caller = owns.caller;
  next = rw owns.caller (after_owned processes n c w.next lt owns.next);
}

pub owns_reply : (sys : SystemParts) (n c : ℕ) (w : WorkerParts) (asked : Asked) → c < n → Owns n c w → Owns n c (after_reply sys n w asked)
owns_reply sys n c w (Fired wish m) lt owns = turned (process_count sys) n c w _ _ lt owns
owns_reply sys n c w (Away wish local p) lt owns = turned (process_count sys) n c w _ _ lt owns
owns_reply sys n c w (Blocked wish j p) lt owns = turned (process_count sys) n c w _ _ lt owns
owns_reply sys n c w (Seen k m local) lt owns = record { caller = owns.caller; next = owns.next }
owns_reply sys n c w (SeenPair e m s) lt owns = owns

pub owns_all : (sys : SystemParts) (n c : ℕ) (w : WorkerParts) (list : List Asked) → c < n → Owns n c w → Owns n c (after_all sys n w list)
owns_all sys n c w [] lt owns = owns
owns_all sys n c w (asked ∷ list) lt owns = owns_all sys n c (after_reply sys n w asked) list lt (owns_reply sys n c w asked lt owns)

abbrev pub IsOwn : ℕ → ℕ → Entry → Type 0
IsOwn n c entry = entry.wish.process % n ≡ c

-- what a list says it fired are firings of its caller's processes
pub fired_own : (sys : SystemParts) (orders : Orders) (c : ℕ) (w : WorkerParts) (list : List Asked) → c < orders.callers → Owns orders.callers c w → AreReplies sys orders w list → All (IsOwn orders.callers c) (fired_of c list)
fired_own sys orders c w [] lt owns are = All-nil (IsOwn orders.callers c)
fired_own sys orders c w (Fired wish n ∷ list) lt owns are =
    let own : wish.process % orders.callers ≡ c = ap (λ (k : ℕ). k % orders.callers) are.0.1.process ∙ owns.next in
    All-cons (IsOwn orders.callers c) (record { number = n; caller = c; wish = wish }) (fired_of c list) own (fired_own sys orders c (after_reply sys orders.callers w (Fired wish n)) list lt (owns_reply sys orders.callers c w (Fired wish n) lt owns) are.1)
fired_own sys orders c w (Away wish local p ∷ list) lt owns are = fired_own sys orders c (after_reply sys orders.callers w (Away wish local p)) list lt (owns_reply sys orders.callers c w (Away wish local p) lt owns) are.1
fired_own sys orders c w (Blocked wish j p ∷ list) lt owns are = fired_own sys orders c (after_reply sys orders.callers w (Blocked wish j p)) list lt (owns_reply sys orders.callers c w (Blocked wish j p) lt owns) are.1
fired_own sys orders c w (Seen k m local ∷ list) lt owns are = fired_own sys orders c (after_reply sys orders.callers w (Seen k m local)) list lt (owns_reply sys orders.callers c w (Seen k m local) lt owns) are.1
fired_own sys orders c w (SeenPair e m s ∷ list) lt owns are = absurd are.0

-- the reply behind the first ones comes next there
pub next_behind : (sys : SystemParts) (orders : Orders) (w : WorkerParts) (front : List Asked) (asked : Asked) (back : List Asked) → AreReplies sys orders w (front ++ asked ∷ back) → IsNextReply sys orders.turn (after_all sys orders.callers w front) asked
next_behind sys orders w [] asked back are = are.0
next_behind sys orders w (first ∷ front) asked back are = next_behind sys orders (after_reply sys orders.callers w first) front asked back are.1

-- the worker's local states are what its firings make of the first ones
pub locals_known : (sys : SystemParts) (n c k : ℕ) (w : WorkerParts) (list : List Asked) → k < length w.locals → slice_index (after_all sys n w list).locals k ≡ local_from sys k (slice_index w.locals k) (wishes_of (fired_of c list))
locals_known sys n c k w [] lt = refl
locals_known sys n c k w (Fired wish m ∷ list) lt =
    let to : ℕ = (arc_of sys wish.process wish.arc).to in
    locals_known sys n c k (after_reply sys n w (Fired wish m)) list (omega (arith, lt, length-set w.locals wish.process to))
    ∙ ap (λ (x : ℕ). local_from sys k x (wishes_of (fired_of c list))) (local_set w.locals wish.process to k lt)
locals_known sys n c k w (Away wish local p ∷ list) lt = locals_known sys n c k (after_reply sys n w (Away wish local p)) list lt
locals_known sys n c k w (Blocked wish j p ∷ list) lt = locals_known sys n c k (after_reply sys n w (Blocked wish j p)) list lt
locals_known sys n c k w (Seen j m local ∷ list) lt = locals_known sys n c k (after_reply sys n w (Seen j m local)) list lt
locals_known sys n c k w (SeenPair e m s ∷ list) lt = locals_known sys n c k w list lt

-- The lists that workers make. A worker makes wishes for its own processes, one after another and again; a neighbour that blocked a wish is
-- looked at next.
use Rattle.std.specs.Prelude.{ℕ, ◌≡◌, ◌+◌, Option, Some, None, List, [], ◌∷◌, length, All, if◌then◌else◌, nat_lt, slice_index, slice_set}
use Rattle.pair_structure.specs.declared.side.LocalArc.{LocalArc}
use Rattle.conjunctive_compose.specs.declared.wish.Wish.{Wish}
use Rattle.conjunctive_compose.specs.System.{SystemParts, process_count, role_of}
use Rattle.conjunctive_compose.specs.Whole.{start_of}
use Rattle.conjunctive_compose.specs.Firing.{arc_of}
use Rattle.firing_journal.specs.declared.asked.Asked.{Asked}
use Rattle.firing_journal.specs.declared.asked.Asked.TheVariants.{Fired, Away, Blocked, Seen, SeenPair}
use Rattle.firing_crew.specs.declared.orders.Orders.{Orders}
use Rattle.firing_crew.specs.Choice.{IsLeavingArc, leaving_count}
use Rattle.firing_crew.specs.Draws.{first_state, next_word}
use Rattle.firing_crew.specs.Policies.{chosen}

-- a worker between two replies: its number, the process of its next wish, the last word that it drew, the local states that the start and
-- its own firings give, and the neighbour that it looks at next, if any
pub record WorkerParts : Type 0 where
  pub caller : ℕ
  pub next : ℕ
  pub word : ℕ
  pub locals : List ℕ
  pub look : Option ℕ

-- the process that comes after k: the processes of a caller are those whose number leaves the caller's number, divided by the number of
-- callers; they come in rising order, again and again
abbrev pub process_after : ℕ → ℕ → ℕ → ℕ → ℕ
process_after processes callers caller k = if nat_lt (k + callers) processes then k + callers else caller

-- caller c before its first reply
abbrev pub first_worker : SystemParts → Orders → ℕ → WorkerParts
first_worker sys orders c = record {
  caller = c;
  next = c;
  word = first_state orders.seed c;
  locals = (start_of sys).locals;
  look = None;
}

abbrev pub arcs_of : SystemParts → ℕ → List LocalArc
arcs_of sys k = (role_of sys k).arcs

-- the local state of the process that comes next
abbrev pub local_of : WorkerParts → ℕ
local_of w = slice_index w.locals w.next

-- the worker's next wish: two words are drawn, the policy chooses the arc by the first, and the second is the pick
pub record IsNextWish (sys : SystemParts) (turn : ℕ) (w : WorkerParts) (wish : Wish) : Type 0 where
  pub process : wish.process ≡ w.next
  pub arc : IsLeavingArc (arcs_of sys w.next) (local_of w) (chosen turn (leaving_count (arcs_of sys w.next) (local_of w)) (next_word w.word)) wish.arc
  pub pick : wish.pick ≡ next_word (next_word w.word)

-- the worker makes its next wish
abbrev pub Wishes : SystemParts → ℕ → WorkerParts → Wish → Type 0
Wishes sys turn w wish = (w.look ≡ None) × IsNextWish sys turn w wish

-- this reply comes next
abbrev pub IsNextReply : SystemParts → ℕ → WorkerParts → Asked → Type 0
IsNextReply sys turn w (Fired wish n) = Wishes sys turn w wish
IsNextReply sys turn w (Away wish local p) = Wishes sys turn w wish
IsNextReply sys turn w (Blocked wish j p) = Wishes sys turn w wish
IsNextReply sys turn w (Seen k m local) = w.look ≡ Some k
IsNextReply sys turn w (SeenPair e m s) = ⊥

-- the worker after a reply on its wish, which may have moved its process, or been blocked by a neighbour
abbrev pub after_wish : ℕ → ℕ → WorkerParts → List ℕ → Option ℕ → WorkerParts
after_wish processes callers w locals look = record {
  caller = w.caller;
  next = process_after processes callers w.caller w.next;
  word = next_word (next_word w.word);
  locals = locals;
  look = look;
}

-- the local states after a firing
abbrev pub moved : SystemParts → List ℕ → Wish → List ℕ
moved sys locals wish = slice_set locals wish.process (arc_of sys wish.process wish.arc).to

-- the worker after a reply
abbrev pub after_reply : SystemParts → ℕ → WorkerParts → Asked → WorkerParts
after_reply sys callers w (Fired wish n) = after_wish (process_count sys) callers w (moved sys w.locals wish) None
after_reply sys callers w (Away wish local p) = after_wish (process_count sys) callers w w.locals None
after_reply sys callers w (Blocked wish j p) = after_wish (process_count sys) callers w w.locals (Some j)
after_reply sys callers w (Seen k m local) = record { caller = w.caller; next = w.next; word = w.word; locals = w.locals; look = None }
after_reply sys callers w (SeenPair e m s) = w

-- the replies come one after another, from this worker on
abbrev pub AreReplies : SystemParts → Orders → WorkerParts → List Asked → Type 0
AreReplies sys orders w [] = Unit {0}
AreReplies sys orders w (asked ∷ list) = IsNextReply sys orders.turn w asked × AreReplies sys orders (after_reply sys orders.callers w asked) list

-- the arc of a wish left the local state of its process
abbrev pub IsNotAway : Asked → Type 0
IsNotAway (Fired wish n) = Unit {0}
IsNotAway (Away wish local p) = ⊥
IsNotAway (Blocked wish j p) = Unit {0}
IsNotAway (Seen k m local) = Unit {0}
IsNotAway (SeenPair e m s) = Unit {0}

-- the list of caller c: so many replies by the rule, none of them away
pub record IsWorkerList (sys : SystemParts) (orders : Orders) (c : ℕ) (list : List Asked) : Type 0 where
  pub count : length list ≡ orders.room
  pub replies : AreReplies sys orders (first_worker sys orders c) list
  pub never_away : All IsNotAway list

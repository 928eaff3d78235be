-- What stops the taking of a file stops the call, whatever the file's grammar.
use Rattle.std.proofs.Common.{ℕ, ◌≡◌, ◌≤◌, ◌<◌, ◌+◌, ◌-◌, ◌^◌, min, inl, inr, List, IfSome, arith, subst}
use Rattle.std.proofs.Math.Nat.{min-le_left, min-le_right, le-min}
use Rattle.edge_io.specs.Counts.{Rose, next_count}
use Rattle.edge_io.specs.Told.{HasLonger}
use Rattle.skeleton_tool.specs.declared.status.Status.{Status}
use Rattle.skeleton_tool.specs.declared.status.Status.TheVariants.{Done, Usage, Refused, Unsatisfiable, Fails, ReadFault, WriteFault, OutOfLimits, OutOfMemory}
use Rattle.skeleton_tool.specs.declared.stop.Stop.{Stop}
use Rattle.skeleton_tool.specs.declared.stop.Stop.TheVariants.{Answered, Memory}
use Rattle.skeleton_tool.specs.Reading.{Grammar, IsBad, IsRead, IsUnread, ReadsAndAnswers}
use Rattle.skeleton_tool.specs.Taking.{Files, KeepsShelf, ShelfSeen, IsUntaken, StopsAs, shelf_seen}

-- a count that rose later rose
rose_since : (first mid now : ℕ) → first ≤ mid → Rose mid now → Rose first now
rose_since first mid now le rose =
    let low = min-le_left (first + 1) (2 ^ 64 - 1) in
    let high = min-le_right (first + 1) (2 ^ 64 - 1) in
    let below : next_count first ≤ next_count mid = le-min (omega arith) high in
    omega arith

untaken_since : {A : Type 0} (files : A → Files) (faults longs : A → ℕ) (may_ask : A → List ℕ → ℕ → Type 0) (old mid new : A) (word file : List ℕ) (max : ℕ) (status : Status) (text : List ℕ)
    → KeepsShelf files faults longs may_ask old mid → IsUntaken (shelf_seen files faults longs mid new) word file max status text → IsUntaken (shelf_seen files faults longs old new) word file max status text
untaken_since files faults longs may_ask old mid new word file max ReadFault text kept h = (rose_since (faults old) (faults mid) (faults new) kept.faults_stay h.0, h.1)
untaken_since files faults longs may_ask old mid new word file max Refused text kept h = (
  record {
    counted = rose_since (longs old) (longs mid) (longs new) kept.longs_stay h.0.counted;
    told = subst (λ (all : Files). IfSome all (λ every. HasLonger every file max)) kept.same_files h.0.told;
  },
  h.1,
)
untaken_since files faults longs may_ask old mid new word file max Done text kept h = absurd h
untaken_since files faults longs may_ask old mid new word file max Usage text kept h = absurd h
untaken_since files faults longs may_ask old mid new word file max Unsatisfiable text kept h = absurd h
untaken_since files faults longs may_ask old mid new word file max Fails text kept h = absurd h
untaken_since files faults longs may_ask old mid new word file max WriteFault text kept h = absurd h
untaken_since files faults longs may_ask old mid new word file max OutOfLimits text kept h = absurd h
untaken_since files faults longs may_ask old mid new word file max OutOfMemory text kept h = absurd h

unread_since : {A V : Type 0} (grammar : Grammar V) (files : A → Files) (faults longs : A → ℕ) (may_ask : A → List ℕ → ℕ → Type 0) (old mid new : A) (file : List ℕ) (status : Status) (text : List ℕ)
    → KeepsShelf files faults longs may_ask old mid → IsUnread grammar (shelf_seen files faults longs mid new) file status text → IsUnread grammar (shelf_seen files faults longs old new) file status text
unread_since grammar files faults longs may_ask old mid new file status text kept (inl h) = inl (untaken_since files faults longs may_ask old mid new grammar.word file grammar.limit status text kept h)
unread_since grammar files faults longs may_ask old mid new file status text kept (inr h) = inr (h.0, subst (λ (all : Files). IsBad grammar all file text) kept.same_files h.1)

-- what stops a file that is taken later in a call
pub stops_since : {A V : Type 0} (grammar : Grammar V) (files : A → Files) (faults longs : A → ℕ) (may_ask : A → List ℕ → ℕ → Type 0) (old mid new : A) (file : List ℕ) (text : List ℕ) (stop : Stop)
    → KeepsShelf files faults longs may_ask old mid → StopsAs (IsUnread grammar (shelf_seen files faults longs mid new) file) text stop → StopsAs (IsUnread grammar (shelf_seen files faults longs old new) file) text stop
stops_since grammar files faults longs may_ask old mid new file text Memory kept h = tt
stops_since grammar files faults longs may_ask old mid new file text (Answered status) kept h = (unread_since grammar files faults longs may_ask old mid new file status text kept h.0, h.1)

-- what stops behind a file that is read stops the call
pub stops_behind : {V : Type 0} (grammar : Grammar V) (answers : V → Status → List ℕ → Type 0) (shelf : ShelfSeen) (file : List ℕ) (v : V) (text : List ℕ) (stop : Stop)
    → IsRead grammar shelf.files file v → StopsAs (answers v) text stop → StopsAs (ReadsAndAnswers grammar answers shelf file) text stop
stops_behind grammar answers shelf file v text Memory read h = tt
stops_behind grammar answers shelf file v text (Answered status) read h = (inr (v, read, h.0), h.1)

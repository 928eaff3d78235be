-- What callers are told of a run, and when it holds there.
use Rattle.std.specs.Prelude.{ℕ, ◌≡◌, ◌<◌, ◌≤◌, ◌==◌, List, length, take, count_by, is_some, Some, slice_get, ◌++◌}
use Rattle.conjunctive_compose.specs.declared.wish.Wish.{Wish}
use Rattle.conjunctive_compose.specs.declared.wish.StepAnswer.{StepAnswer}
use Rattle.conjunctive_compose.specs.declared.wish.StepAnswer.TheVariants.{Away, Blocked}
use Rattle.conjunctive_compose.specs.System.{SystemParts, edge_at, edge_count, process_count, side_on}
use Rattle.conjunctive_compose.specs.Whole.{WholeParts, HasPair, start_of, local_at}
use Rattle.conjunctive_compose.specs.Firing.{IsAnswer, WishFits}
use Rattle.conjunctive_compose.specs.Run.{whole_after}

-- a wish was fired as the entry of this number; a wish was away, or blocked by this process, at this place; a process was seen after so
-- many firings in this local state; an edge was seen after so many firings in this pair state
pub data Told : Type 0 where
  fired_at : Wish → ℕ → Told
  away_at : Wish → ℕ → ℕ → Told
  blocked_at : Wish → ℕ → ℕ → Told
  seen : ℕ → ℕ → ℕ → Told
  seen_pair : ℕ → ℕ → ℕ → Told

-- the whole state at place p: after the first p entries
abbrev pub after_first : SystemParts → List Wish → ℕ → WholeParts
after_first sys run p = whole_after sys (start_of sys) (take p run)

-- how many of the first p entries are firings of process k
abbrev pub count_of : List Wish → ℕ → ℕ → ℕ
count_of run k p = count_by (λ (wish : Wish). wish.process == k) (take p run)

-- how many of them are firings of a process of edge e
abbrev pub count_on : SystemParts → List Wish → ℕ → ℕ → ℕ
count_on sys run e p = count_by (λ (wish : Wish). is_some (side_on (edge_at sys e) wish.process)) (take p run)

-- place p exists, and the wish does not move there, for this reason
pub record IsRefusedAt (sys : SystemParts) (run : List Wish) (wish : Wish) (answer : StepAnswer) (p : ℕ) : Type 0 where
  pub within : p ≤ length run
  pub fits : WishFits sys wish
  pub answered : IsAnswer sys (after_first sys run p) wish answer (after_first sys run p)

-- process k exists, and at place p it has fired m times and is in this local state
pub record IsSeenAt (sys : SystemParts) (run : List Wish) (k m local p : ℕ) : Type 0 where
  pub process_in : k < process_count sys
  pub within : p ≤ length run
  pub count : count_of run k p ≡ m
  pub shows : local_at (after_first sys run p) k ≡ local

-- edge e exists, and at place p its processes have fired m times and it is in this pair state
pub record IsSeenPairAt (sys : SystemParts) (run : List Wish) (e m s p : ℕ) : Type 0 where
  pub edge_in : e < edge_count sys
  pub within : p ≤ length run
  pub count : count_on sys run e p ≡ m
  pub shows : HasPair sys (after_first sys run p) e s

-- what was told holds in the run
abbrev pub ReplyHolds : SystemParts → List Wish → Told → Type 0
ReplyHolds sys run (fired_at wish n) = slice_get run n ≡ Some wish
ReplyHolds sys run (away_at wish local p) = IsRefusedAt sys run wish (Away local) p
ReplyHolds sys run (blocked_at wish j p) = IsRefusedAt sys run wish (Blocked j) p
ReplyHolds sys run (seen k m local) = (p : ℕ) × IsSeenAt sys run k m local p
ReplyHolds sys run (seen_pair e m s) = (p : ℕ) × IsSeenPairAt sys run e m s p

-- what holds in a run holds in each longer one
abbrev pub HoldsLonger : Type 0
HoldsLonger = (sys : SystemParts) (run more : List Wish) (told : Told) → ReplyHolds sys run told → ReplyHolds sys (run ++ more) told

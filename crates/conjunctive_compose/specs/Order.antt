-- The order of what one caller is told: places do not go back, what looks show does not go back, and no look is ahead of a later place.
use Rattle.std.specs.Prelude.{ℕ, ◌≡◌, ◌<◌, ◌≤◌, ◌+◌, ◌∷◌, ◌++◌, List, [], length, All, AllPairs, Contains}
use Rattle.pair_structure.specs.declared.side.Side.{Side}
use Rattle.conjunctive_compose.specs.declared.wish.Wish.{Wish}
use Rattle.conjunctive_compose.specs.System.{SystemParts, IsOn, edge_count}
use Rattle.conjunctive_compose.specs.Reply.{Told, fired_at, away_at, blocked_at, seen, seen_pair, ReplyHolds, count_of, count_on}

-- this follows a reply on a wish of process k that asks later places to be p or more: a look at k or at an edge of k shows what was
-- fired before p
abbrev pub FollowsPlace : SystemParts → List Wish → ℕ → ℕ → Told → Type 0
FollowsPlace sys run k p (fired_at wish n) = p ≤ n
FollowsPlace sys run k p (away_at wish local q) = p ≤ q
FollowsPlace sys run k p (blocked_at wish j q) = p ≤ q
FollowsPlace sys run k p (seen j m local) = j ≡ k → count_of run k p ≤ m
FollowsPlace sys run k p (seen_pair e m s) = e < edge_count sys → (side : Side) → IsOn sys k side e → count_on sys run e p ≤ m

-- this follows a reply that process j blocked the wish at place p: a look at j shows what j had fired before p
abbrev pub FollowsBlock : List Wish → ℕ → ℕ → Told → Type 0
FollowsBlock run j p (fired_at wish n) = Unit {0}
FollowsBlock run j p (away_at wish local q) = Unit {0}
FollowsBlock run j p (blocked_at wish i q) = Unit {0}
FollowsBlock run j p (seen i m local) = i ≡ j → count_of run j p ≤ m
FollowsBlock run j p (seen_pair e m s) = Unit {0}

-- this follows a look at process k that showed m firings: a later look at k shows as many, and a later place stands behind them
abbrev pub FollowsSeen : List Wish → ℕ → ℕ → Told → Type 0
FollowsSeen run k m (fired_at wish n) = m ≤ count_of run k n
FollowsSeen run k m (away_at wish local q) = m ≤ count_of run k q
FollowsSeen run k m (blocked_at wish j q) = m ≤ count_of run k q
FollowsSeen run k m (seen j n local) = j ≡ k → m ≤ n
FollowsSeen run k m (seen_pair e n s) = Unit {0}

-- the same of a look at edge e
abbrev pub FollowsSeenPair : SystemParts → List Wish → ℕ → ℕ → Told → Type 0
FollowsSeenPair sys run e m (fired_at wish n) = m ≤ count_on sys run e n
FollowsSeenPair sys run e m (away_at wish local q) = m ≤ count_on sys run e q
FollowsSeenPair sys run e m (blocked_at wish j q) = m ≤ count_on sys run e q
FollowsSeenPair sys run e m (seen j n local) = Unit {0}
FollowsSeenPair sys run e m (seen_pair f n s) = f ≡ e → m ≤ n

-- the second may stand behind the first in a caller's list; after a firing places are past it
abbrev pub MayFollow : SystemParts → List Wish → Told → Told → Type 0
MayFollow sys run (fired_at wish n) later = FollowsPlace sys run wish.process (n + 1) later
MayFollow sys run (away_at wish local p) later = FollowsPlace sys run wish.process p later
MayFollow sys run (blocked_at wish j p) later = FollowsPlace sys run wish.process p later × FollowsBlock run j p later
MayFollow sys run (seen k m local) later = FollowsSeen run k m later
MayFollow sys run (seen_pair e m s) later = FollowsSeenPair sys run e m later

-- a caller's list is in order
abbrev pub IsInOrder : SystemParts → List Wish → List Told → Type 0
IsInOrder sys run list = AllPairs (MayFollow sys run) list

-- a caller's list: each reply holds in the run, and they are in order
pub record IsTold (sys : SystemParts) (run : List Wish) (list : List Told) : Type 0 where
  pub holds : All (ReplyHolds sys run) list
  pub order : IsInOrder sys run list

-- what was told does not reach past the run: its place is there, and a look shows no more firings than there are
abbrev pub IsWithin : SystemParts → List Wish → Told → Type 0
IsWithin sys run (fired_at wish n) = n < length run
IsWithin sys run (away_at wish local p) = p ≤ length run
IsWithin sys run (blocked_at wish j p) = p ≤ length run
IsWithin sys run (seen k m local) = m ≤ count_of run k (length run)
IsWithin sys run (seen_pair e m s) = m ≤ count_on sys run e (length run)

-- a list in order that does not reach past the run; whether its items hold is not asked
pub record AreOrdered (sys : SystemParts) (run : List Wish) (list : List Told) : Type 0 where
  pub within : All (IsWithin sys run) list
  pub order : IsInOrder sys run list

-- a reply on a wish that did not move, whose place is the end of the run
abbrev pub IsNow : List Wish → Told → Type 0
IsNow run (fired_at wish n) = ⊥
IsNow run (away_at wish local p) = p ≡ length run
IsNow run (blocked_at wish j p) = p ≡ length run
IsNow run (seen k m local) = ⊥
IsNow run (seen_pair e m s) = ⊥

-- a look at a process or at an edge
abbrev pub IsLook : Told → Type 0
IsLook (fired_at wish n) = ⊥
IsLook (away_at wish local p) = ⊥
IsLook (blocked_at wish j p) = ⊥
IsLook (seen k m local) = Unit {0}
IsLook (seen_pair e m s) = Unit {0}

-- how a list in order grows: not, while others' entries come; by the next entry; by a place that is loaded now; by what may follow each
pub record OrderGrows (sys : SystemParts) (run : List Wish) (list : List Told) : Type 0 where
  pub longer : (more : List Wish) → AreOrdered sys (run ++ more) list
  pub entry : (wish : Wish) → AreOrdered sys (run ++ wish ∷ []) (list ++ fired_at wish (length run) ∷ [])
  pub place : (told : Told) → IsNow run told → AreOrdered sys run (list ++ told ∷ [])
  pub next : (told : Told) → IsWithin sys run told → ((earlier : Told) → Contains list earlier → MayFollow sys run earlier told) → AreOrdered sys run (list ++ told ∷ [])

abbrev pub OrderStays : Type 0
OrderStays = (sys : SystemParts) (run : List Wish) (list : List Told) → AreOrdered sys run list → OrderGrows sys run list

abbrev pub HoldsWithin : Type 0
HoldsWithin = (sys : SystemParts) (run : List Wish) (told : Told) → ReplyHolds sys run told → IsWithin sys run told

-- what may be appended: nothing, while others' entries come; the next entry; a place that is loaded now; a look that shows enough
pub record ListGrows (sys : SystemParts) (run : List Wish) (list : List Told) : Type 0 where
  pub longer : (more : List Wish) → IsTold sys (run ++ more) list
  pub entry : (wish : Wish) → IsTold sys (run ++ wish ∷ []) (list ++ fired_at wish (length run) ∷ [])
  pub place : (told : Told) → IsNow run told → ReplyHolds sys run told → IsTold sys run (list ++ told ∷ [])
  pub look : (told : Told) → IsLook told → ReplyHolds sys run told → ((earlier : Told) → Contains list earlier → MayFollow sys run earlier told) → IsTold sys run (list ++ told ∷ [])

abbrev pub ToldStays : Type 0
ToldStays = (sys : SystemParts) (run : List Wish) (list : List Told) → IsTold sys run list → ListGrows sys run list

-- The tries that a call lost.
use Rattle.std.specs.Prelude.{ℕ, ◌≡◌, ◌≢◌, ◌<◌, ◌+◌, List, [], ◌∷◌, ◌++◌, length, map}
use Rattle.conjunctive_compose.specs.System.{SystemParts}
use Rattle.conjunctive_compose.specs.declared.wish.Wish.{Wish}
use Rattle.firing_words.specs.declared.view.Track.{Track}
use Rattle.firing_words.specs.declared.view.Try.{Try}
use Rattle.firing_words.specs.declared.view.View.{View}
use Rattle.firing_words.specs.Cells.{InPlan}
use Rattle.firing_words.specs.Lists.{Has}
use Rattle.firing_hall.specs.Gates.{IsAnswered}
use Rattle.firing_hall.specs.declared.reply.Reply.{Reply}
use Rattle.firing_hall.specs.declared.reply.Reply.TheVariants.{Fired, Away, Blocked, Full, Busy}

abbrev pub tries_of : View → List (List Try)
tries_of v = map (λ (t : Track). t.tries) v.tracks

abbrev pub try_at : ℕ → ℕ → Try
try_at lock holder = record { lock = lock; holder = holder }

-- the callers lost these tries since, each of a lock of the plan of process k
pub record HaveLost (sys : SystemParts) (k : ℕ) (lost : List Try) (v w : View) : Type 0 where
  pub added : tries_of w ≡ map (λ ts. ts ++ lost) (tries_of v)
  pub planned : (t : Try) → Has t lost → InPlan sys k t.lock

-- so many tries were lost, and this one was the last
abbrev pub IsRefused : SystemParts → ℕ → ℕ → Try → View → View → Type 0
IsRefused sys k tries last v w = (before : List Try) × HaveLost sys k (before ++ last ∷ []) v w × (length before + 1 ≡ tries)

-- Busy comes only after all tries of the call were lost, and names the lock of the last of them and the other caller that held it
abbrev pub IsBusyAfter : SystemParts → ℕ → ℕ → Wish → ℕ → View → View → Reply → Type 0
IsBusyAfter sys callers caller wish tries v w (Fired n) = Unit {0}
IsBusyAfter sys callers caller wish tries v w (Away local p) = Unit {0}
IsBusyAfter sys callers caller wish tries v w (Blocked j p) = Unit {0}
IsBusyAfter sys callers caller wish tries v w Full = Unit {0}
IsBusyAfter sys callers caller wish tries v w (Busy lock holder) = IsRefused sys wish.process tries (try_at lock holder) v w × (holder ≢ caller) × (holder < callers)

-- the tries that the call lost, each of a lock of the plan; fewer than it might, where the wish was answered
abbrev pub HasTried : SystemParts → Wish → ℕ → View → View → Reply → Type 0
HasTried sys wish tries v w r = (lost : List Try) × HaveLost sys wish.process lost v w × (IsAnswered r → length lost < tries)

-- another caller held a lock
abbrev pub IsBusy : Reply → Type 0
IsBusy (Fired n) = ⊥
IsBusy (Away local p) = ⊥
IsBusy (Blocked j p) = ⊥
IsBusy Full = ⊥
IsBusy (Busy lock holder) = Unit {0}

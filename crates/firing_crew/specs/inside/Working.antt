-- What is kept of a worker while it works.
use Rattle.std.specs.Prelude.{ℕ, ◌≡◌, ◌<◌, Some, List, [], ◌∷◌, length, slice_index}
use Rattle.conjunctive_compose.specs.System.{SystemParts, process_count, role_of}
use Rattle.firing_journal.specs.declared.asked.Asked.{Asked}
use Rattle.firing_words.specs.Of.{system_of}
use Rattle.firing_hall.specs.Passes.{IsPassOf}
use Rattle.firing_hall.specs.declared.firing.Hall.{Hall}
use Rattle.firing_hall.specs.declared.pass.Pass.{Pass}
use Rattle.firing_crew.specs.declared.draw.TheConstants.{MODULUS}
use Rattle.firing_crew.specs.declared.orders.Orders.{Orders}
use Rattle.firing_crew.specs.Workers.{AreReplies, WorkerParts, after_reply, first_worker}

-- the local states are those of their roles
pub record AreLocals (sys : SystemParts) (locals : List ℕ) : Type 0 where
  pub size : length locals ≡ process_count sys
  pub within : (k : ℕ) → k < process_count sys → slice_index locals k < length (role_of sys k).locals

-- the worker fires this system
pub record IsWorkerOf (sys : SystemParts) (w : WorkerParts) : Type 0 where
  pub caller : w.caller < process_count sys
  pub next : w.next < process_count sys
  pub word : w.word < MODULUS
  pub locals : AreLocals sys w.locals
  pub look : (j : ℕ) → w.look ≡ Some j → j < process_count sys

-- the worker after these replies
abbrev pub after_all : SystemParts → ℕ → WorkerParts → List Asked → WorkerParts
after_all sys callers w [] = w
after_all sys callers w (asked ∷ list) = after_all sys callers (after_reply sys callers w asked) list

-- the list of caller c is by the rule so far, and the worker stands behind it
pub record StandsAt (sys : SystemParts) (orders : Orders) (c : ℕ) (list : List Asked) (w : WorkerParts) : Type 0 where
  pub of : IsWorkerOf sys w
  pub replies : AreReplies sys orders (first_worker sys orders c) list
  pub behind : w ≡ after_all sys orders.callers (first_worker sys orders c) list

-- the pass is one of the hall's, and the worker stands behind its list
pub record Works (hall : Hall) (orders : Orders) (pass : Pass) (w : WorkerParts) : Type 0 where
  pub of : IsPassOf hall pass
  pub stands : StandsAt (system_of hall.words) orders pass.caller pass.asked.items w

-- the hall is that of these orders, and so is the policy's turn
pub record Follows (hall : Hall) (orders : Orders) (turn : ℕ) : Type 0 where
  pub callers : hall.words.setting.callers ≡ orders.callers
  pub room : hall.words.setting.room ≡ orders.room
  pub turn_is : orders.turn ≡ turn

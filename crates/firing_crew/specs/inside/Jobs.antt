-- What each thread is given, and what it hands back.
use Rattle.std.specs.Prelude.{ℕ, ◌≡◌, ◌<◌, List, [], length, slice_index_or}
use Rattle.firing_words.specs.Of.{system_of}
use Rattle.firing_hall.specs.Passes.{IsPassOf}
use Rattle.firing_hall.specs.declared.firing.Hall.{Hall}
use Rattle.firing_hall.specs.declared.pass.Pass.{Pass}
use Rattle.firing_crew.specs.declared.jobs.Job.{Job}
use Rattle.firing_crew.specs.declared.orders.Orders.{Orders}
use Rattle.firing_crew.specs.Workers.{AreReplies, WorkerParts, first_worker}
use Rattle.firing_crew.specs.inside.Working.{Works}

-- the pass of caller c has no reply yet, and its worker is the first one
pub record IsBegun (hall : Hall) (orders : Orders) (c : ℕ) (pass : Pass) (w : WorkerParts) : Type 0 where
  pub works : Works hall orders pass w
  pub caller : pass.caller ≡ c
  pub empty : pass.asked.items ≡ []

-- the pass of caller c is full, and its list is by the rule
pub record IsDone (hall : Hall) (orders : Orders) (c : ℕ) (pass : Pass) : Type 0 where
  pub of : IsPassOf hall pass
  pub caller : pass.caller ≡ c
  pub count : length pass.asked.items ≡ orders.room
  pub replies : AreReplies (system_of hall.words) orders (first_worker (system_of hall.words) orders c) pass.asked.items

-- a full pass for each caller, in order
pub record AreDone (hall : Hall) (orders : Orders) (passes : List Pass) : Type 0 where
  pub count : length passes ≡ orders.callers
  pub each : (c : ℕ) (d : Pass) → c < length passes → IsDone hall orders c (slice_index_or passes c d)

abbrev pub IsBegunJob : {G : Type 0} → Hall → Orders → ℕ → Job G → Type 0
IsBegunJob hall orders c job = IsBegun hall orders c job.pass job.worker

abbrev pub IsDoneJob : {G : Type 0} → Hall → Orders → ℕ → Job G → Type 0
IsDoneJob hall orders c job = IsDone hall orders c job.pass

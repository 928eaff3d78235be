-- Passes that are handed back, one after another, and the faults of a close.
use Rattle.std.specs.Prelude.{ℕ, ◌≡◌, ◌<◌, ◌≤◌, List, length}
use Rattle.conjunctive_compose.specs.Projection.{IsPairPath, IsProjection}
use Rattle.conjunctive_compose.specs.System.{SystemParts, edge_count, structure_at}
use Rattle.conjunctive_compose.specs.Whole.{start_of, start_state}
use Rattle.conjunctive_compose.specs.declared.wish.PairMove.{PairMove}
use Rattle.firing_words.specs.Lists.{Has}
use Rattle.firing_journal.specs.Journal.{wishes_of}
use Rattle.firing_journal.specs.Report.{list_by}
use Rattle.firing_journal.specs.declared.journal.Entry.{Entry}
use Rattle.firing_journal.specs.declared.asked.Asked.{Asked}
use Rattle.firing_hall.specs.declared.closing.CloseFault.{CloseFault}
use Rattle.firing_hall.specs.declared.closing.CloseFault.TheVariants.{Missing, Memory}
use Rattle.firing_hall.specs.declared.firing.Hall.{Hall}
use Rattle.firing_hall.specs.declared.pass.Pass.{Pass}

-- list c is what the pass of caller c keeps
abbrev pub AreListsIn : List Pass → List (List Asked) → Type 0
AreListsIn passes lists = (pass : Pass) → Has pass passes → list_by lists pass.caller ≡ pass.asked.items

-- on each edge the projection of the journal is a path of the edge's structure, from the state where the edge starts
abbrev pub ProjectsToPaths : SystemParts → List Entry → Type 0
ProjectsToPaths sys entries = (e : ℕ) (moves : List PairMove) → e < edge_count sys → IsProjection sys (start_of sys) e (wishes_of entries) moves → IsPairPath (structure_at sys e) (start_state sys e) moves

-- there are fewer passes than callers, or as many and memory is missing; hall and passes are handed back
abbrev pub IsCloseFaultOf : Hall → List Pass → CloseFault → Type 0
IsCloseFaultOf hall passes (Missing h ps have need) = (h ≡ hall) × (ps.items ≡ passes) × (have ≡ length passes) × (need ≡ hall.words.setting.callers) × (have < need)
IsCloseFaultOf hall passes (Memory h ps) = (h ≡ hall) × (ps.items ≡ passes) × (hall.words.setting.callers ≤ length passes)

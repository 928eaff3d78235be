-- The text of what a replay tells can be written.
use Rattle.std.proofs.Common.{ℕ, ◌≡◌, ◌<◌, List, length, refl, sym, subst}
use Rattle.std.proofs.lemmas.List.FromFn.{length-map-range_with_len}
use Rattle.pair_structure.specs.declared.side.Side.{Side}
use Rattle.pair_structure.specs.declared.side.Side.TheVariants.{A, B}
use Rattle.interconnection.specs.Graph.{end_of, opposite}
use Rattle.conjunctive_compose.specs.declared.wish.Wish.{Wish}
use Rattle.conjunctive_compose.specs.declared.wish.StepAnswer.{StepAnswer}
use Rattle.conjunctive_compose.specs.declared.wish.StepAnswer.TheVariants.{Moved, Away, Blocked}
use Rattle.conjunctive_compose.specs.System.{SystemParts, IsSystem, edge_at, edge_count, process_count}
use Rattle.conjunctive_compose.specs.Whole.{WholeParts, IsProper, start_of}
use Rattle.conjunctive_compose.specs.Reply.{count_of}
use Rattle.conjunctive_compose.specs.Run.{whole_after}
use Rattle.conjunctive_compose.proofs.Edges.{edge_lawful}
use Rattle.conjunctive_compose.proofs.Runs.{reachable_is_proper}
use Rattle.firing_journal.specs.Replay.{LeavesWhole, IsFirstStuck}
use Rattle.skeleton_tool.specs.inside.Telling.{IsRefusal}

-- what a run leaves is proper
pub run_proper : (sys : SystemParts) (run : List Wish) (w : WholeParts) (moves : List ℕ) → IsSystem sys → LeavesWhole sys run w moves → IsProper sys w
run_proper sys run w moves system leaves = subst (IsProper sys) (sym leaves.whole) (reachable_is_proper sys (whole_after sys (start_of sys) run) system (run, leaves.is_run, refl))

-- a count for each process
pub run_counts : (sys : SystemParts) (run : List Wish) (w : WholeParts) (moves : List ℕ) → LeavesWhole sys run w moves → length moves ≡ process_count sys
run_counts sys run w moves leaves = rw leaves.each (length-map-range_with_len (λ k. count_of run k (length run)) 0 (process_count sys))

-- both ends of an edge are processes
end_within : (sys : SystemParts) (e : ℕ) (side : Side) → IsSystem sys → e < edge_count sys → end_of (edge_at sys e) side < process_count sys
end_within sys e A system lt = (edge_lawful sys e system lt).a
end_within sys e B system lt = (edge_lawful sys e system lt).b

-- a wish that does not move is refused by a process of the system
pub stuck_is_refusal : (sys : SystemParts) (run : List Wish) (at : ℕ) (why : StepAnswer) → IsSystem sys → IsFirstStuck sys run at why → IsRefusal sys why
stuck_is_refusal sys run at Moved system stuck = stuck.stuck stuck.answered.0
stuck_is_refusal sys run at (Away local) system stuck = tt
stuck_is_refusal sys run at (Blocked j) system stuck =
    let blocks = stuck.answered.1.0 in
    let within = end_within sys blocks.0 (opposite blocks.1) system blocks.2 in
    subst (λ k. k < process_count sys) blocks.4 within

use Rattle.skeleton_tool.proofs.Replayed.{run_proper, run_counts, stuck_is_refusal}
use Rattle.skeleton_tool.proofs.replaying.tell.Goals as goal

pub pair_states-requires : goal.pair_states-requires
pair_states-requires c = run_proper _ _ _ _ c.requires.system (rw c.in-Run.is at c.in_ok-whole.ensures)

pub write_run-requires-clause-proper : goal.write_run-requires-clause-proper
write_run-requires-clause-proper c = run_proper _ _ _ _ c.requires.system (rw c.in-Run.is at c.in_ok-whole.ensures)

pub write_run-requires-clause-moves : goal.write_run-requires-clause-moves
write_run-requires-clause-moves c = rw c.deref.ensures.value (run_counts _ _ _ _ (rw c.in-Run.is at c.in_ok-whole.ensures))

pub write_stuck-requires-clause-why : goal.write_stuck-requires-clause-why
write_stuck-requires-clause-why c = stuck_is_refusal _ _ _ _ c.requires.system (rw c.in-NotARun.is at c.in_ok-whole.ensures)

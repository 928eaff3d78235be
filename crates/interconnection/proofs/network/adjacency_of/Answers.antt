use Rattle.std.proofs.Common.{length, None, Some, arith}
use Rattle.std.proofs.lemmas.Result.{err_from_is_err_and}
use Rattle.interconnection.proofs.Besides.{degrees_from_lengths}
use Rattle.interconnection.proofs.FaultLaws.{AreLawful-from_checks, first_DegreeOver, first_RoleMismatch, first_from_failed}
use Rattle.interconnection.proofs.Locks.{AreLocked-from_given, few_locks}
use Rattle.interconnection.proofs.network.adjacency_of.Goals as goal

pub returns-in_err-adjacency-clause-fault : goal.returns-in_err-adjacency-clause-fault
returns-in_err-adjacency-clause-fault c =
    let parts = c.in_default.ensures in
    let are = c.in_default-edge_fault.ensures c.args.roles.now parts in
    let answer = err_from_is_err_and c.from_residual.result c.from_residual.ensures.1 in
    rw (answer.1, answer.2) (λ differ. first_from_failed c.args.roles.now c.args.ends.now c.args.processes.now c.args.edges.now _ parts are c.in_err-adjacency.ensures.fault differ)

pub returns-in-Some-first_mismatch-clause-fault : goal.returns-in-Some-first_mismatch-clause-fault
returns-in-Some-first_mismatch-clause-fault c =
    λ differ.
    let parts = c.in_default.ensures in
    let are = c.in_default-edge_fault.ensures c.args.roles.now parts in
    first_RoleMismatch c.args.roles.now c.args.ends.now c.args.processes.now c.args.edges.now c.in-Some-first_mismatch.edge parts are c.in_ok-adjacency.ensures.single c.in-Some-first_mismatch.ensures

pub returns-in-Some-first_over-clause-fault : goal.returns-in-Some-first_over-clause-fault
returns-in-Some-first_over-clause-fault c =
    λ differ.
    let parts = c.in_default.ensures in
    let are = c.in_default-edge_fault.ensures c.args.roles.now parts in
    let found = degrees_from_lengths (length c.args.processes.now) c.args.edges.now _ (Some c.in-Some-first_over.process) c.in_ok-adjacency.ensures.around c.in-Some-first_over.ensures in
    first_DegreeOver c.args.roles.now c.args.ends.now c.args.processes.now c.args.edges.now c.in-Some-first_over.process parts are c.in_ok-adjacency.ensures.single c.in_default-first_mismatch.ensures found

pub returns-clause-lawful : goal.returns-clause-lawful
returns-clause-lawful c =
    let parts = c.in_default.ensures in
    let are = c.in_default-edge_fault.ensures c.args.roles.now parts in
    let few = degrees_from_lengths (length c.args.processes.now) c.args.edges.now _ None c.in_ok-adjacency.ensures.around c.in_default-first_over.ensures in
    AreLawful-from_checks c.args.roles.now c.args.ends.now c.args.processes.now c.args.edges.now parts are c.in_ok-adjacency.ensures.single (record { matching = c.in_default-first_mismatch.ensures; degrees = few })

pub give_own_locks-requires : goal.give_own_locks-requires
give_own_locks-requires c =
    let parts = c.in_default.ensures in
    let are = c.in_default-edge_fault.ensures c.args.roles.now parts in
    let few = degrees_from_lengths (length c.args.processes.now) c.args.edges.now _ None c.in_ok-adjacency.ensures.around c.in_default-first_over.ensures in
    let lawful = AreLawful-from_checks c.args.roles.now c.args.ends.now c.args.processes.now c.args.edges.now parts are c.in_ok-adjacency.ensures.single (record { matching = c.in_default-first_mismatch.ensures; degrees = few }) in
    let locks = few_locks (record { roles = c.args.roles.now; ends = c.args.ends.now; processes = c.args.processes.now; edges = c.args.edges.now }) lawful in
    omega (arith, locks.all, c.in_ok-adjacency.ensures.around.size)

pub returns-clause-locked : goal.returns-clause-locked
returns-clause-locked c = AreLocked-from_given (length c.args.processes.now) c.args.edges.now c.in_ok-adjacency.adjacency _ c.in_ok-adjacency.ensures.around c.in_ok-give_own_locks.ensures

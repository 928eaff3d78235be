use Rattle.interconnection.proofs.FaultLaws.{first_TooMany}
use Rattle.interconnection.proofs.part_check.part_fault.Goals as goal

pub returns-in-Some : goal.returns-in-Some
returns-in-Some c = λ edges. first_TooMany c.args.roles.now c.args.ends.now c.args.processes.now edges c.in-Some.limit c.in-Some.ensures

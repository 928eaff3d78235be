use Rattle.solution_text.specs.Answers.{HasRoles}
use Rattle.std.proofs.Common.{length}
use Rattle.solution_text.proofs.Blocked.{behind_all}
use Rattle.solution_text.proofs.take.take_item.Goals as goal

pub returns-in-Kind-clause-roles : goal.returns-in-Kind-clause-roles
returns-in-Kind-clause-roles c = rw c.in_ok-place-in-Kind.ensures.left (behind_all (HasRoles (length c.args.roles.now)) c.args.reader.left.now c.requires.roles)

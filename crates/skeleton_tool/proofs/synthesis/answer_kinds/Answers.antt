use Rattle.std.proofs.Common.{ap, ◌∙◌}
use Rattle.interconnection.specs.Network.{NetworkParts}
use Rattle.skeleton_tool.proofs.Solved.{solved_over}
use Rattle.skeleton_tool.proofs.Taken.{solved_text}
use Rattle.skeleton_tool.proofs.synthesis.answer_kinds.Goals as goal

pub make-sol-requires : goal.make-sol-requires
make-sol-requires c =
    let roles = c.roles-roles.ensures.roles ∙ ap (λ (n : NetworkParts). n.roles) c.network.ensures.network in
    let least = rw (roles, c.kinds.ensures.kinds) at (rw c.in-None.is at c.in_ok-solve_all.ensures) in solved_over _ _ _ least.solve

pub write_solution-requires : goal.write_solution-requires
write_solution-requires c =
    let roles = c.roles-roles.ensures.roles ∙ ap (λ (n : NetworkParts). n.roles) c.network.ensures.network in
    let least = rw (roles, c.kinds.ensures.kinds) at (rw c.in-None.is at c.in_ok-solve_all.ensures) in rw c.make-sol.ensures (solved_over _ _ _ least.solve)

pub returns-in_ok-write_solution-in-None-clause-answer : goal.returns-in_ok-write_solution-in-None-clause-answer
returns-in_ok-write_solution-in-None-clause-answer c =
    let roles = c.roles-roles.ensures.roles ∙ ap (λ (n : NetworkParts). n.roles) c.network.ensures.network in
    solved_text c.args.spec.now _ _ _ _ (rw (roles, c.kinds.ensures.kinds) at (rw c.in-None.is at c.in_ok-solve_all.ensures)) c.make-sol.ensures c.requires c.in_ok-write_solution-in-None.ensures.written c.in_ok-write_solution-in-None.ensures.text

use Rattle.skeleton_tool.proofs.Synthesized.{keeps_roots, kind_satisfied, kind_unsatisfied}
use Rattle.skeleton_tool.proofs.solving.solve_one.Goals as goal

pub least-requires : goal.least-requires
least-requires c = let sat = rw c.in-Structure.is at c.in_ok-structure.ensures in sat.over

pub returns-in_ok-least-in-Structure : goal.returns-in_ok-least-in-Structure
returns-in_ok-least-in-Structure c =
    let keeps = c.in_ok-least-in-Structure.ensures in
    let sat = keeps_roots _ _ c.args.normal.now c.in-Structure.structure c.in_ok-least-in-Structure.least (rw c.in-Structure.is at c.in_ok-structure.ensures) keeps.0 in
    (kind_satisfied c.args.roles.now c.args.kind.now c.args.normal.now _ _ c.requires.over c.index-roles-kind.is c.index-roles-kind-2.is c.requires.normal c.in_ok-least-in-Structure.least sat, keeps.1)

pub returns-in-Unsatisfiable : goal.returns-in-Unsatisfiable
returns-in-Unsatisfiable c =
    kind_unsatisfied c.args.roles.now c.args.kind.now c.args.normal.now _ _ c.requires.over c.index-roles-kind.is c.index-roles-kind-2.is c.requires.normal (rw c.in-Unsatisfiable.is at c.in_ok-structure.ensures)

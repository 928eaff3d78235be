use Rattle.std.proofs.Common.{◌∙◌}
use Rattle.tableau_graph.proofs.tableau.grown.Goals as goal

pub loop-growing-init : goal.loop-growing-init
loop-growing-init c = record { breadth = c.in_ok-growing.ensures.breadth; rules = c.in_ok-growing.ensures.rules }

pub loop-growing-preserved : goal.loop-growing-preserved
loop-growing-preserved c = record { breadth = c.expand_next.ensures.breadth ∙ c.loop-growing.invariant.breadth; rules = c.in_ok-expand_next.ensures.rules }

pub loop-growing-smaller : goal.loop-growing-smaller
loop-growing-smaller c = c.in_ok-expand_next.ensures.room c.if-branch.true

pub returns-clause-breadth : goal.returns-clause-breadth
returns-clause-breadth c = c.expand_next.ensures.breadth ∙ c.loop-growing.invariant.breadth

pub returns-clause-tableau : goal.returns-clause-tableau
returns-clause-tableau c = c.in_ok-expand_next.ensures.done c.if-branch.false

use Rattle.std.proofs.Common.{true, List, ℕ, Contains, length, subst, sym, ◌∙◌, arith}
use Rattle.deletion_rules.specs.inside.Cursors.{HasPassed}
use Rattle.deletion_rules.proofs.Standing.{cursors_set}
use Rattle.deletion_rules.proofs.VisitLaws.{each_admits}
use Rattle.deletion_rules.proofs.Within.{successor_within}
use Rattle.deletion_rules.proofs.visiting.is_admitted.Goals as goal

pub is_through-requires-clause-items : goal.is_through-requires-clause-items
is_through-requires-clause-items c = λ o there.
    let lt = successor_within c.args.m.now.tableau.now c.tell_rules.ensures c.args.arrow.node o c.requires.arrow.1.0.2.node (subst (λ (l : List ℕ). Contains l o) c.successors.ensures there) in
    let long = c.requires.reached in
    omega (arith, lt, long)

pub returns-then-m-clause-admits : goal.returns-then-m-clause-admits
returns-then-m-clause-admits c = each_admits c.args.m.now.tableau.now c.tell_rules.ensures c.args.m.now.lives.now c.args.reached.now c.args.m.now.target c.args.arrow c.successors.result.now c.is_through.result c.requires.arrow c.if-not-m-arrow.false (sym c.pursues.ensures ∙ c.if-not-pursues.false) c.if-m.true c.successors.ensures c.is_through.ensures.through

pub returns-then-m-clause-cursors : goal.returns-then-m-clause-cursors
returns-then-m-clause-cursors c = cursors_set (length c.args.m.now.tableau.now.ands) c.args.m.now.tableau.now.successors c.args.reached.now true c.args.cursors.now c.args.arrow.node c.is_through.new.cursor c.requires.arrow.1.0.2.node c.requires.cursors (subst (λ (l : List ℕ). HasPassed l c.args.reached.now true c.is_through.new.cursor) c.successors.ensures c.is_through.ensures.after)

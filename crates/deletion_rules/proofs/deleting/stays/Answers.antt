use Rattle.std.proofs.Common.{inr, sym, ◌∙◌, arith}
use Rattle.deletion_rules.specs.Marks.{lists_of}
use Rattle.deletion_rules.proofs.Left.{left_apart, left_missing, left_yes}
use Rattle.deletion_rules.proofs.Standing.{flag_within}
use Rattle.deletion_rules.proofs.deleting.stays.Goals as goal

pub first_missing-requires-clause-targets : goal.first_missing-requires-clause-targets
first_missing-requires-clause-targets c = c.requires.targets.each

pub returns-then-not-lives_on-clause-gone : goal.returns-then-not-lives_on-clause-gone
returns-then-not-lives_on-clause-gone c = λ _. inr (left_apart c.args.t.now c.tell_rules.ensures (c.tableau_is_graph.ensures c.args.t.now c.tell_rules.ensures) c.args.lives.now (λ n e. let lt = flag_within c.args.lives.now n e in let long = c.requires.lives in omega (arith, lt, long)) (lists_of c.args.table.now) c.requires.table c.args.n c.requires.n c.args.ors.now c.requires.ors (sym c.lives_on.ensures ∙ c.if-not-lives_on.true))

pub returns-in-Some-clause-gone : goal.returns-in-Some-clause-gone
returns-in-Some-clause-gone c = λ _. let u = c.first_missing.ensures.some c.in-Some.field-0 c.in-Some.is in inr (left_missing c.args.t.now c.tell_rules.ensures (c.tableau_is_graph.ensures c.args.t.now c.tell_rules.ensures) c.args.lives.now (λ n e. let lt = flag_within c.args.lives.now n e in let long = c.requires.lives in omega (arith, lt, long)) (lists_of c.args.table.now) c.requires.table c.args.n c.requires.n c.in-Some.field-0 u.0 c.if-not-lives-n.false u.1)

pub returns-in-None-clause-left : goal.returns-in-None-clause-left
returns-in-None-clause-left c = λ _. left_yes c.args.t.now c.tell_rules.ensures (c.tableau_is_graph.ensures c.args.t.now c.tell_rules.ensures) c.args.lives.now (λ n e. let lt = flag_within c.args.lives.now n e in let long = c.requires.lives in omega (arith, lt, long)) (lists_of c.args.table.now) c.requires.table c.args.n c.requires.n c.args.targets.now c.args.ors.now c.requires.ors c.requires.targets c.if-not-lives-n.false (sym c.lives_on.ensures ∙ c.if-not-lives_on.false) (c.first_missing.ensures.none c.in-None.is)

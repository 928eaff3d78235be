use Rattle.std.proofs.Common.{◌<◌, length, sym, ◌∙◌, arith}
use Rattle.deletion_rules.proofs.VisitLaws.{admitted_passes, read_none, read_some, visits_new, visits_passed}
use Rattle.deletion_rules.proofs.visiting.visit.Goals as goal

pub returns-then-is_some-clause-visited : goal.returns-then-is_some-clause-visited
returns-then-is_some-clause-visited c =
    let lt : c.args.arrow.node < length c.args.front.now.marks.items = (let small = c.requires.arrow.1.0.2.node in let long = c.requires.marks in omega (arith, small, long)) in
    visits_passed c.args.m.now.tableau.now c.args.m.now.lives.now c.args.reached.now c.args.m.now.target c.args.round c.args.arrow c.args.front.now.marks.items c.args.front.now.nodes.items (λ _. read_some c.args.front.now.marks.items c.args.arrow.node c.index.result.now lt c.index.ensures (sym c.is_some.ensures ∙ c.if-is_some.true))

pub returns-in_ok-push-clause-visited : goal.returns-in_ok-push-clause-visited
returns-in_ok-push-clause-visited c =
    let lt : c.args.arrow.node < length c.args.front.now.marks.items = (let small = c.requires.arrow.1.0.2.node in let long = c.requires.marks in omega (arith, small, long)) in
    visits_new c.args.m.now.tableau.now c.args.m.now.lives.now c.args.reached.now c.args.m.now.target c.args.round c.args.arrow c.args.front.now.marks.items c.args.front.now.nodes.items c.push.new.self.items lt (read_none c.args.front.now.marks.items c.args.arrow.node c.index.result.now lt c.index.ensures (sym c.is_some.ensures ∙ c.if-is_some.false)) (admitted_passes c.args.m.now.tableau.now c.args.m.now.lives.now c.args.reached.now c.args.m.now.target c.args.arrow c.requires.arrow (c.is_admitted.ensures.admits.0 c.if-is_admitted.true)) c.in_ok-push.ensures.items

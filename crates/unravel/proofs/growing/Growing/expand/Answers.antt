use Rattle.std.proofs.Common.{◌≡◌, arith, ap, ◌∙◌}
use Rattle.closure_sets.specs.ClosureParts.{count}
use Rattle.unravel.proofs.Expanding.{turn_ends}
use Rattle.unravel.proofs.growing.Growing.expand.Goals as goal

pub returns-clause-grown : goal.returns-clause-grown
returns-clause-grown c =
    let end : c.count-member-end.result ≡ count c.args.ranks.now.tableau.closure = c.count-member-end.ensures.count ∙ ap count (c.closure.ensures ∙ ap (λ t. t.closure) c.tableau_of.ensures.tableau) in
    let e : c.loop-member.member ≡ count c.args.ranks.now.tableau.closure = omega (arith, end) in
    turn_ends c.args.ranks.now c.args.targets.now _ c.loop-member.member c.loop-member.place c.loop-member.self.positions c.loop-member.self.moves.items c.loop-member.invariant e

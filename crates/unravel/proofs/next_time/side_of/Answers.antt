use Rattle.std.proofs.Common.{ap, subst, sym, ◌∙◌}
use Rattle.closure_sets.specs.Label.{part_of}
use Rattle.unravel.specs.inside.Growing.{IsSideIn}
use Rattle.unravel.proofs.Expanding.{side_is}
use Rattle.unravel.proofs.next_time.side_of.Goals as goal

pub returns : goal.returns
returns c =
    let e = c.part.ensures ∙ ap (λ x. part_of x c.args.member) (c.closure-closure.ensures ∙ ap (λ t. t.closure) c.tableau_of.ensures.tableau) in
    side_is c.args.ranks.now c.args.and c.args.member c.requires.and (sym c.if-not-has_member.ensures) c.some_side.result (subst (λ part. IsSideIn part c.some_side.result) e c.some_side.ensures)

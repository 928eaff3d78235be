use Rattle.std.proofs.Common.{◌≡◌, ◌<◌, ◌≤◌, false, arith, subst, sym, ap, ◌∙◌}
use Rattle.ctl_form.specs.declared.limits.TheConstants.{MAX_MEMBERS}
use Rattle.closure_sets.specs.ClosureParts.{after, count}
use Rattle.unravel.proofs.Nodes.{after_small}
use Rattle.unravel.proofs.keeper.next_time.Goals as goal

pub returns : goal.returns
returns c =
    let t = c.args.ranks.now.tableau in
    let target = c.requires.target in
    let e : c.after.result ≡ after t.closure c.args.side c.args.target.member = c.after.ensures ∙ ap (λ x. after x c.args.side c.args.target.member) (c.closure-closure.ensures ∙ ap (λ x. x.closure) c.tableau_of.ensures.tableau) in
    let lt : c.after.result < count t.closure = subst (λ i. i < count t.closure) (sym e) (after_small t c.tableau_of.ensures.alive.tableau c.args.target.member c.args.target.f c.args.target.g c.args.target.all false c.args.side target.member target.part) in
    let few : count t.closure ≤ MAX_MEMBERS = c.tableau_of.ensures.alive.tableau.rules.closure.numbering.few in
    record { same = e; member = lt; small = omega (arith, lt, few) }

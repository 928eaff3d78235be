use Rattle.std.proofs.Common.{◌≡◌, false, true, length, refl, ap, subst, arith}
use Rattle.ctl_form.specs.inside.Next.{SomeLeads}
use Rattle.ctl_form.specs.Row.{IsRowOf}
use Rattle.ctl_form.proofs.MovePlaces.{has_move_at}
use Rattle.ctl_form.proofs.NextRows.{IsRowOf-lead, IsRowOf-pass, IsRowOf-some}
use Rattle.ctl_form.proofs.next_row.some_next.Goals.{then-leads, else-leads}
use Rattle.ctl_form.proofs.next_row.some_next.Goals as goal

pub leads-requires : goal.leads-requires
leads-requires c =
    let lt = rw c.moves-step-items.ensures.moves at c.loop-step-test.true in
    rw (c.moves-step-items.ensures.moves, c.requires) (c.states.ensures.goes_on.within _ _ _ (has_move_at c.args.m.now c.loop-step.step-index lt))

pub add-requires : goal.add-requires
add-requires c =
    let lt = rw c.moves-step-items.ensures.moves at c.loop-step-test.true in
    rw (c.moves-step-items.ensures.moves, c.loop-step.invariant.long) (c.states.ensures.goes_on.leaves _ _ _ (has_move_at c.args.m.now c.loop-step.step-index lt))

pub loop-step-preserved : goal.loop-step-preserved
loop-step-preserved c =
    let moves = c.moves-step-items.ensures.moves in
    let lt = rw moves at c.loop-step-test.true in
    elim c.if-leads.branch [
      | then-leads w ↦
          let leads = rw moves at (w.if-leads.ensures.0 refl) in
          rw (w.row-is, w.add.ensures, moves) (IsRowOf-lead (length c.args.m.now.states) c.args.m.now.moves c.args.side c.args.p.now c.loop-step.step-index c.loop-step.row (c.states.ensures.goes_on.leaves _ _ _ (has_move_at c.args.m.now c.loop-step.step-index lt)) leads.0 leads.1 c.loop-step.invariant)
      | else-leads w ↦
          rw w.row-is (IsRowOf-pass (length c.args.m.now.states) c.args.m.now.moves c.args.side c.args.p.now c.loop-step.step-index c.loop-step.row (λ h. let no_lead : false ≡ true = w.if-leads.ensures.1 (rw moves h) in cc) c.loop-step.invariant)
    ]

pub returns : goal.returns
returns c =
    let moves = ap length c.moves-step-items.ensures.moves in
    let all : c.loop-step.step-index ≡ length c.args.m.now.moves = omega (arith, moves, c.loop-step-test.false, c.loop-step.auto.step-index-end) in
    IsRowOf-some c.args.m.now c.args.side c.args.p.now c.loop-step.row (subst (λ n. IsRowOf (length c.args.m.now.states) (SomeLeads c.args.m.now.moves c.args.side c.args.p.now n) c.loop-step.row) all c.loop-step.invariant)

use Rattle.std.proofs.Common.{◌≡◌, ◌<◌, ◌≤◌, ◌+◌, length, true, false, refl, subst, sym, ap, ◌∙◌, arith}
use Rattle.closure_sets.specs.ClosureParts.{count}
use Rattle.deletion_rules.specs.inside.Edges.{is_next}
use Rattle.deletion_rules.proofs.EdgeLaws.{AddsArrows, arrow_at, arrow_begin, arrow_below, arrow_end, arrow_passed, arrow_step, place_next, place_same}
use Rattle.deletion_rules.proofs.edges.add_arrows.Goals as goal
use Rattle.deletion_rules.proofs.edges.add_arrows.Goals.{then-is_next+in_ok-push, else-is_next}

pub loop-member-init : goal.loop-member-init
loop-member-init c = record { place = refl; few = omega arith; adds = arrow_begin c.args.t.now c.args.and c.args.arrows.now c.requires.before }

pub loop-member-preserved : goal.loop-member-preserved
loop-member-preserved c = elim c.if-is_next.branch [
  | then-is_next+in_ok-push w ↦ (
      let found : is_next c.args.t.now c.args.and c.loop-member.member ≡ true = sym c.is_next.ensures ∙ w.if-is_next.true in
      let at = arrow_at c.args.t.now c.args.and c.loop-member.member c.loop-member.place w.successor_at-or.result w.successor_at-or.ensures c.loop-member.invariant.place in
      let small : w.successor_at-or.result < length c.loop-member.arrows = (let lt = arrow_below c.args.t.now c.tell_rules.ensures c.args.and c.loop-member.member w.successor_at-or.result c.requires.and found at in let long = c.loop-member.invariant.adds.long in omega (arith, lt, long)) in
      record {
        place = place_next c.args.t.now c.args.and c.loop-member.member c.loop-member.place c.if-is_next.place c.loop-member.invariant.place found w.place-is;
        few = (let few = c.loop-member.invariant.few in let is = w.place-is in omega (arith, few, is));
        adds = subst (AddsArrows c.args.t.now c.args.and (c.loop-member.member + 1)) (sym w.arrows-is) (arrow_step c.args.t.now c.args.and c.loop-member.member w.successor_at-or.result c.loop-member.arrows w.push.new.self c.requires.and found at c.loop-member.invariant.adds (record { size = w.in_ok-push.ensures.size small; here = w.in_ok-push.ensures.here; elsewhere = w.in_ok-push.ensures.elsewhere }));
      })
  | else-is_next w ↦ (
      let passed : is_next c.args.t.now c.args.and c.loop-member.member ≡ false = sym c.is_next.ensures ∙ w.if-is_next.false in
      record {
        place = w.place-is ∙ place_same c.args.t.now c.args.and c.loop-member.member c.loop-member.place c.loop-member.invariant.place passed;
        few = (let few = c.loop-member.invariant.few in let is = w.place-is in omega (arith, few, is));
        adds = subst (AddsArrows c.args.t.now c.args.and (c.loop-member.member + 1)) (sym w.arrows-is) (arrow_passed c.args.t.now c.args.and c.loop-member.member c.loop-member.arrows passed c.loop-member.invariant.adds);
      })
]

pub returns : goal.returns
returns c =
    let few : count c.args.t.now.closure ≤ c.loop-member.member = (let le = c.loop-member-test.false in let e : c.count-member-end.result ≡ count c.args.t.now.closure = c.count-member-end.ensures.count ∙ ap count c.closure.ensures in omega (arith, le, e)) in
    arrow_end c.args.t.now c.args.and c.loop-member.member c.loop-member.arrows few c.loop-member.invariant.adds

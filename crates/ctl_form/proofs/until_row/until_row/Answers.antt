use Rattle.std.proofs.Common.{true, false, ◌≡◌, ◌<◌, ◌+◌, [], arith, subst, ap, length, slice_index}
use Rattle.ctl_form.specs.Row.{IsAt}
use Rattle.ctl_form.specs.inside.Spread.{IsSpread, Anyhow, Visits, AreCursors}
use Rattle.ctl_form.proofs.AllOf.{All-last}
use Rattle.ctl_form.proofs.CursorSteps.{AreCursors-more}
use Rattle.ctl_form.proofs.MovePlaces.{has_move_at, in_order}
use Rattle.ctl_form.proofs.PredecessorSteps.{begin_read, place_within, source_read}
use Rattle.ctl_form.proofs.SpreadSteps.{IsAt-visit, left_to_do-visit, IsSpread-outset, IsSpread-take, IsSpread-visit, IsSpread-seen, IsSpread-done}
use Rattle.ctl_form.proofs.until_row.until_row.Goals as goal

pub first_moves-requires-clause-within : goal.first_moves-requires-clause-within
first_moves-requires-clause-within c = rw (c.moves-moves.ensures.moves, c.states.ensures.states) (λ j lt. c.states.ensures.goes_on.leaves _ _ _ (has_move_at c.args.m.now j lt))

pub first_moves-requires-clause-in_order : goal.first_moves-requires-clause-in_order
first_moves-requires-clause-in_order c = rw c.moves-moves.ensures.moves (in_order c.args.m.now c.moves-moves.ensures.rising)

pub loop-state-init : goal.loop-state-init
loop-state-init c =
    let states : length c.states.result.now ≡ length c.in_ok-copy.field-0 = omega (arith, ap length c.states.ensures.states, c.requires.q_long, ap length c.in_ok-copy.ensures) in
    let first = subst (λ n. AreCursors n c.moves-moves.result.now [] c.in_ok-first_moves.field-0.items) states c.in_ok-first_moves.ensures in
    record {
      spread = rw c.in_ok-copy.ensures (IsSpread-outset c.args.m.now c.states.ensures.goes_on c.args.all c.args.p.now c.args.q.now _ c.requires.q_long c.in_ok-marked.ensures);
      cursors = AreCursors-more _ _ [] _ _ (λ t h. let no_mark : false ≡ true = h in cc) (subst (λ moves. AreCursors (length c.in_ok-copy.field-0) moves [] c.in_ok-first_moves.field-0.items) c.moves-moves.ensures.moves first);
    }

pub index-begin-requires : goal.index-begin-requires
index-begin-requires c =
    let lt = All-last (λ s. s < length c.args.m.now.states) _ _ _ c.in-Some.ensures.items c.loop-state.invariant.spread.listed in
    omega (arith, lt, c.requires.predecessors.long)

pub overflow_add-state : goal.overflow_add-state
overflow_add-state c =
    let lt = All-last (λ s. s < length c.args.m.now.states) _ _ _ c.in-Some.ensures.items c.loop-state.invariant.spread.listed in
    omega (arith, lt, c.requires.predecessors.long)

pub index-end-requires : goal.index-end-requires
index-end-requires c =
    let lt = All-last (λ s. s < length c.args.m.now.states) _ _ _ c.in-Some.ensures.items c.loop-state.invariant.spread.listed in
    omega (arith, lt, c.requires.predecessors.long)

pub loop-place-init : goal.loop-place-init
loop-place-init c =
    let lt = All-last (λ s. s < length c.args.m.now.states) _ _ _ c.in-Some.ensures.items c.loop-state.invariant.spread.listed in
    let begin : c.index-begin.result.now ≡ slice_index c.args.predecessors.now.begins.items c.in-Some.state = begin_read c.args.m.now c.args.predecessors.now.begins.items c.args.predecessors.now.sources.items c.in-Some.state c.index-begin.result.now c.requires.predecessors (omega (arith, lt)) c.index-begin.ensures in
    record {
      spread = IsSpread-take _ _ _ _ _ _ _ _ c.in-Some.state c.index-begin.result.now begin (subst (λ work. IsSpread c.args.m.now c.args.all c.args.p.now c.args.q.now c.loop-state.front.row work Anyhow) c.in-Some.ensures.items c.loop-state.invariant.spread);
      hand = All-last (IsAt c.loop-state.front.row) _ _ _ c.in-Some.ensures.items c.loop-state.invariant.spread.marked;
      cursors = c.loop-state.invariant.cursors;
      less = omega arith;
    }

pub loop-state-preserved : goal.loop-state-preserved
loop-state-preserved c =
    let lt = All-last (λ s. s < length c.args.m.now.states) _ _ _ c.in-Some.ensures.items c.loop-state.invariant.spread.listed in
    let end : c.index-end.result.now ≡ slice_index c.args.predecessors.now.begins.items (c.in-Some.state + 1) = begin_read c.args.m.now c.args.predecessors.now.begins.items c.args.predecessors.now.sources.items (c.in-Some.state + 1) c.index-end.result.now c.requires.predecessors (omega (arith, lt)) c.index-end.ensures in
    record {
      spread = IsSpread-seen _ _ _ _ _ _ _ _ c.in-Some.state c.loop-place.place c.requires.predecessors lt (omega (arith, end, c.loop-place-test.false)) c.loop-place.invariant.spread;
      cursors = c.loop-place.invariant.cursors;
    }

pub index-requires : goal.index-requires
index-requires c =
    let lt = All-last (λ s. s < length c.args.m.now.states) _ _ _ c.in-Some.ensures.items c.loop-state.invariant.spread.listed in
    omega (arith, place_within c.args.m.now c.args.predecessors.now.begins.items c.args.predecessors.now.sources.items c.in-Some.state c.loop-place.place c.index-end.result.now c.requires.predecessors lt c.index-end.ensures c.loop-place-test.true)

pub visit-requires-clause-within : goal.visit-requires-clause-within
visit-requires-clause-within c = rw (c.moves-moves.ensures.moves, c.loop-place.invariant.spread.long) (λ j lt. c.states.ensures.goes_on.within _ _ _ (has_move_at c.args.m.now j lt))

pub visit-requires-clause-in_order : goal.visit-requires-clause-in_order
visit-requires-clause-in_order c = rw c.moves-moves.ensures.moves (in_order c.args.m.now c.moves-moves.ensures.rising)

pub visit-requires-clause-state : goal.visit-requires-clause-state
visit-requires-clause-state c =
    let lt = All-last (λ s. s < length c.args.m.now.states) _ _ _ c.in-Some.ensures.items c.loop-state.invariant.spread.listed in
    let source = source_read c.args.m.now c.args.predecessors.now.begins.items c.args.predecessors.now.sources.items c.in-Some.state c.loop-place.place c.index-begin.result.now c.index-end.result.now c.index.result.now c.states.ensures.goes_on c.requires.predecessors lt c.index-begin.ensures c.index-end.ensures c.loop-place.auto.place c.loop-place-test.true c.index.ensures in
    omega (arith, source.within, c.loop-place.invariant.spread.long)

pub loop-place-preserved : goal.loop-place-preserved
loop-place-preserved c =
    let lt = All-last (λ s. s < length c.args.m.now.states) _ _ _ c.in-Some.ensures.items c.loop-state.invariant.spread.listed in
    let source = source_read c.args.m.now c.args.predecessors.now.begins.items c.args.predecessors.now.sources.items c.in-Some.state c.loop-place.place c.index-begin.result.now c.index-end.result.now c.index.result.now c.states.ensures.goes_on c.requires.predecessors lt c.index-begin.ensures c.index-end.ensures c.loop-place.auto.place c.loop-place-test.true c.index.ensures in
    let source_at : c.index.result.now < length c.loop-place.front.row = omega (arith, source.within, c.loop-place.invariant.spread.long) in
    let here = subst (λ moves. Visits moves c.args.all c.args.p.now c.index.result.now c.loop-place.front.row c.loop-place.front.work.items c.visit.new.front.row c.visit.new.front.work.items) c.moves-moves.ensures.moves c.in_ok-visit.ensures.visited in
    let visits = subst (λ s. Visits c.args.m.now.moves c.args.all c.args.p.now s c.loop-place.front.row c.loop-place.front.work.items c.visit.new.front.row c.visit.new.front.work.items) source.read here in
    record {
      spread = IsSpread-visit c.args.m.now c.states.ensures.goes_on c.args.all c.args.p.now c.args.q.now _ _ c.in-Some.state c.loop-place.place c.requires.predecessors lt source.from source.before _ _ _ _ c.loop-place.invariant.hand visits c.loop-place.invariant.spread;
      hand = IsAt-visit _ _ _ _ _ _ _ _ c.in-Some.state source_at here c.loop-place.invariant.hand;
      cursors = subst (λ moves. AreCursors (length c.visit.new.front.row) moves c.visit.new.front.row c.visit.new.front.cursors.items) c.moves-moves.ensures.moves c.in_ok-visit.ensures.cursors;
      less = omega (arith, left_to_do-visit _ _ _ _ _ _ _ _ source_at here, c.loop-place.invariant.less);
    }

pub returns : goal.returns
returns c = IsSpread-done c.args.m.now c.states.ensures.goes_on c.args.all c.args.p.now c.args.q.now c.loop-state.front.row c.loop-state.front.work.items (omega (arith, c.in_default.ensures.cases)) c.loop-state.invariant.spread

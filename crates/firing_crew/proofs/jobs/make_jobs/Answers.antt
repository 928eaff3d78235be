use Rattle.std.proofs.Common.{◌<◌, ◌+◌, length, ap, arith, sym, subst}
use Rattle.firing_hall.specs.Opening.{IsFresh}
use Rattle.firing_crew.specs.inside.Jobs.{IsBegunJob}
use Rattle.firing_crew.proofs.Begun.{fresh_from}
use Rattle.firing_crew.proofs.ByPlace.{From, from_empty, from_first, from_pushed, from_rest, from_zero, long_push}
use Rattle.firing_crew.proofs.jobs.make_jobs.Goals as goal

pub loop-caller-init : goal.loop-caller-init
loop-caller-init g c = (
  fresh_from c.args.hall.now c.args.orders.callers c.args.passes.items c.requires.passes,
  omega (arith, c.requires.passes.0),
  omega (arith, c.requires.gates),
  ap length c.new-jobs.ensures.items,
  from_empty (IsBegunJob c.args.hall.now c.args.orders) c.new-jobs.result.items c.new-jobs.ensures.items,
)

pub make_worker-requires-clause-fresh : goal.make_worker-requires-clause-fresh
make_worker-requires-clause-fresh g c =
    let i = c.loop-caller.invariant in
    let some : 0 < length c.loop-caller.passes.items = omega (arith, i.1, c.loop-caller-test.true) in
    from_first (IsFresh c.args.hall.now) c.loop-caller.caller c.loop-caller.passes.items c.remove-pass.result i.0 some c.remove-pass.ensures.value

pub loop-caller-preserved : goal.loop-caller-preserved
loop-caller-preserved g c =
    let hall = c.args.hall.now in
    let orders = c.args.orders in
    let k = c.loop-caller.caller in
    let i = c.loop-caller.invariant in
    let pushed = c.in_ok-push.ensures.items in (
      subst (From (IsFresh hall) (k + 1)) (sym c.remove-pass.ensures.items) (from_rest (IsFresh hall) k c.loop-caller.passes.items i.0),
      omega (arith, i.1, c.remove-pass.ensures.len, c.loop-caller.passes.ok, c.remove-pass.new.self.ok),
      omega (arith, i.2, c.remove-gate.ensures.len, c.loop-caller.gates.ok, c.remove-gate.new.self.ok),
      omega (arith, i.3, long_push _ _ _ pushed),
      from_pushed (IsBegunJob hall orders) _ _ _ k pushed (sym i.3) i.4 c.in_ok-worker.ensures,
    )

pub returns : goal.returns
returns g c =
    let i = c.loop-caller.invariant in
    record {
      count = omega (arith, i.1, i.3, c.loop-caller-test.false);
      begun = from_zero (IsBegunJob c.args.hall.now c.args.orders) c.loop-caller.jobs.items i.4;
    }

pub make_worker-requires-clause-within : goal.make_worker-requires-clause-within
make_worker-requires-clause-within g c = c.requires.busy c.loop-caller.caller c.loop-caller-test.true

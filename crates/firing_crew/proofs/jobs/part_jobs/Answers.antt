use Rattle.std.proofs.Common.{◌<◌, ◌+◌, length, ap, arith, sym, subst}
use Rattle.firing_crew.specs.inside.Jobs.{IsDone, IsDoneJob}
use Rattle.firing_crew.proofs.ByPlace.{From, from_all, from_empty, from_first, from_pushed, from_rest, from_zero, long_push}
use Rattle.firing_crew.proofs.jobs.part_jobs.Goals as goal

pub loop-caller-init : goal.loop-caller-init
loop-caller-init g c = (
  from_all (IsDoneJob c.args.hall.now c.args.orders) c.args.jobs.items c.requires.done,
  omega (arith, c.requires.count),
  ap length c.new-gates.ensures.items,
  ap length c.new-passes.ensures.items,
  from_empty (IsDone c.args.hall.now c.args.orders) c.new-passes.result.items c.new-passes.ensures.items,
)

pub loop-caller-preserved : goal.loop-caller-preserved
loop-caller-preserved g c =
    let hall = c.args.hall.now in
    let orders = c.args.orders in
    let k = c.loop-caller.caller in
    let i = c.loop-caller.invariant in
    let some : 0 < length c.loop-caller.jobs.items = omega (arith, i.1, c.loop-caller-test.true) in
    let done = from_first (IsDoneJob hall orders) k c.loop-caller.jobs.items c.remove-job.result i.0 some c.remove-job.ensures.value in
    let pushed = c.in_ok-push.ensures.items in
    let gated = c.in_ok-push-2.ensures.items in (
      subst (From (IsDoneJob hall orders) (k + 1)) (sym c.remove-job.ensures.items) (from_rest (IsDoneJob hall orders) k c.loop-caller.jobs.items i.0),
      omega (arith, i.1, c.remove-job.ensures.len, c.loop-caller.jobs.ok, c.remove-job.new.self.ok),
      omega (arith, i.2, long_push _ _ _ gated),
      omega (arith, i.3, long_push _ _ _ pushed),
      from_pushed (IsDone hall orders) _ _ _ k pushed (sym i.3) i.4 done,
    )

pub returns : goal.returns
returns g c =
    let i = c.loop-caller.invariant in
    record {
      passes = record {
        count = omega (arith, i.1, i.3, c.loop-caller-test.false);
        each = from_zero (IsDone c.args.hall.now c.args.orders) c.loop-caller.passes.items i.4;
      };
      gates = omega (arith, i.1, i.2, c.loop-caller-test.false);
    }

use Rattle.std.proofs.Common.{◌<◌, ap, arith, length}
use Rattle.unravel.specs.inside.Joined.{whole_of}
use Rattle.unravel.proofs.JoinRows.{joined_next, none_here, roots_next}
use Rattle.unravel.proofs.Synthesized.{synthesized_here}
use Rattle.unravel.proofs.synthesis.join_row.Goals as goal

pub returns-in-Unsatisfiable-clause-none : goal.returns-in-Unsatisfiable-clause-none
returns-in-Unsatisfiable-clause-none c _ =
    let items = c.starts-other-items.ensures.starts in
    let k = c.loop-other.other-index in
    let within : k < length c.args.b.now.starts = omega (arith, c.loop-other-test.true, ap length items) in
    none_here c.args.a.now c.args.b.now c.args.form.now c.args.start c.args.joining.now.begun k c.loop-other.joining.begun c.requires.row within c.loop-other.invariant.begun
    (synthesized_here c.args.a.now c.args.b.now _ _ c.starts-other-items.result.now c.args.start k c.args.form.now _ _ c.in_ok-one_a.ensures c.in_ok-one_b.ensures items c.in-Unsatisfiable.is c.in_ok-m.ensures)

pub loop-other-preserved : goal.loop-other-preserved
loop-other-preserved c =
    let items = c.starts-other-items.ensures.starts in
    let k = c.loop-other.other-index in
    let within : k < length c.args.b.now.starts = omega (arith, c.loop-other-test.true, ap length items) in
    let sat = synthesized_here c.args.a.now c.args.b.now _ _ c.starts-other-items.result.now c.args.start k c.args.form.now _ _ c.in_ok-one_a.ensures c.in_ok-one_b.ensures items c.in-Structure.is c.in_ok-m.ensures in
    let more = c.in_ok-add-in-Structure.ensures in record {
      joined = rw (more.begun, more.whole) (joined_next c.args.a.now c.args.b.now c.args.form.now c.args.start c.args.joining.now.begun k c.loop-other.joining.begun c.requires.row within c.loop-other.invariant.begun (whole_of c.loop-other.joining) c.in-Structure.m c.loop-other.invariant.joined sat);
      roots = rw (more.begun, more.whole) (roots_next c.args.a.now c.args.b.now c.args.form.now c.args.start c.args.joining.now.begun k c.loop-other.joining.begun c.requires.row within c.loop-other.invariant.begun (whole_of c.loop-other.joining) c.in-Structure.m c.loop-other.invariant.joined sat c.loop-other.invariant.roots);
      begun = omega (arith, more.begun, c.loop-other.invariant.begun);
    }

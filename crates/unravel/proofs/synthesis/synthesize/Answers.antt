use Rattle.std.proofs.Common.{◌≡◌, ap, arith, length, refl, subst}
use Rattle.pair_structure.specs.Structure.{start_count}
use Rattle.unravel.specs.inside.Joined.{whole_of}
use Rattle.unravel.specs.inside.Joining.{HaveRoots, IsJoined}
use Rattle.unravel.proofs.synthesis.synthesize.Goals as goal

pub made-requires-clause-some : goal.made-requires-clause-some
made-requires-clause-some c = c.in_ok-joining.ensures.some

pub made-requires-clause-joined : goal.made-requires-clause-joined
made-requires-clause-joined c =
    let rows : c.loop-start.start-index ≡ length c.args.a.now.starts = omega (arith, c.loop-start-test.false, c.loop-start.auto.start-index-end, ap length c.starts-start-items.ensures.starts) in
    let all : c.loop-start.joining.begun ≡ start_count c.args.a.now c.args.b.now = rw (c.loop-start.invariant.begun, rows) refl in
    subst (λ k. IsJoined c.args.a.now c.args.b.now k (whole_of c.loop-start.joining)) all c.loop-start.invariant.joined

pub returns : goal.returns
returns c =
    let rows : c.loop-start.start-index ≡ length c.args.a.now.starts = omega (arith, c.loop-start-test.false, c.loop-start.auto.start-index-end, ap length c.starts-start-items.ensures.starts) in
    let all : c.loop-start.joining.begun ≡ start_count c.args.a.now c.args.b.now = rw (c.loop-start.invariant.begun, rows) refl in record {
      over = c.in_ok-made.ensures.over;
      roots = c.in_ok-made.ensures.roots c.args.form.now (subst (λ k. HaveRoots c.args.form.now k (whole_of c.loop-start.joining)) all c.loop-start.invariant.roots);
    }

use Rattle.std.proofs.Common.{◌≡◌, ◌<◌, ℕ, length, subst, ap, arith}
use Rattle.deletion_rules.specs.inside.Edges.{AreArrows}
use Rattle.pair_structure.specs.Lists.{AreEmpty}
use Rattle.deletion_rules.specs.declared.edges.Arrow.{Arrow}
use Rattle.deletion_rules.proofs.EdgeLaws.{arrows_none}
use Rattle.deletion_rules.proofs.edges.arrows_of.Goals as goal

pub loop-and-init : goal.loop-and-init
loop-and-init c = arrows_none c.args.t.now c.in_ok-arrows.arrows (subst (λ (n : ℕ). AreEmpty {A = Arrow} n c.in_ok-arrows.arrows) (ap length c.ors.ensures.ors) c.in_ok-arrows.ensures)

pub add_arrows-requires : goal.add_arrows-requires
add_arrows-requires c =
    let small : c.loop-and.and < length c.args.t.now.ands = (let lt = c.loop-and-test.true in let e = ap length c.ands-ands.ensures.ands in omega (arith, lt, e)) in
    record { and = small; before = c.loop-and.invariant }

pub returns : goal.returns
returns c =
    let e : c.loop-and.and ≡ length c.args.t.now.ands = (let le = c.loop-and-test.false in let end = c.loop-and.auto.and-end in let q = ap length c.ands-ands.ensures.ands in omega (arith, le, end, q)) in
    subst (λ (n : ℕ). AreArrows c.args.t.now n c.loop-and.arrows) e c.loop-and.invariant

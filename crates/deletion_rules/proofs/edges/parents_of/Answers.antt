use Rattle.std.proofs.Common.{◌≡◌, ◌<◌, ℕ, length, subst, ap, arith}
use Rattle.deletion_rules.specs.inside.Edges.{AreParents}
use Rattle.pair_structure.specs.Lists.{AreEmpty}
use Rattle.deletion_rules.proofs.EdgeLaws.{parents_none}
use Rattle.deletion_rules.proofs.edges.parents_of.Goals as goal

pub loop-or-init : goal.loop-or-init
loop-or-init c = parents_none c.args.t.now c.in_ok-parents.parents (subst (λ (n : ℕ). AreEmpty n c.in_ok-parents.parents) (ap length c.ands.ensures.ands) c.in_ok-parents.ensures)

pub add_parent-requires : goal.add_parent-requires
add_parent-requires c =
    let small : c.loop-or.or < length c.args.t.now.ors = (let lt = c.loop-or-test.true in let e = ap length c.ors-ors.ensures.ors in omega (arith, lt, e)) in
    record { or = small; before = c.loop-or.invariant }

pub returns : goal.returns
returns c =
    let e : c.loop-or.or ≡ length c.args.t.now.ors = (let le = c.loop-or-test.false in let end = c.loop-or.auto.or-end in let q = ap length c.ors-ors.ensures.ors in omega (arith, le, end, q)) in
    subst (λ (n : ℕ). AreParents c.args.t.now n c.loop-or.parents) e c.loop-or.invariant

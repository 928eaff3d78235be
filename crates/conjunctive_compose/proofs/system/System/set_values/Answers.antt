use Rattle.std.proofs.Common.{arith, ◌≡◌, length, sym, subst, ◌+◌}
use Rattle.pair_structure.specs.declared.side.Side.TheVariants.{A}
use Rattle.interconnection.specs.declared.parts.Beside.{Beside}
use Rattle.conjunctive_compose.specs.Whole.{WholeParts}
use Rattle.conjunctive_compose.proofs.Neighbours.{are_beside}
use Rattle.conjunctive_compose.proofs.Setting.{SetUpTo, set_all, set_step, still_open}
use Rattle.conjunctive_compose.proofs.system.System.set_values.Goals as goal

nobody : Beside
nobody = record { process = 0; edge = 0; side = A }

pub value-requires-clause-beside : goal.value-requires-clause-beside
unfolding nobody
value-requires-clause-beside c = (are_beside c.args.self.now c.args.wish.process c.args.neighbours.now c.requires.neighbours).each c.loop-b.b-index nobody c.loop-b-test.true

pub unreachable-requires : goal.unreachable-requires
unfolding nobody
unreachable-requires c =
    let are = are_beside c.args.self.now c.args.wish.process c.args.neighbours.now c.requires.neighbours in
    still_open c.args.self.now c.args.w.now c.loop-b.w c.args.wish c.args.neighbours.now c.loop-b.b-index nobody c.network-network.ensures.system are c.loop-b-test.true c.loop-b.invariant c.requires.permit c.in-None.ensures.none

pub loop-b-preserved : goal.loop-b-preserved
unfolding nobody
loop-b-preserved c =
    let are = are_beside c.args.self.now c.args.wish.process c.args.neighbours.now c.requires.neighbours in
    let next = set_step c.args.self.now c.args.w.now c.loop-b.w c.args.wish c.args.neighbours.now c.loop-b.b-index nobody c.in-Some.value c.network-network.ensures.system c.requires.sizes are c.loop-b-test.true c.loop-b.invariant c.in-Some.ensures.some.1 in
    subst (λ (w : WholeParts). SetUpTo c.args.self.now c.args.w.now w c.args.wish c.args.neighbours.now (c.loop-b.b-index + 1)) (sym c.set_value.ensures) next

pub returns : goal.returns
returns c =
    let are = are_beside c.args.self.now c.args.wish.process c.args.neighbours.now c.requires.neighbours in
    let n : c.loop-b.b-index ≡ length c.args.neighbours.now = omega (arith, c.loop-b-test.false, c.loop-b.auto) in
    set_all c.args.self.now c.args.w.now c.loop-b.w c.args.wish c.args.neighbours.now c.network-network.ensures.system c.requires.sizes are (subst (SetUpTo c.args.self.now c.args.w.now c.loop-b.w c.args.wish c.args.neighbours.now) n c.loop-b.invariant)

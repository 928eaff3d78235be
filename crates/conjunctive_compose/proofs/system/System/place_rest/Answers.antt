use Rattle.std.proofs.Common.{◌≡◌, length, arith, subst}
use Rattle.conjunctive_compose.specs.inside.Peeling.{NoneCanGo}
use Rattle.conjunctive_compose.proofs.system.System.place_rest.Goals as goal

pub returns-clause-none : goal.returns-clause-none
returns-clause-none c =
    let all : c.loop-next.next ≡ length c.loop-next.peeling.order = omega (arith, c.len.ensures, c.loop-next-test.false, c.loop-next.invariant.within) in
    subst (NoneCanGo c.args.self.now c.args.w.now c.loop-next.peeling) all c.loop-next.invariant.none

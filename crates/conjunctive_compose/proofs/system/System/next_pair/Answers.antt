use Rattle.conjunctive_compose.proofs.NextPairs.{never_permits, next_pair, next_there}
use Rattle.conjunctive_compose.proofs.system.System.next_pair.Goals as goal

pub returns-in_default-clause-none : goal.returns-in_default-clause-none
returns-in_default-clause-none c =
    let r = c.requires in
    never_permits c.args.self.now c.args.wish c.args.b.now c.args.state c.next_value.ensures.system r.fits r.beside r.left c.in_default.ensures.none

pub unreachable-requires : goal.unreachable-requires
unreachable-requires c =
    let r = c.requires in
    let some = c.in-Some.ensures.some in
    let there = next_there c.args.self.now c.args.wish c.args.b.now c.args.state c.next_value.ensures.system r.fits r.beside r.left c.in-Some.set some.0 some.1 in
    c.in-None.ensures there.0 (rw (c.with_local-after.ensures, c.states.ensures.states, c.arc-to.ensures, c.structure_on-structure.ensures.structure) there.1)

pub returns-clause-some : goal.returns-clause-some
returns-clause-some c =
    let r = c.requires in
    let some = c.in-Some.ensures.some in
    let there = rw (c.with_local-after.ensures, c.states.ensures.states, c.arc-to.ensures, c.structure_on-structure.ensures.structure) at c.in-Some-state_at.ensures in
    next_pair c.args.self.now c.args.wish c.args.b.now c.args.state c.next_value.ensures.system r.fits r.beside r.left c.in-Some.set c.in-Some-state_at.next some.0 some.1 there

use Rattle.pair_structure.specs.declared.side.Side.TheVariants.{A, B}
use Rattle.skeleton_extract.proofs.Gathering.{AllRise-from_listed, AreFollowed-by_side, IsSkeleton-from_sides}
use Rattle.skeleton_extract.proofs.extraction.extract.Goals as goal

pub listed-requires : goal.listed-requires
listed-requires c = AreFollowed-by_side c.args.a.now c.args.b.now c.args.m.now A c.requires

pub listed-requires-2 : goal.listed-requires-2
listed-requires-2 c = AreFollowed-by_side c.args.a.now c.args.b.now c.args.m.now B c.requires

pub of-requires-clause-a_rise : goal.of-requires-clause-a_rise
of-requires-clause-a_rise c = AllRise-from_listed c.args.m.now A c.args.a.now.arcs c.in_ok-of_a.of_a c.in_ok-of_a.ensures

pub of-requires-clause-b_rise : goal.of-requires-clause-b_rise
of-requires-clause-b_rise c = AllRise-from_listed c.args.m.now B c.args.b.now.arcs c.in_ok-of_b.of_b c.in_ok-of_b.ensures

pub returns : goal.returns
returns c = rw c.of.ensures (IsSkeleton-from_sides c.args.a.now c.args.b.now c.args.m.now c.in_ok-of_a.of_a c.in_ok-of_b.of_b c.in_ok-of_a.ensures c.in_ok-of_b.ensures)

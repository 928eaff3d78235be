use Rattle.std.proofs.Common.{IsTrue, arith, below_more, false, refl}
use Rattle.interconnection.proofs.Besides.{AreAroundBelow-more, HasEarlier-from_beside, beside_from_HasEarlier, not_beside}
use Rattle.interconnection.proofs.adjacency.Adjacency.of.Goals as goal

pub returns-then-are_joined-clause-fault : goal.returns-then-are_joined-clause-fault
returns-then-are_joined-clause-fault c =
    let n = c.loop-e.e in
    let edges = c.args.edges.now in
    let lt = c.loop-e-test.true in
    record {
      within = lt;
      twice = HasEarlier-from_beside n c.args.count edges c.loop-e.adjacency c.loop-e.invariant.around (c.requires.in_range n lt).0 (c.if-are_joined.ensures.0 refl);
      first = c.loop-e.invariant.single;
    }

pub join-requires-clause-b_fresh : goal.join-requires-clause-b_fresh
join-requires-clause-b_fresh c =
    let n = c.loop-e.e in
    let edges = c.args.edges.now in
    let lt = c.loop-e-test.true in
    not_beside n c.args.count edges c.loop-e.adjacency c.loop-e.invariant.around (c.requires.in_range n lt).1
    (λ earlier. let no : IsTrue false = c.if-are_joined.ensures.1 (beside_from_HasEarlier n c.args.count edges c.loop-e.adjacency c.loop-e.invariant.around (c.requires.in_range n lt).0 earlier) in cc)

pub loop-e-preserved : goal.loop-e-preserved
loop-e-preserved c =
    let n = c.loop-e.e in
    let edges = c.args.edges.now in
    let lt = c.loop-e-test.true in
    record {
      around = AreAroundBelow-more n c.args.count edges c.loop-e.adjacency c.join.new.self lt (c.requires.joins_two n lt) c.loop-e.invariant.around c.in_ok-join.ensures.size c.in_ok-join.ensures.a c.in_ok-join.ensures.b c.in_ok-join.ensures.others;
      single = below_more _ _ c.loop-e.invariant.single (λ earlier. let no : IsTrue false = c.if-are_joined.ensures.1 (beside_from_HasEarlier n c.args.count edges c.loop-e.adjacency c.loop-e.invariant.around (c.requires.in_range n lt).0 earlier) in cc);
    }

pub returns-clause-single : goal.returns-clause-single
returns-clause-single c = λ e lt. c.loop-e.invariant.single e (omega (arith, c.loop-e-test.false))

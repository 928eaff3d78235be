use Rattle.std.proofs.Common.{subst, sym}
use Rattle.std.proofs.lemmas.Result.{IfOk-weaker}
use Rattle.pair_structure.specs.Structure.{IsOver, start_count}
use Rattle.unravel.specs.inside.Joined.{whole_of}
use Rattle.unravel.specs.inside.Joining.{HaveRoots}
use Rattle.unravel.proofs.JoinedWhole.{joined_over, roots_arranged}
use Rattle.unravel.proofs.joining.Joining.made.Goals as goal

pub made-requires : goal.made-requires
made-requires c =
    rw (c.deref.ensures.value, c.deref-2.ensures.value)
    (joined_over c.args.a.now c.args.b.now (whole_of c.args.self) c.requires.joined c.arrange.new.moves.items c.arrange.ensures.rising c.arrange.ensures.same c.requires.some)

pub returns-clause-over : goal.returns-clause-over
returns-clause-over c =
    let over = joined_over c.args.a.now c.args.b.now (whole_of c.args.self) c.requires.joined c.arrange.new.moves.items c.arrange.ensures.rising c.arrange.ensures.same c.requires.some in
    IfOk-weaker c.made.result _ _ (λ m is. subst (IsOver c.args.a.now c.args.b.now) (sym is) (rw (c.deref.ensures.value, c.deref-2.ensures.value) over)) c.made.ensures

pub returns-clause-roots : goal.returns-clause-roots
returns-clause-roots c n roots =
    let arranged = roots_arranged c.args.a.now c.args.b.now (whole_of c.args.self) c.requires.joined c.arrange.new.moves.items c.arrange.ensures.rising c.arrange.ensures.same n roots in
    IfOk-weaker c.made.result _ _ (λ m is. subst (HaveRoots n (start_count c.args.a.now c.args.b.now)) (sym is) (rw (c.deref.ensures.value, c.deref-2.ensures.value) arranged)) c.made.ensures

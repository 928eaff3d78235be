use Rattle.std.proofs.Common.{refl}
use Rattle.ctl_text.proofs.Options.{untrue-false}
use Rattle.ctl_text.proofs.CauseRows.{join_other, join_free}
use Rattle.ctl_text.proofs.graph_cause.join_cause.Goals as goal

pub returns-then-not-are_of_kind-clause-some : goal.returns-then-not-are_of_kind-clause-some
returns-then-not-are_of_kind-clause-some c =
    let none = rw c.most_neighbours.ensures at c.in_default.ensures.none in
    let other = rw (c.as_slice.ensures, c.kinds.ensures) at (untrue-false c.if-not-are_of_kind.ensures.1) in join_other _ _ _ _ _ _ _ c.if-p-q.false (untrue-false c.if-are_joined.ensures.1) none other

pub returns-clause-none : goal.returns-clause-none
returns-clause-none c =
    let none = rw c.most_neighbours.ensures at c.in_default.ensures.none in
    let same = rw (c.as_slice.ensures, c.kinds.ensures) at (c.if-not-are_of_kind.ensures.0 refl) in join_free _ _ _ _ _ _ _ c.if-p-q.false (untrue-false c.if-are_joined.ensures.1) none same

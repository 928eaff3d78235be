use Rattle.pair_structure.proofs.RoleFaultLaws.{none_before_ArcTwice, none_before_NoArc, first_ArcTwice, first_NoArc, AreLawful-from_NoneBefore}
use Rattle.pair_structure.proofs.role_fault.fault_of_arcs.Goals as goal

pub returns-in-Some-first_repeated_arc : goal.returns-in-Some-first_repeated_arc
returns-in-Some-first_repeated_arc c = λ starts before.
    let locals = c.args.locals.now in
    let arcs = c.args.arcs.now in
    let ends = none_before_ArcTwice locals starts arcs before c.if-arcs-gt-MAX_ARCS.false c.in_default.ensures c.in_default-first_self_arc.ensures in
    first_ArcTwice locals starts arcs c.in-Some-first_repeated_arc.arc ends c.in-Some-first_repeated_arc.ensures

pub returns-in-Some-first_never_left : goal.returns-in-Some-first_never_left
returns-in-Some-first_never_left c = λ starts before.
    let locals = c.args.locals.now in
    let arcs = c.args.arcs.now in
    let ends = none_before_ArcTwice locals starts arcs before c.if-arcs-gt-MAX_ARCS.false c.in_default.ensures c.in_default-first_self_arc.ensures in
    let leaves = none_before_NoArc locals starts arcs ends c.in_default-first_repeated_arc.ensures in
    first_NoArc locals starts arcs c.in-Some-first_never_left.local leaves c.in-Some-first_never_left.ensures.least

pub returns : goal.returns
returns c = λ starts before.
    let locals = c.args.locals.now in
    let arcs = c.args.arcs.now in
    let ends = none_before_ArcTwice locals starts arcs before c.if-arcs-gt-MAX_ARCS.false c.in_default.ensures c.in_default-first_self_arc.ensures in
    let leaves = none_before_NoArc locals starts arcs ends c.in_default-first_repeated_arc.ensures in
    AreLawful-from_NoneBefore locals starts arcs leaves c.in_default-first_never_left.ensures.none

use Rattle.std.proofs.Common.{◌≡◌, ◌∙◌, sym, subst, ap, map}
use Rattle.pair_structure.specs.Structure.{Structure, GoesOn, IsRising, label_at}
use Rattle.pair_quotient.specs.Quotient.{IsQuotient}
use Rattle.pair_quotient.proofs.QuotientParts.{AreMade, GoesOn-quotient, IsQuotient-from}
use Rattle.pair_quotient.proofs.quotient.quotient.Goals as goal

pub of-requires-clause-goes_on : goal.of-requires-clause-goes_on
of-requires-clause-goes_on c =
    let n = c.in_ok-numbering.numbering in
    let labels : c.deref-3.result.now ≡ map (label_at c.args.m.now.states) c.in_ok-numbering.numbering.lowest.items = c.deref-3.ensures.value ∙ c.in_ok-states.ensures ∙ ap (λ l. map (label_at l) c.deref.result.now) c.states.ensures.states ∙ ap (λ l. map (label_at c.args.m.now.states) l) c.deref.ensures.value in
    let made : AreMade c.args.m.now c.in_ok-numbering.numbering.classes.items c.deref-4.result.now = rw c.deref-4.ensures.value (subst (λ l. AreMade c.args.m.now l c.in_ok-moves.moves.items) c.deref-2.ensures.value c.in_ok-moves.ensures.made) in
    GoesOn-quotient c.args.m.now c.states.ensures.goes_on c.args.blocks.now n.classes.items n.lowest.items c.requires.stable.partition.long c.in_ok-numbering.ensures _ labels _ made

pub returns-clause-quotient : goal.returns-clause-quotient
returns-clause-quotient c =
    let n = c.in_ok-numbering.numbering in
    let labels : c.deref-3.result.now ≡ map (label_at c.args.m.now.states) c.in_ok-numbering.numbering.lowest.items = c.deref-3.ensures.value ∙ c.in_ok-states.ensures ∙ ap (λ l. map (label_at l) c.deref.result.now) c.states.ensures.states ∙ ap (λ l. map (label_at c.args.m.now.states) l) c.deref.ensures.value in
    let made : AreMade c.args.m.now c.in_ok-numbering.numbering.classes.items c.deref-4.result.now = rw c.deref-4.ensures.value (subst (λ l. AreMade c.args.m.now l c.in_ok-moves.moves.items) c.deref-2.ensures.value c.in_ok-moves.ensures.made) in
    (n.classes.items, subst (IsQuotient c.args.m.now n.classes.items) (sym c.in_ok-q.ensures) (IsQuotient-from c.args.m.now c.states.ensures.goes_on c.args.blocks.now n.classes.items n.lowest.items c.requires.stable c.in_ok-numbering.ensures _ labels _ made))

pub returns-clause-goes_on : goal.returns-clause-goes_on
returns-clause-goes_on c =
    let n = c.in_ok-numbering.numbering in
    let labels : c.deref-3.result.now ≡ map (label_at c.args.m.now.states) c.in_ok-numbering.numbering.lowest.items = c.deref-3.ensures.value ∙ c.in_ok-states.ensures ∙ ap (λ l. map (label_at l) c.deref.result.now) c.states.ensures.states ∙ ap (λ l. map (label_at c.args.m.now.states) l) c.deref.ensures.value in
    let made : AreMade c.args.m.now c.in_ok-numbering.numbering.classes.items c.deref-4.result.now = rw c.deref-4.ensures.value (subst (λ l. AreMade c.args.m.now l c.in_ok-moves.moves.items) c.deref-2.ensures.value c.in_ok-moves.ensures.made) in
    let on = GoesOn-quotient c.args.m.now c.states.ensures.goes_on c.args.blocks.now n.classes.items n.lowest.items c.requires.stable.partition.long c.in_ok-numbering.ensures _ labels _ made in
    let rising : IsRising c.deref-4.result.now = subst IsRising (sym c.deref-4.ensures.value) c.in_ok-moves.ensures.rising in
    (c.states.ensures.goes_on, subst GoesOn (sym c.in_ok-q.ensures) on, subst IsRising (ap (λ (q : Structure). q.moves) (sym c.in_ok-q.ensures)) rising)

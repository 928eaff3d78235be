use Rattle.std.proofs.Common.{◌≡◌, ◌∙◌, arith, refl, subst, sym, Contains}
use Rattle.waitfor_check.specs.inside.ShapeKeys.{key_of}
use Rattle.waitfor_check.proofs.Visits.{all_found, next_reached, none_left}
use Rattle.waitfor_check.proofs.shape_index.walk_shapes.Goals as goal

pub returns-then-not-has_numbers : goal.returns-then-not-has_numbers
returns-then-not-has_numbers c =
    let key : c.as_slice.result.now ≡ key_of c.loop.shape = c.as_slice.ensures ∙ c.in_ok-key.ensures in
    (λ never. cc, λ all. c.if-not-has_numbers.ensures.1 (subst (Contains c.args.keys.now) (sym key) (all c.loop.shape c.loop.invariant.is)))

pub returns-then-not-next_shape : goal.returns-then-not-next_shape
returns-then-not-next_shape c =
    let key : c.as_slice.result.now ≡ key_of c.loop.shape = c.as_slice.ensures ∙ c.in_ok-key.ensures in
    let has = subst (Contains c.args.keys.now) key (c.if-not-has_numbers.ensures.0 refl) in
    (λ found. all_found c.args.network.now c.args.k c.args.keys.now c.loop.shape c.loop.counter c.loop.invariant has (c.if-not-next_shape.ensures.last refl), λ all. refl)

pub loop-preserved : goal.loop-preserved
loop-preserved c =
    let key : c.as_slice.result.now ≡ key_of c.loop.shape = c.as_slice.ensures ∙ c.in_ok-key.ensures in
    let has = subst (Contains c.args.keys.now) key (c.if-not-has_numbers.ensures.0 refl) in
    next_reached c.args.network.now c.args.k c.args.keys.now c.loop.shape c.next_shape.new.shape c.loop.counter c.loop.invariant has (c.if-not-next_shape.ensures.next refl)

pub returns : goal.returns
returns c = (λ never. cc, λ all. absurd (none_left c.args.network.now c.args.k c.args.keys.now c.loop.shape c.loop.counter c.loop.invariant (omega (arith, c.loop-test.false)) all))

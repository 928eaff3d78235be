use Rattle.certificate_text.proofs.ShapeBars.{shape_free}
use Rattle.certificate_text.proofs.shape.check_shape.Goals as goal

pub returns-clause-free : goal.returns-clause-free
returns-clause-free c =
    shape_free c.args.system.now c.args.made.now c.args.shape.now (λ again. let t = c.in_ok-is_again.ensures.1 again in let f = c.if-branch.false in cc) (c.match_role.ensures.0 c.if-not-match_role.false) (c.labels_rise.ensures.0 c.if-not-labels_rise.false)

use Rattle.certificate_text.proofs.ShapeBars.{star_bad, star_free}
use Rattle.certificate_text.proofs.shape.opened.Goals as goal

pub returns-in-Ok-clause-free : goal.returns-in-Ok-clause-free
returns-in-Ok-clause-free c = star_free c.args.spec.now c.args.system.now c.args.made.now c.args.role.now _ c.in_ok-shape.ensures.known _ c.in_ok-shape.ensures.shape c.in-Ok.ensures.free

pub returns-in-Err-clause-refused : goal.returns-in-Err-clause-refused
returns-in-Err-clause-refused c = star_bad c.args.spec.now c.args.system.now c.args.made.now c.args.role.now _ c.in_ok-shape.ensures.known _ c.in-Err.fault c.in_ok-shape.ensures.shape c.in-Err.ensures.refused

use Rattle.certificate_text.proofs.shape.is_again.Goals as goal

pub returns : goal.returns
returns c = (λ yes. (c.labels_rise.ensures.0 c.if-not-labels_rise.false, c.in_ok-has.ensures.0 yes), λ again. c.in_ok-has.ensures.1 again.1)

use Rattle.std.proofs.Common.{refl, sym, ap, ◌∙◌}
use Rattle.strict_text.specs.Spaced.{spaced}
use Rattle.strict_text.proofs.WordLaws.{one_line}
use Rattle.certificate_text.proofs.item.is_one.Goals as goal

pub returns : goal.returns
returns c = (λ yes. rw (c.is_one_text.ensures.0 yes) refl, λ e. c.is_one_text.ensures.1 (sym (one_line c.args.rest.now) ∙ ap spaced e))

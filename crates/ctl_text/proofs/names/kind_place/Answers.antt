use Rattle.std.proofs.Common.{sym, ◌∙◌}
use Rattle.ctl_form.specs.declared.pair_spec.PairSpec.{PairSpec}
use Rattle.ctl_text.proofs.Named.{position-names}
use Rattle.ctl_text.proofs.names.kind_place.Goals as goal

pub returns-clause-number : goal.returns-clause-number
returns-clause-number c = c.find_kind.ensures.number ∙ sym (position-names (λ (k : PairSpec). k.name) c.args.kinds.now c.args.name.now)

use Rattle.std.proofs.Common.{sym, ◌∙◌}
use Rattle.interconnection.specs.declared.parts.Process.{Process}
use Rattle.ctl_text.proofs.Named.{position-names}
use Rattle.ctl_text.proofs.names.process_place.Goals as goal

pub returns-clause-number : goal.returns-clause-number
returns-clause-number c = c.find.ensures.number ∙ sym (position-names (λ (p : Process). p.name) c.args.processes.now c.args.name.now)

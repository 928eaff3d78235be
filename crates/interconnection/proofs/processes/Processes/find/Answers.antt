use Rattle.std.proofs.Common.{◌≡◌, List, [], position, subst, ◌∙◌}
use Rattle.std.specs.Str.{bytes_eq}
use Rattle.interconnection.specs.declared.parts.Process.{Process}
use Rattle.interconnection.proofs.ProcessNumberLaws.{number_within}
use Rattle.interconnection.proofs.processes.Processes.find.Goals as goal

pub returns-clause-number : goal.returns-clause-number
returns-clause-number c =
    subst (λ (processes : List Process). c.copied.result ≡ position (λ p. bytes_eq p.name c.args.name.now) processes) c.self.view_is (c.copied.ensures ∙ c.get.ensures.value ∙ c.self.invariant c.args.name.now)

pub returns-clause-within : goal.returns-clause-within
returns-clause-within c = number_within (λ (p : Process). bytes_eq p.name c.args.name.now) c.args.self.now (record { name = []; role = 0; start = 0 }) c.copied.result (returns-clause-number c)

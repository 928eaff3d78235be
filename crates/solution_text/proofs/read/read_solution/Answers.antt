use Rattle.std.proofs.Common.{ℕ, ◌≡◌, List, ap, ◌∙◌, subst}
use Rattle.pair_structure.specs.Role.{RoleParts}
use Rattle.ctl_form.specs.declared.pair_spec.PairSpec.{PairSpec}
use Rattle.pair_structure.specs.Structure.{Structure}
use Rattle.interconnection.specs.Network.{NetworkParts}
use Rattle.text_cause.proofs.TextLaws.{one_value, never_both, memory_only, fault_only}
use Rattle.solution_text.specs.State.{first_state}
use Rattle.solution_text.specs.Text.{IsSolutionText, solutions}
use Rattle.solution_text.proofs.OneText.{text_over}
use Rattle.solution_text.proofs.TextLaws.{solutions_lawful}
use Rattle.solution_text.proofs.read.read_solution.Goals as goal

text_along : (roles others : List RoleParts) (kinds more : List PairSpec) (bytes : List ℕ) (v : List Structure) → roles ≡ others → kinds ≡ more → IsSolutionText roles kinds bytes v → IsSolutionText others more bytes v
text_along roles others kinds more bytes v same also text = subst (λ k. IsSolutionText others k bytes v) also (subst (λ r. IsSolutionText r kinds bytes v) same text)

pub make-requires : goal.make-requires
make-requires c =
    let roles = c.roles.ensures.roles ∙ ap (λ (n : NetworkParts). n.roles) c.network.ensures.network in
    text_over c.args.spec.now.roles c.args.spec.now.kinds c.args.bytes.now c.in-Ok.structures.items (text_along c.roles.result.now c.args.spec.now.roles c.kinds.result.now c.args.spec.now.kinds c.args.bytes.now c.in-Ok.structures.items roles c.kinds.ensures.kinds c.in-Ok.ensures.text)

pub returns-in-Ok-clause-over : goal.returns-in-Ok-clause-over
returns-in-Ok-clause-over c =
    let roles = c.roles.ensures.roles ∙ ap (λ (n : NetworkParts). n.roles) c.network.ensures.network in
    rw c.make.ensures (text_over c.args.spec.now.roles c.args.spec.now.kinds c.args.bytes.now c.in-Ok.structures.items (text_along c.roles.result.now c.args.spec.now.roles c.kinds.result.now c.args.spec.now.kinds c.args.bytes.now c.in-Ok.structures.items roles c.kinds.ensures.kinds c.in-Ok.ensures.text))

pub returns-in-Ok-clause-only : goal.returns-in-Ok-clause-only
returns-in-Ok-clause-only c =
    let roles = c.roles.ensures.roles ∙ ap (λ (n : NetworkParts). n.roles) c.network.ensures.network in
    let text = text_along c.roles.result.now c.args.spec.now.roles c.kinds.result.now c.args.spec.now.kinds c.args.bytes.now c.in-Ok.structures.items roles c.kinds.ensures.kinds c.in-Ok.ensures.text in
    λ v other. c.make.ensures ∙ one_value (solutions c.args.spec.now.roles) (solutions_lawful c.args.spec.now.roles) (first_state c.args.spec.now.kinds) c.args.bytes.now c.in-Ok.structures.items v text other

pub returns-in-Ok-clause-refused_only : goal.returns-in-Ok-clause-refused_only
returns-in-Ok-clause-refused_only c =
    let roles = c.roles.ensures.roles ∙ ap (λ (n : NetworkParts). n.roles) c.network.ensures.network in
    let text = text_along c.roles.result.now c.args.spec.now.roles c.kinds.result.now c.args.spec.now.kinds c.args.bytes.now c.in-Ok.structures.items roles c.kinds.ensures.kinds c.in-Ok.ensures.text in
    λ at cause h. never_both (solutions c.args.spec.now.roles) (solutions_lawful c.args.spec.now.roles) (first_state c.args.spec.now.kinds) c.args.bytes.now c.in-Ok.structures.items at cause text h

pub returns-in-Err-clause-only : goal.returns-in-Err-clause-only
returns-in-Err-clause-only c =
    let roles = c.roles.ensures.roles ∙ ap (λ (n : NetworkParts). n.roles) c.network.ensures.network in
    memory_only (solutions c.args.spec.now.roles) (solutions_lawful c.args.spec.now.roles) (first_state c.args.spec.now.kinds) c.args.bytes.now c.in-Err.fault (rw (roles, c.kinds.ensures.kinds) at c.in-Err.ensures.refused)

pub returns-in-Err-clause-refused_only : goal.returns-in-Err-clause-refused_only
returns-in-Err-clause-refused_only c =
    let roles = c.roles.ensures.roles ∙ ap (λ (n : NetworkParts). n.roles) c.network.ensures.network in
    fault_only (solutions c.args.spec.now.roles) (solutions_lawful c.args.spec.now.roles) (first_state c.args.spec.now.kinds) c.args.bytes.now c.in-Err.fault (rw (roles, c.kinds.ensures.kinds) at c.in-Err.ensures.refused)

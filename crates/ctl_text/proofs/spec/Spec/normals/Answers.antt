use Rattle.std.proofs.Common.{◌≡◌, length, ap, ◌∙◌, subst}
use Rattle.ctl_text.specs.Value.{SpecParts}
use Rattle.ctl_text.proofs.NormalsKept.{normals_count}
use Rattle.ctl_text.proofs.spec.Spec.normals.Goals as goal

pub returns-clause-each : goal.returns-clause-each
returns-clause-each c =
    subst (λ (s : SpecParts). length c.deref.result.now ≡ length s.kinds) c.self.view_is
    (ap length c.deref.ensures.value ∙ normals_count c.self.inside.network.roles c.self.inside.kinds.items c.self.inside.normals.items c.self.invariant.2)

use Rattle.std.proofs.Common.{sym, refl, ◌∙◌, ap}
use Rattle.std.specs.Option.{unwrap_or}
use Rattle.pair_structure.specs.Role.{RoleParts}
use Rattle.ctl_text.proofs.Named.{found-Contains, position-names}
use Rattle.certificate_text.proofs.shape.role_number.Goals as goal

pub returns-in-Some-clause-number : goal.returns-in-Some-clause-number
returns-in-Some-clause-number c = ap (λ n. unwrap_or n 0) (c.in-Some.ensures.number ∙ sym (position-names (λ (x : RoleParts). x.name) c.args.roles.now c.args.name.now))

pub returns-in-Some-clause-some : goal.returns-in-Some-clause-some
returns-in-Some-clause-some c = (found-Contains _ c.args.name.now _ (position-names (λ (x : RoleParts). x.name) c.args.roles.now c.args.name.now ∙ sym c.in-Some.ensures.number)).0 refl

pub returns-in-None-clause-none : goal.returns-in-None-clause-none
returns-in-None-clause-none c = λ there. let t = (found-Contains _ c.args.name.now _ (position-names (λ (x : RoleParts). x.name) c.args.roles.now c.args.name.now ∙ sym c.in-None.ensures.number)).1 there in cc

use Rattle.std.proofs.Common.{List, subst, ◌↔◌, IsTrue}
use Rattle.waitfor_check.specs.Accepted.{HasShape}
use Rattle.waitfor_check.specs.declared.star.Star.{Star}
use Rattle.certificate_text.proofs.stars.Stars.has.Goals as goal

pub returns : goal.returns
returns c =
    let found : IsTrue c.contains.result ↔ HasShape c.self.inside.list.items c.args.shape.now = rw (c.contains.ensures, c.as_slice.ensures.value, c.in_ok-key.ensures) (c.self.invariant c.args.shape.now) in
    subst (λ (stars : List Star). IsTrue c.contains.result ↔ HasShape stars c.args.shape.now) c.self.view_is found

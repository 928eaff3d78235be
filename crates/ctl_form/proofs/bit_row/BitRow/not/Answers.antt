use Rattle.std.proofs.Common.{subst}
use Rattle.ctl_form.specs.BitRow.{AreFlipped}
use Rattle.ctl_form.proofs.Bits.{IsRowOf-flipped}
use Rattle.ctl_form.proofs.bit_row.BitRow.not.Goals as goal

pub returns : goal.returns
returns c = IsRowOf-flipped _ _ _ _ c.self.view_is c.self.invariant (subst (λ words. AreFlipped words c.in_ok-flipped.field-0.items) c.deref.ensures.value c.in_ok-flipped.ensures)

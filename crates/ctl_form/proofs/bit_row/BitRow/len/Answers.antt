use Rattle.std.proofs.Common.{sym}
use Rattle.ctl_form.proofs.Bits.{length_held}
use Rattle.ctl_form.proofs.bit_row.BitRow.len.Goals as goal

pub returns : goal.returns
returns c = sym (length_held _ _ _ c.self.view_is)

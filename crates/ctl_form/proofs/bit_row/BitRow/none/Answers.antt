use Rattle.std.proofs.Common.{◌+◌, ◌/◌, false, arith}
use Rattle.std.proofs.lemmas.List.{get_or-replicate, length-replicate}
use Rattle.ctl_form.proofs.Bits.{row_of-zeros}
use Rattle.ctl_form.proofs.Rows.{IsRowOf-none}
use Rattle.ctl_form.proofs.bit_row.BitRow.none.Goals as goal

pub returns : goal.returns
returns c = rw (c.in_ok-zeros.ensures, row_of-zeros c.args.states (c.args.states / 64 + 1) (omega arith)) (IsRowOf-none _ _ (length-replicate c.args.states false) (λ s lt. get_or-replicate c.args.states s false false lt))

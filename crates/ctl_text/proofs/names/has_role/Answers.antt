use Rattle.std.proofs.Common.{sym}
use Rattle.ctl_text.proofs.Named.{found-Contains}
use Rattle.ctl_text.proofs.names.has_role.Goals as goal

pub returns : goal.returns
returns c = rw c.is_some.ensures (found-Contains _ _ c.role_place.result (sym c.role_place.ensures.number))

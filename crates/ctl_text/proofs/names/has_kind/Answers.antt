use Rattle.std.proofs.Common.{sym}
use Rattle.ctl_text.proofs.Named.{found-Contains}
use Rattle.ctl_text.proofs.names.has_kind.Goals as goal

pub returns : goal.returns
returns c = rw c.is_some.ensures (found-Contains _ _ c.kind_place.result (sym c.kind_place.ensures.number))

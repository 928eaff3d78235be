use Rattle.ctl_text.proofs.NormalsKept.{none_kept}
use Rattle.ctl_text.proofs.pairs.Pairs.new.Goals as goal

pub invariant_of-result : goal.invariant_of-result
invariant_of-result c = none_kept _ _ _ c.new-2.ensures.items c.new-3.ensures.items

use Rattle.ctl_text.proofs.NormalsKept.{role_kept}
use Rattle.ctl_text.proofs.pairs.Pairs.with_role.Goals as goal

pub invariant_of-result : goal.invariant_of-result
invariant_of-result c = rw c.in_ok-push.ensures.items (role_kept _ _ _ c.args.role c.self.invariant)

use Rattle.std.proofs.Common.{Bor, List, ℕ}
use Rattle.ctl_text.specs.Cause.{IsUnknown}
use Rattle.ctl_text.proofs.MemberLists.{any_map}
use Rattle.ctl_text.proofs.set_cause.has_unknown.Goals as goal

pub returns : goal.returns
returns c = any_map {X = Bor (List ℕ)} (IsUnknown c.args.names.now) (λ m. m.now) c.args.members.now c.any_unknown.ensures

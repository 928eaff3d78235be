use Rattle.formula_text.specs.Sets.{SetParts}
use Rattle.ctl_text.proofs.MemberLists.{contains_map}
use Rattle.ctl_text.proofs.set_cause.has_set.Goals as goal

pub returns : goal.returns
returns c = contains_map (λ (s : SetParts). s.name) c.args.sets.now c.args.name.now c.any_set.ensures

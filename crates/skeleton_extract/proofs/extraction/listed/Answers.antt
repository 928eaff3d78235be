use Rattle.std.proofs.Common.{ap, length, subst, sym, ◌∙◌}
use Rattle.skeleton_extract.specs.inside.Gathered.{AreArranged}
use Rattle.skeleton_extract.proofs.Gathering.{AreListed-from_arranged}
use Rattle.skeleton_extract.proofs.extraction.listed.Goals as goal

pub returns : goal.returns
returns c = AreListed-from_arranged c.args.m.now c.args.side c.args.role.now.arcs c.in_ok-lists.lists c.arrange.new.lists c.in_ok-lists.ensures (subst (λ n. AreArranged n c.in_ok-lists.lists c.arrange.new.lists) (ap length c.arcs.ensures ∙ sym c.in_ok-lists.ensures.count) c.arrange.ensures)

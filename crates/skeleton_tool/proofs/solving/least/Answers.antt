use Rattle.skeleton_tool.proofs.solving.least.Goals as goal

pub returns : goal.returns
returns c = let h = c.in_ok-q.ensures in (h.starts c.args.a.now c.args.b.now c.tell_role.ensures c.tell_role-2.ensures c.requires, h.shrunk)

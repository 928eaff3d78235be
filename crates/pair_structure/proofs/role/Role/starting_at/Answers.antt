use Rattle.pair_structure.specs.inside.Starts.{starts_of}
use Rattle.pair_structure.proofs.OneStart.{starting_is_role}
use Rattle.pair_structure.proofs.role.Role.starting_at.Goals as goal

pub invariant_of-result : goal.invariant_of-result
invariant_of-result c =
    rw (c.in_ok-copies_of.ensures, c.in_ok-from_slice.ensures.items, c.deref.ensures.value, c.deref-2.ensures.value)
    (starting_is_role c.self.inside.locals.items (starts_of c.self.inside.starts) c.self.inside.arcs.items c.args.start c.self.invariant (rw (← c.self.view_is) at c.requires))

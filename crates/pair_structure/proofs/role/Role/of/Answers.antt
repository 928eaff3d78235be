use Rattle.pair_structure.specs.inside.Starts.{starts_of}
use Rattle.pair_structure.proofs.RoleFaultLaws.{none_stands-from_AreLawful}
use Rattle.pair_structure.proofs.role.Role.of.Goals as goal

pub returns-in-Some-clause-accepts : goal.returns-in-Some-clause-accepts
returns-in-Some-clause-accepts c = λ lawful.
    let first = rw (c.deref.ensures.value, c.as_slice.ensures, c.deref-2.ensures.value) at c.in-Some.ensures in
    absurd (none_stands-from_AreLawful c.args.locals.items (starts_of c.args.starts) c.args.arcs.items lawful c.in-Some.fault first.stands)

use Rattle.std.proofs.Common.{sym, ◌∙◌, ◌<◌, arith}
use Rattle.pair_structure.specs.declared.side.Side.TheVariants.{A, B}
use Rattle.ctl_form.specs.declared.part.Part.TheVariants.{Both, Either, Until}
use Rattle.closure_sets.specs.ClosureParts.{count}
use Rattle.closure_sets.proofs.MarkLaws.{below_of}
use Rattle.closure_sets.proofs.ways.ways_of.Goals as goal

pub with-requires : goal.with-requires
with-requires c =
    let below : (c.in-Both.f < count c.args.c.now) × (c.in-Both.g < count c.args.c.now) = below_of c.args.c.now c.tell_members.ensures c.args.member (Both c.in-Both.f c.in-Both.g) c.requires.member (sym c.part.ensures ∙ c.in-Both.is) in
    let few = c.tell_members.ensures.numbering.few in
    omega (arith, below.0, few)

pub with-requires-in-Both : goal.with-requires-in-Both
with-requires-in-Both c =
    let below : (c.in-Both.f < count c.args.c.now) × (c.in-Both.g < count c.args.c.now) = below_of c.args.c.now c.tell_members.ensures c.args.member (Both c.in-Both.f c.in-Both.g) c.requires.member (sym c.part.ensures ∙ c.in-Both.is) in
    let few = c.tell_members.ensures.numbering.few in
    omega (arith, below.1, few)

pub either_ways-requires-clause-f : goal.either_ways-requires-clause-f
either_ways-requires-clause-f c = (below_of c.args.c.now c.tell_members.ensures c.args.member (Either c.in-Either.f c.in-Either.g) c.requires.member (sym c.part.ensures ∙ c.in-Either.is)).0

pub either_ways-requires-clause-g : goal.either_ways-requires-clause-g
either_ways-requires-clause-g c = (below_of c.args.c.now c.tell_members.ensures c.args.member (Either c.in-Either.f c.in-Either.g) c.requires.member (sym c.part.ensures ∙ c.in-Either.is)).1

pub either_ways-requires-clause-few : goal.either_ways-requires-clause-few
either_ways-requires-clause-few c = c.tell_members.ensures.numbering.few

pub until_ways-requires-clause-f : goal.until_ways-requires-clause-f
until_ways-requires-clause-f c = (below_of c.args.c.now c.tell_members.ensures c.args.member (Until c.in-Until.all c.in-Until.weak c.in-Until.f c.in-Until.g) c.requires.member (sym c.part.ensures ∙ c.in-Until.is)).0

pub until_ways-requires-clause-g : goal.until_ways-requires-clause-g
until_ways-requires-clause-g c = (below_of c.args.c.now c.tell_members.ensures c.args.member (Until c.in-Until.all c.in-Until.weak c.in-Until.f c.in-Until.g) c.requires.member (sym c.part.ensures ∙ c.in-Until.is)).1

pub until_ways-requires-clause-few : goal.until_ways-requires-clause-few
until_ways-requires-clause-few c = c.tell_members.ensures.numbering.few

pub until_ways-requires-clause-after_a : goal.until_ways-requires-clause-after_a
until_ways-requires-clause-after_a c = (c.tell_members.ensures.nexts c.args.member c.in-Until.f c.in-Until.g c.in-Until.all c.in-Until.weak A c.requires.member (sym c.part.ensures ∙ c.in-Until.is)).0

pub until_ways-requires-clause-after_b : goal.until_ways-requires-clause-after_b
until_ways-requires-clause-after_b c = (c.tell_members.ensures.nexts c.args.member c.in-Until.f c.in-Until.g c.in-Until.all c.in-Until.weak B c.requires.member (sym c.part.ensures ∙ c.in-Until.is)).0

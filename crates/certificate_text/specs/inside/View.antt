-- What the program's values say, without where they lie in memory.
use Rattle.std.specs.Prelude.{}
use Rattle.certificate_text.specs.declared.reader.Place.{Place}
use Rattle.certificate_text.specs.declared.reader.Place.TheVariants.{BeforeHead, AmongStars, InStar, AfterDone}
use Rattle.certificate_text.specs.declared.reader.Reader.{Reader}
use Rattle.certificate_text.specs.State.{Group, before_head, among_stars, in_star, after_done, State as TextState}

abbrev pub group_of : Place → Group
group_of BeforeHead = before_head
group_of AmongStars = among_stars
group_of (InStar star) = in_star star.shape star.members
group_of AfterDone = after_done

abbrev pub state_of : Reader → TextState
state_of r = record { made = r.made; group = group_of r.place }

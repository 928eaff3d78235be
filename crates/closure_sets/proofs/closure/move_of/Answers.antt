use Rattle.closure_sets.proofs.Parts.{has_move}
use Rattle.closure_sets.proofs.closure.move_of.Goals as goal

pub member_with-requires : goal.member_with-requires
member_with-requires c = has_move c.args.form.now.parts c.args.form.now.roots c.tell_numbering.ensures.closed c.tell_numbering.ensures.numbering c.args.truth c.args.side c.requires.below c.requires.truth

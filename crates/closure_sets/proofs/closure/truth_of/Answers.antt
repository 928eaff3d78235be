use Rattle.closure_sets.proofs.Parts.{has_truth}
use Rattle.closure_sets.proofs.closure.truth_of.Goals as goal

pub member_with-requires : goal.member_with-requires
member_with-requires c = has_truth c.args.form.now.parts c.args.form.now.roots c.tell_numbering.ensures.closed c.tell_numbering.ensures.numbering

use Rattle.std.proofs.Common.{sym, ◌∙◌}
use Rattle.closure_sets.proofs.Parts.{until_next}
use Rattle.closure_sets.proofs.closure.next_of.Goals as goal

pub member_with-requires : goal.member_with-requires
member_with-requires c = until_next c.args.form.now.parts c.args.form.now.roots c.tell_numbering.ensures.closed c.tell_numbering.ensures.numbering c.args.member c.in-Until.f c.in-Until.g c.in-Until.all c.in-Until.weak c.args.side c.requires (sym c.part.ensures ∙ c.in-Until.is)

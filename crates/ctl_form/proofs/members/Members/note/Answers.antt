use Rattle.std.proofs.Common.{length, arith, ap}
use Rattle.ctl_form.proofs.MemberLaws.{numbered_found, numbered_added, over_added}
use Rattle.ctl_form.proofs.members.Members.note.Goals as goal

pub returns-in-Some : goal.returns-in-Some
returns-in-Some c = numbered_found c.args.self.now c.args.part c.in-Some.n c.find.ensures.numbering c.in-Some.ensures.found.0 c.in-Some.ensures.found.1

pub returns-then-parts-ge-MAX_MEMBERS : goal.returns-then-parts-ge-MAX_MEMBERS
returns-then-parts-ge-MAX_MEMBERS c = over_added c.args.self.now c.args.part c.find.ensures.numbering c.requires c.in_default.ensures.found (omega (arith, ap length c.parts.ensures.same))

pub returns : goal.returns
returns c = numbered_added c.args.self.now c.add.new.self c.args.part c.in_ok-n.n c.find.ensures.numbering c.requires c.in_default.ensures.found c.in_ok-n.ensures.number c.in_ok-n.ensures.added

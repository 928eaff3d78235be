use Rattle.std.proofs.Common.{List, subst, sym, ◌∙◌}
use Rattle.closure_sets.specs.Firsts.{IsNoted}
use Rattle.closure_sets.specs.Found.{sets_of}
use Rattle.closure_sets.specs.Row.{set_of}
use Rattle.closure_sets.specs.declared.row.Row.{Row}
use Rattle.closure_sets.proofs.FoundLaws.{noted_known, noted_new, found_push}
use Rattle.closure_sets.proofs.found.Found.note.Goals as goal

pub returns-then-contains : goal.returns-then-contains
returns-then-contains c = subst (λ (rows : List Row). IsNoted (sets_of rows) (set_of c.args.row.words) (sets_of rows)) c.self.view_is (noted_known c.self.inside.rows.items c.self.inside.known c.args.row c.self.invariant (sym c.contains.ensures ∙ c.if-contains.true))

pub invariant_of-self-in-Ok : goal.invariant_of-self-in-Ok
invariant_of-self-in-Ok c = found_push c.self.inside.rows.items c.push.new.self.items c.self.inside.known c.insert.new.self c.args.row c.self.invariant c.look.ensures c.in_ok-push.ensures.items c.in-Ok.ensures.updates.0

pub returns-in-Ok : goal.returns-in-Ok
returns-in-Ok c = subst (λ (rows : List Row). IsNoted (sets_of rows) (set_of c.args.row.words) (sets_of c.push.new.self.items)) c.self.view_is (noted_new c.self.inside.rows.items c.push.new.self.items c.self.inside.known c.args.row c.self.invariant c.look.ensures (sym c.contains.ensures ∙ c.if-contains.false) c.in_ok-push.ensures.items)

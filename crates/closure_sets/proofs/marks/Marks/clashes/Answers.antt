use Rattle.std.proofs.Common.{ap, ◌∙◌, is_some, Option, ℕ}
use Rattle.closure_sets.specs.Expansion.{lowest, is_shared}
use Rattle.closure_sets.specs.Row.{set_of}
use Rattle.closure_sets.proofs.MarkLaws.{clashes_is}
use Rattle.closure_sets.proofs.marks.Marks.clashes.Goals as goal

pub returns : goal.returns
returns c = c.is_some.ensures ∙ ap (λ (o : Option ℕ). is_some o) c.lowest_shared.ensures ∙ ap (λ (n : ℕ). is_some (lowest n (is_shared (set_of c.args.row.now.words) (set_of c.args.self.now.wrong.words)))) c.count.ensures.count ∙ clashes_is c.args.c.now (c.args.self.now.a, c.args.self.now.b) (set_of c.args.row.now.words) (set_of c.args.self.now.wrong.words) c.requires.marks.wrongs

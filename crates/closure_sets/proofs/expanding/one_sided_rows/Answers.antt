use Rattle.std.proofs.Common.{ℕ, [], Some, sym, ap, ◌∙◌}
use Rattle.pair_structure.specs.declared.side.Side.TheVariants.{A, B}
use Rattle.closure_sets.specs.Expansion.{expansion_along, one_sided}
use Rattle.closure_sets.specs.Firsts.{AreNoted}
use Rattle.closure_sets.specs.Found.{sets_of}
use Rattle.closure_sets.specs.Full.{IsExpansion}
use Rattle.closure_sets.specs.Row.{Members, set_of}
use Rattle.closure_sets.specs.declared.marks.Marks.{Marks}
use Rattle.closure_sets.proofs.Labels.{one_sided_is_full}
use Rattle.closure_sets.proofs.NotedLaws.{noted_along, noted_append, noted_firsts, each_of_noted}
use Rattle.closure_sets.proofs.expanding.one_sided_rows.Goals as goal

pub returns-clause-rows : goal.returns-clause-rows
returns-clause-rows c =
    let label : ℕ × ℕ = (c.args.a, c.args.b) in
    let seed : Members = set_of c.args.seed.now.words in
    let a = c.along-marks_a.ensures in
    let b = c.along-marks_b.ensures in
    let first : AreNoted (sets_of c.new-found.result) (expansion_along (Some A) c.args.c.now label seed) (sets_of c.expand.new.found) =
    noted_along c.args.c.now (Some A) c.along-marks_a.result.only c.args.a c.args.b c.along-marks_a.result.a c.along-marks_a.result.b c.count.result seed (set_of c.empty.result.words) (sets_of c.new-found.result) (sets_of c.expand.new.found) (ap (λ (m : Marks). m.only) a) (ap (λ (m : Marks). m.a) a ∙ c.in_ok-of.ensures.0) (ap (λ (m : Marks). m.b) a ∙ c.in_ok-of.ensures.1) c.count.ensures.count c.empty.ensures c.in_ok-expand.ensures in
    let second : AreNoted (sets_of c.expand.new.found) (expansion_along (Some B) c.args.c.now label seed) (sets_of c.expand-2.new.found) =
    noted_along c.args.c.now (Some B) c.along-marks_b.result.only c.args.a c.args.b c.along-marks_b.result.a c.along-marks_b.result.b c.count-2.result seed (set_of c.empty-2.result.words) (sets_of c.expand.new.found) (sets_of c.expand-2.new.found) (ap (λ (m : Marks). m.only) b) (ap (λ (m : Marks). m.a) b ∙ ap (λ (m : Marks). m.a) a ∙ c.in_ok-of.ensures.0) (ap (λ (m : Marks). m.b) b ∙ ap (λ (m : Marks). m.b) a ∙ c.in_ok-of.ensures.1) c.count-2.ensures.count c.empty-2.ensures c.in_ok-expand-2.ensures in
    noted_firsts (one_sided c.args.c.now label seed) (sets_of c.new-found.result) (sets_of c.expand-2.new.found) (sets_of c.into_rows.result.items) (ap sets_of c.new-found.ensures) (ap sets_of (sym c.into_rows.ensures))
    (noted_append (sets_of c.new-found.result) (sets_of c.expand.new.found) (sets_of c.expand-2.new.found) (expansion_along (Some A) c.args.c.now label seed) (expansion_along (Some B) c.args.c.now label seed) first second)

pub returns-clause-full : goal.returns-clause-full
returns-clause-full c =
    let label : ℕ × ℕ = (c.args.a, c.args.b) in
    let seed : Members = set_of c.args.seed.now.words in
    each_of_noted (IsExpansion c.args.c.now label seed) [] (one_sided c.args.c.now label seed) (sets_of c.into_rows.result.items) (returns-clause-rows c) tt (one_sided_is_full c.args.c.now label seed c.count.ensures.closure)

use Rattle.std.proofs.Common.{ℕ, [], None, sym, ap}
use Rattle.closure_sets.specs.Cover.{IsMetRow, IsTrueAt}
use Rattle.closure_sets.specs.Expansion.{expansion}
use Rattle.closure_sets.specs.Firsts.{AreFirsts}
use Rattle.closure_sets.specs.Found.{sets_of}
use Rattle.closure_sets.specs.Full.{IsExpansion}
use Rattle.closure_sets.specs.Row.{Members, set_of}
use Rattle.closure_sets.proofs.AtState.{expansion_covers}
use Rattle.closure_sets.proofs.Labels.{expansion_is_full}
use Rattle.closure_sets.proofs.NotedLaws.{noted_along, noted_firsts, each_of_noted, among_noted}
use Rattle.closure_sets.proofs.expanding.full_rows.Goals as goal

pub returns-clause-rows : goal.returns-clause-rows
returns-clause-rows c =
    let label : ℕ × ℕ = (c.args.a, c.args.b) in
    let seed : Members = set_of c.args.seed.now.words in
    noted_firsts (expansion c.args.c.now label seed) (sets_of c.new-found.result) (sets_of c.expand.new.found) (sets_of c.into_rows.result.items) (ap sets_of c.new-found.ensures) (ap sets_of (sym c.into_rows.ensures))
    (noted_along c.args.c.now None c.in_ok-marks.marks.only c.args.a c.args.b c.in_ok-marks.marks.a c.in_ok-marks.marks.b c.count.result seed (set_of c.empty.result.words) (sets_of c.new-found.result) (sets_of c.expand.new.found) c.in_ok-marks.ensures.2 c.in_ok-marks.ensures.0 c.in_ok-marks.ensures.1 c.count.ensures.count c.empty.ensures c.in_ok-expand.ensures)

pub returns-clause-full : goal.returns-clause-full
returns-clause-full c =
    let label : ℕ × ℕ = (c.args.a, c.args.b) in
    let seed : Members = set_of c.args.seed.now.words in
    each_of_noted (IsExpansion c.args.c.now label seed) [] (expansion c.args.c.now label seed) (sets_of c.into_rows.result.items) (returns-clause-rows c) tt (expansion_is_full c.args.c.now label seed c.count.ensures.closure)

pub returns-clause-cover : goal.returns-clause-cover
returns-clause-cover c =
    let label : ℕ × ℕ = (c.args.a, c.args.b) in
    let seed : Members = set_of c.args.seed.now.words in
    λ m on s lt labelled holds chosen lawful. among_noted (IsMetRow c.args.c.now chosen (IsTrueAt m c.args.c.now s)) [] (expansion c.args.c.now label seed) (sets_of c.into_rows.result.items) (returns-clause-rows c) (expansion_covers c.args.c.now label seed c.count.ensures.closure m on s lt labelled holds chosen lawful)

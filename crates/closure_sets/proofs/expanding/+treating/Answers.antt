use Rattle.std.proofs.Common.{ℕ, sym, ◌∙◌, ap, arith}
use Rattle.std.proofs.lemmas.Result.{on_ok_weaker}
use Rattle.closure_sets.specs.ClosureParts.{count}
use Rattle.closure_sets.specs.Expansion.{lowest, is_open, expand, clashes}
use Rattle.closure_sets.specs.Found.{sets_of}
use Rattle.closure_sets.specs.Label.{is_plain}
use Rattle.closure_sets.specs.Row.{set_of}
use Rattle.closure_sets.specs.inside.Ways.{ways_rows}
use Rattle.closure_sets.proofs.Lowest.{lowest_lt}
use Rattle.closure_sets.proofs.NotedLaws.{expand_noted, way_noted, ways_noted}
use Rattle.closure_sets.proofs.expanding.+treating.Goals as goal

pub expand-ways_of-ways-requires-clause-member : goal.expand-ways_of-ways-requires-clause-member
expand-ways_of-ways-requires-clause-member t c = lowest_lt (count c.args.c.now) (is_open (set_of c.args.row.words) (set_of c.args.treated.words)) c.in-Some.member (ap (λ n. lowest n (is_open (set_of c.args.row.words) (set_of c.args.treated.words))) (sym c.count.ensures.count) ∙ sym c.lowest_open.ensures ∙ c.in-Some.is)

pub expand-with-requires : goal.expand-with-requires
expand-with-requires t c =
    let lt = lowest_lt (count c.args.c.now) (is_open (set_of c.args.row.words) (set_of c.args.treated.words)) c.in-Some.member (ap (λ n. lowest n (is_open (set_of c.args.row.words) (set_of c.args.treated.words))) (sym c.count.ensures.count) ∙ sym c.lowest_open.ensures ∙ c.in-Some.is) in
    let few = c.count.ensures.closure.numbering.few in
    omega (arith, lt, few)

pub expand-returns : goal.expand-returns
expand-returns t c =
    let label : ℕ × ℕ = (c.args.marks.now.a, c.args.marks.now.b) in
    on_ok_weaker c.expand_each.result (expand_noted c.args.c.now c.args.marks.now.only (is_plain c.args.c.now label) (clashes c.args.c.now label) c.args.left (set_of c.args.row.words) (set_of c.args.treated.words) (set_of c.with.result.words) c.in-Some.member (ways_rows c.ways_of-ways.result) (sets_of c.args.found.now) (sets_of c.expand_each.new.found)
    (sym c.clashes.ensures ∙ c.if-clashes.false) c.if-left-eq0.false (ap (λ n. lowest n (is_open (set_of c.args.row.words) (set_of c.args.treated.words))) (sym c.count.ensures.count) ∙ sym c.lowest_open.ensures ∙ c.in-Some.is)
    c.with.ensures c.ways_of-ways.ensures) c.expand_each.ensures

pub expand_each-returns : goal.expand_each-returns
expand_each-returns t c =
    let label : ℕ × ℕ = (c.args.marks.now.a, c.args.marks.now.b) in
    on_ok_weaker c.expand_way-2.result (ways_noted (λ r. expand c.args.c.now c.args.marks.now.only (is_plain c.args.c.now label) (clashes c.args.c.now label) c.args.left r (set_of c.args.treated.words)) c.args.ways (sets_of c.args.found.now) (sets_of c.expand.new.found) (sets_of c.expand_way.new.found) (sets_of c.expand_way-2.new.found) c.in_ok-expand.ensures c.in_ok-expand_way.ensures) c.expand_way-2.ensures

pub expand_way-returns : goal.expand_way-returns
expand_way-returns t c =
    let label : ℕ × ℕ = (c.args.marks.now.a, c.args.marks.now.b) in
    on_ok_weaker c.expand.result (way_noted (λ r. expand c.args.c.now c.args.marks.now.only (is_plain c.args.c.now label) (clashes c.args.c.now label) c.args.left r (set_of c.args.treated.words)) c.args.way c.in-Some.row (sets_of c.args.found.now) (sets_of c.expand.new.found) c.in-Some.is) c.expand.ensures

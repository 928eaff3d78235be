use Rattle.std.proofs.Common.{Bool, ap, sym, ◌∙◌, ◌≡◌, false}
use Rattle.closure_sets.specs.Label.{part_of}
use Rattle.closure_sets.specs.Row.{set_of}
use Rattle.pair_structure.specs.declared.side.Side.{Side}
use Rattle.pair_structure.specs.declared.side.Side.TheVariants.{A, B}
use Rattle.ctl_form.specs.declared.part.Part.TheVariants.{Next}
use Rattle.tableau_graph.proofs.Carried.{next_found}
use Rattle.tableau_graph.proofs.successors.next_node.Goals as goal

pub returns-in-Next-false-A-default : goal.returns-in-Next-false-A-default
returns-in-Next-false-A-default c =
    let is : part_of c.args.c.now c.args.member ≡ Next false A c.in-Next-false-A-default.f = sym c.part.ensures ∙ c.in-Next-false-A-default.is ∙ ap (λ (x : Bool). Next x c.in-Next-false-A-default.side c.in-Next-false-A-default.f) c.in-Next-false-A-default.all-test ∙ ap (λ (s : Side). Next false s c.in-Next-false-A-default.f) c.in-Next-false-A-default.side-is in
    next_found c.args.c.now c.args.node.now c.args.member c.in-Next-false-A-default.f A (set_of c.args.carried_a.now.words) c.successor.result (sym c.has.ensures ∙ c.if-not-has.false) is c.requires.a c.successor.ensures.node c.successor.ensures.seed

pub returns-in-Next-false-B-default : goal.returns-in-Next-false-B-default
returns-in-Next-false-B-default c =
    let is : part_of c.args.c.now c.args.member ≡ Next false B c.in-Next-false-B-default.f = sym c.part.ensures ∙ c.in-Next-false-B-default.is ∙ ap (λ (x : Bool). Next x c.in-Next-false-B-default.side c.in-Next-false-B-default.f) c.in-Next-false-B-default.all-test ∙ ap (λ (s : Side). Next false s c.in-Next-false-B-default.f) c.in-Next-false-B-default.side-is in
    next_found c.args.c.now c.args.node.now c.args.member c.in-Next-false-B-default.f B (set_of c.args.carried_b.now.words) c.successor-in-Next-false-B-default.result (sym c.has.ensures ∙ c.if-not-has.false) is c.requires.b c.successor-in-Next-false-B-default.ensures.node c.successor-in-Next-false-B-default.ensures.seed

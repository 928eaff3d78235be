use Rattle.std.proofs.Common.{◌<◌, List, [], length, map, arith, sym, ◌∙◌, ap, subst}
use Rattle.std.proofs.lemmas.List.{length-map}
use Rattle.firing_words.specs.Hands.{view}
use Rattle.firing_words.specs.declared.view.View.{View}
use Rattle.firing_words.specs.Views.{callers_of}
use Rattle.firing_words.proofs.Lists.{first_of}
use Rattle.firing_hall.specs.inside.Taking.{AreTaken}
use Rattle.firing_journal.specs.declared.asked.Asked.{Asked}
use Rattle.firing_hall.proofs.Keeping.{one_caller}
use Rattle.firing_hall.proofs.Taking.{map-set, taken_first}
use Rattle.firing_hall.proofs.firing.Hall.begin.Goals as goal

pub prove-unreachable-requires : goal.prove-unreachable-requires
prove-unreachable-requires c =
    let sys = c.args.self.now.words.setting.system in
    let pass = c.args.pass in
    let one = one_caller sys (view pass.hand) pass.caller pass.asked.items c.requires.pass.told in
    let lt = c.tell.ensures.part.2.3 pass.caller (first_of pass.caller (callers_of (view pass.hand)) [] one) in
    omega (arith, lt, c.if-prove.true, c.requires.size)

pub returns-clause-callers : goal.returns-clause-callers
returns-clause-callers c =
    let pass = c.args.pass in
    ap callers_of c.tell.ensures.same.2 ∙ one_caller c.args.self.now.words.setting.system (view pass.hand) pass.caller pass.asked.items c.requires.pass.told

pub returns-clause-lists : goal.returns-clause-lists
returns-clause-lists c =
    let sys = c.args.self.now.words.setting.system in
    let pass = c.args.pass in
    let lists = map (λ x. x.items) c.args.lists.now in
    let lt : pass.caller < length lists = omega (arith, c.if-prove.false, length-map c.args.lists.now (λ x. x.items)) in
    let taken = taken_first sys (view pass.hand) pass.caller pass.asked.items lists c.requires.pass.told lt in
    subst (λ (q : View × List (List Asked)). AreTaken sys q.0 q.1) (λ i. (sym c.tell.ensures.same.2 i, sym (map-set (λ x. x.items) c.args.lists.now pass.caller pass.asked) i)) taken

pub returns-clause-placed : goal.returns-clause-placed
returns-clause-placed c = map-set (λ x. x.items) c.args.lists.now c.args.pass.caller c.args.pass.asked

use Rattle.std.proofs.Common.{ℕ, ◌≢◌, ◌<◌, List, length, map, arith, sym, ◌∙◌, ap, subst}
use Rattle.std.proofs.lemmas.List.{length-map}
use Rattle.firing_words.specs.declared.view.View.{View}
use Rattle.firing_words.specs.Lists.{InTurn}
use Rattle.firing_words.specs.Hands.{view}
use Rattle.firing_words.specs.Views.{callers_of}
use Rattle.firing_hall.specs.inside.Taking.{AreTaken}
use Rattle.firing_journal.specs.declared.asked.Asked.{Asked}
use Rattle.firing_hall.proofs.Taking.{callers_joined, last_in, map-set, not_yet, taken_more}
use Rattle.firing_hall.proofs.firing.Hall.take_in.Goals as goal

pub prove-unreachable-requires : goal.prove-unreachable-requires
prove-unreachable-requires c =
    let sys = c.args.self.now.words.setting.system in
    let pass = c.args.pass in
    let e = c.join.ensures in
    let lt = e.part.1.3 pass.caller (last_in sys (view c.args.main.now) (view pass.hand) (view c.join.new.hand) pass.caller pass.asked.items c.requires.pass.told e.joined) in
    omega (arith, lt, c.if-prove.true, c.requires.size)

pub returns-clause-callers : goal.returns-clause-callers
returns-clause-callers c = ap callers_of c.join.ensures.joined ∙ callers_joined c.args.self.now.words.setting.system (view c.args.main.now) (view c.args.pass.hand) c.args.pass.caller c.args.pass.asked.items c.requires.pass.told

pub returns-clause-lists : goal.returns-clause-lists
returns-clause-lists c =
    let sys = c.args.self.now.words.setting.system in
    let pass = c.args.pass in
    let v = view c.args.main.now in
    let w = view pass.hand in
    let e = c.join.ensures in
    let lists = map (λ x. x.items) c.args.lists.now in
    let apart = subst (λ (u : View). InTurn (λ (c d : ℕ). c ≢ d) (callers_of u)) e.joined e.part.1.2 in
    let lt : pass.caller < length lists = omega (arith, c.if-prove.false, length-map c.args.lists.now (λ x. x.items)) in
    let taken = taken_more sys v w pass.caller pass.asked.items lists c.requires.lists c.requires.pass.told apart lt in
    subst (λ (q : View × List (List Asked)). AreTaken sys q.0 q.1) (λ i. (sym e.joined i, sym (map-set (λ x. x.items) c.args.lists.now pass.caller pass.asked) i)) taken

pub returns-clause-placed : goal.returns-clause-placed
returns-clause-placed c = map-set (λ x. x.items) c.args.lists.now c.args.pass.caller c.args.pass.asked

pub returns-clause-apart : goal.returns-clause-apart
returns-clause-apart c =
    let pass = c.args.pass in
    let e = c.join.ensures in
    let apart = subst (λ (u : View). InTurn (λ (c d : ℕ). c ≢ d) (callers_of u)) e.joined e.part.1.2 in
    not_yet c.args.self.now.words.setting.system (view c.args.main.now) (view pass.hand) pass.caller pass.asked.items c.requires.pass.told apart

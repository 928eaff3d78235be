use Rattle.std.proofs.Common.{◌≡◌, length, arith}
use Rattle.std.proofs.lemmas.List.{with_items_is}
use Rattle.interconnection.specs.Shape.{labels_of}
use Rattle.interconnection.proofs.ShapeLaws.{among_sorted, last_shape_is, next_shape_is}
use Rattle.interconnection.proofs.network.Network.next_shape.Goals as goal

pub next_choice-requires-clause-choice : goal.next_choice-requires-clause-choice
next_choice-requires-clause-choice c =
    let is = rw (← c.shape.view_is) at c.requires.shape in
    rw c.deref_mut.ensures.value (among_sorted (labels_of c.args.self.now.edges c.args.k) c.labels.result.now c.shape.inside.leaves.items c.labels.ensures.same is.choice)

pub returns-clause-next : goal.returns-clause-next
returns-clause-next c = λ raised.
    let is = rw (← c.shape.view_is) at c.requires.shape in
    let found = rw c.deref_mut.ensures.value at (c.next_choice.ensures.next raised) in
    let size : length c.next_choice.new.leaves ≡ c.shape.inside.leaves.len = omega (arith, found.count) in
    rw (← c.shape.view_is, with_items_is c.shape.inside.leaves c.next_choice.new.leaves size) (next_shape_is c.args.self.now c.args.k c.labels.result.now c.next_choice.new.leaves _ c.labels.ensures.same is found)

pub returns-clause-last : goal.returns-clause-last
returns-clause-last c = λ stays.
    let is = rw (← c.shape.view_is) at c.requires.shape in
    let none = rw c.deref_mut.ensures.value at (c.next_choice.ensures.last stays) in
    rw (← c.shape.view_is) (last_shape_is c.args.self.now c.args.k c.labels.result.now _ c.labels.ensures.same is none)

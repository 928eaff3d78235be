use Rattle.std.proofs.Common.{ap}
use Rattle.pair_structure.specs.Role.{first_start}
use Rattle.tableau_graph.specs.Growing.{lists_of, parts_of}
use Rattle.tableau_graph.specs.TableauParts.{TableauParts}
use Rattle.tableau_graph.proofs.Ends.{pair_is}
use Rattle.tableau_graph.proofs.Roots.{root_follows, one_numbered}
use Rattle.tableau_graph.proofs.growing.Growing.start.Goals as goal

pub returns-clause-rules : goal.returns-clause-rules
returns-clause-rules c =
    let t : TableauParts = parts_of c.args.c.now c.args.a.now c.args.b.now (record { breadth = c.args.breadth; ands = c.new.result; ors = c.number.new.self; children = c.new-2.result; successors = c.new-3.result }) in
    let root = c.root_node.result in
    root_follows t c.tell_members.ensures c.tell_role.ensures c.tell_role-2.ensures c.requires.one_a c.requires.one_b c.new.ensures (ap lists_of c.new-2.ensures.items) (ap lists_of c.new-3.ensures.items) root
    (one_numbered c.new-ors.result root c.number.new.self c.in_ok-number.field-0 c.new-ors.ensures c.in_ok-number.ensures.number)
    (record { sided = c.root_node.ensures.side; origin = pair_is root.a root.b (first_start c.args.a.now) (first_start c.args.b.now) c.root_node.ensures.a c.root_node.ensures.b; seed = c.root_node.ensures.seed })

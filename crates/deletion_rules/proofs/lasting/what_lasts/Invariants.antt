use Rattle.std.proofs.Common.{◌≡◌, length}
use Rattle.tableau_graph.specs.Graph.{graph_of}
use Rattle.tableau_graph.specs.TableauParts.{IsWhole}
use Rattle.deletion_rules.specs.Marks.{lives_of, living_count}
use Rattle.deletion_rules.specs.Met.{MetLive}
use Rattle.deletion_rules.proofs.lasting.what_lasts.Given as goal

abbrev pub invariant-loop-lives : goal.invariant-loop-lives
invariant-loop-lives l = record {
  long : length l.lives.items ≡ length l.t.ands;
  met : IsWhole l.t → MetLive l.t.a l.t.b l.t.closure (graph_of l.t) (lives_of l.lives.items);
}

abbrev pub decreases-loop-lives : goal.decreases-loop-lives
decreases-loop-lives l = living_count l.lives.items

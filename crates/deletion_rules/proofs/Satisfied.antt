-- What is unravelled from a tableau satisfies the conjuncts, and from a kept set something is.
use Rattle.std.proofs.Common.{ℕ, ◌<◌, Contains, length, slice_index_or}
use Rattle.std.proofs.lemmas.List.Elements.{Contains-get_or}
use Rattle.pair_structure.specs.Structure.{Structure, IsOver}
use Rattle.ctl_form.specs.Truth.{Holds}
use Rattle.closure_sets.specs.Label.{form_of}
use Rattle.tableau_graph.specs.TableauParts.{TableauParts}
use Rattle.tableau_graph.specs.Graph.{graph_of}
use Rattle.tableau_graph.specs.Graph.{TableauIsGraph}
use Rattle.tableau_graph.proofs.Expanded.{tableau_follows_arcs, tableau_starts}
use Rattle.deletion_rules.specs.Satisfying.{UnravelledSatisfies, KeptIsSatisfiable}
use Rattle.deletion_rules.proofs.Existence.{plan, whole, unravelled, over, at}
use Rattle.deletion_rules.proofs.Rows.{rows_are_true}

pub unravelled_satisfies : TableauIsGraph → UnravelledSatisfies
unravelled_satisfies is t tab m plan at ov un child = record { over = ov; roots = λ k d lt. true_root (slice_index_or t.closure.roots k d) (Contains-get_or t.closure.roots k d lt) }
  where
    true_root : (j : ℕ) → Contains t.closure.roots j → Holds m (form_of t.closure j) 0
    true_root j h = rows_are_true t.closure tab.rules.closure (graph_of t) (is t tab) m plan at un 0 j ov.some ((is t tab).keeps 0 (at 0).node j child ((tab.rules.root.seed j).1 h))

pub kept_is_satisfiable : TableauIsGraph → KeptIsSatisfiable
kept_is_satisfiable is t tab lives rank kept alive =
    let k = tab.rules.closure in let ok = is t tab in let arcs = tableau_follows_arcs t tab in
    let starts = tableau_starts t tab alive.0 alive.1 in (
      whole t.a t.b tab.rules.role_a tab.rules.role_b tab.rules.one_a tab.rules.one_b t.closure k (graph_of t) ok arcs lives rank kept alive.0 alive.2 starts,
      unravelled_satisfies is t tab
          (whole t.a t.b tab.rules.role_a tab.rules.role_b tab.rules.one_a tab.rules.one_b t.closure k (graph_of t) ok arcs lives rank kept alive.0 alive.2 starts)
          (plan t.a t.b tab.rules.role_a tab.rules.role_b tab.rules.one_a tab.rules.one_b t.closure k (graph_of t) ok arcs lives rank kept)
          (at t.a t.b tab.rules.role_a tab.rules.role_b tab.rules.one_a tab.rules.one_b t.closure k (graph_of t) ok arcs lives rank kept alive.0 alive.2 starts)
          (over t.a t.b tab.rules.role_a tab.rules.role_b tab.rules.one_a tab.rules.one_b t.closure k (graph_of t) ok arcs lives rank kept alive.0 alive.2 starts)
          (unravelled t.a t.b tab.rules.role_a tab.rules.role_b tab.rules.one_a tab.rules.one_b t.closure k (graph_of t) ok arcs lives rank kept alive.0 alive.2 starts)
          alive.1,
    )

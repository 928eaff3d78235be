use Rattle.std.proofs.Common.{ℕ, ◌≡◌, None, Some, Option, subst, ap, ◌∙◌}
use Rattle.tableau_graph.specs.TableauParts.{edges_at}
use Rattle.deletion_rules.specs.inside.Picking.{IsBest}
use Rattle.deletion_rules.specs.Pruned.{lives_at, rank_at}
use Rattle.unravel.specs.inside.Choice.{best_from}
use Rattle.unravel.proofs.BestLaws.{best_is}
use Rattle.unravel.proofs.child.best_child.Goals as goal

picked : (r : Option ℕ) (b d : ℕ) → r ≡ Some b → r ≡ Some d → b ≡ d
picked r b d e f = cc

none_picked : (r : Option ℕ) (b : ℕ) → r ≡ Some b → r ≡ None → ⊥
none_picked r b e f = cc

pub unreachable-requires : goal.unreachable-requires
unreachable-requires c =
    let r = c.args.ranks.now in
    let u = best_is (lives_at r) (λ n. rank_at r n c.args.member) (edges_at r.tableau.children c.args.or) c.requires.living.0 c.requires.living.1 c.requires.living.2 in
    none_picked c.best_of.result u.0 (c.best_of.ensures ∙ ap (best_from (lives_at r) (λ n. rank_at r n c.args.member) None) c.children.ensures.same ∙ u.1) c.in-None.is

pub returns : goal.returns
returns c =
    let r = c.args.ranks.now in
    let u = best_is (lives_at r) (λ n. rank_at r n c.args.member) (edges_at r.tableau.children c.args.or) c.requires.living.0 c.requires.living.1 c.requires.living.2 in
    subst (λ b. IsBest (lives_at r) (λ n. rank_at r n c.args.member) (edges_at r.tableau.children c.args.or) b) (picked c.best_of.result u.0 c.in-Some.best (c.best_of.ensures ∙ ap (best_from (lives_at r) (λ n. rank_at r n c.args.member) None) c.children.ensures.same ∙ u.1) c.in-Some.is) u.2

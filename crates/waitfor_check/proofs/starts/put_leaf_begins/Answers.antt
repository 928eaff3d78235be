use Rattle.std.proofs.Common.{ℕ, ◌≡◌, ◌<◌, [], List, length, All, arith, subst, sym, ap, ◌∙◌}
use Rattle.std.proofs.lemmas.List.{get_or_default}
use Rattle.waitfor_check.specs.Star.{leaf_at, leaf_structure}
use Rattle.waitfor_check.specs.inside.Begins.{begins_at}
use Rattle.waitfor_check.proofs.StartChoices.{all_within}
use Rattle.waitfor_check.proofs.starts.put_leaf_begins.Goals as goal

pub push_begins-requires-clause-states : goal.push_begins-requires-clause-states
push_begins-requires-clause-states c =
    let kind = (leaf_at c.args.shape.now c.args.i).0 in
    let kind_in : kind < length c.args.system.now.network.ends = c.requires.kinds.kinds c.args.i c.requires.leaf in
    let lt : c.leaf_kind.result < length c.args.begins.now = omega (arith, c.leaf_kind.ensures, kind_in, c.requires.begins.size) in
    let list : c.as_slice-states.result.now ≡ begins_at c.args.begins.now kind = c.as_slice-states.ensures ∙ c.index-begins-leaf_kind.is ∙ get_or_default c.args.begins.now c.leaf_kind.result c.index-begins-leaf_kind.result [] lt ∙ ap {B = List ℕ} (begins_at c.args.begins.now) c.leaf_kind.ensures in
    subst (λ (states : List ℕ). All (λ (s : ℕ). s < length (leaf_structure c.args.system.now c.args.shape.now c.args.i).states) states) (sym list) (all_within c.args.system.now c.args.begins.now kind c.network-network.ensures.system kind_in c.requires.begins)

use Rattle.std.proofs.Common.{ℕ, ◌≡◌, ◌<◌, [], List, length, get_or, arith, below_more, refl, subst, sym, ap, ◌∙◌}
use Rattle.std.proofs.lemmas.List.{get_or_default}
use Rattle.waitfor_check.specs.Star.{leaf_at, leaf_structure}
use Rattle.waitfor_check.specs.inside.Begins.{HasAllBegins, begins_at}
use Rattle.waitfor_check.proofs.StartChoices.{all_within, starts_from, starts_to}
use Rattle.waitfor_check.proofs.starts.has_starts.Goals as goal

pub has_starts_with-requires-clause-state : goal.has_starts_with-requires-clause-state
has_starts_with-requires-clause-state c =
    let kind = (leaf_at c.args.star.now.shape 0).0 in
    let kind_in : kind < length c.args.system.now.network.ends = c.requires.fits.kinds.kinds 0 c.requires.fits.some in
    let lt : c.leaf_kind.result < length c.args.begins.now = omega (arith, c.leaf_kind.ensures, kind_in, c.requires.begins.size) in
    let list : c.index-begins-leaf_kind.result ≡ begins_at c.args.begins.now kind = c.index-begins-leaf_kind.is ∙ get_or_default c.args.begins.now c.leaf_kind.result c.index-begins-leaf_kind.result [] lt ∙ ap {B = List ℕ} (begins_at c.args.begins.now) c.leaf_kind.ensures in
    let in' : c.loop-i.i < length (begins_at c.args.begins.now kind) = omega (arith, c.loop-i-test.true, c.len-i-end.ensures, ap {B = ℕ} length list) in
    let at : c.at.result ≡ get_or (begins_at c.args.begins.now kind) c.loop-i.i 0 = c.at.ensures ∙ ap {B = ℕ} (λ (l : List ℕ). get_or l c.loop-i.i 0) list in
    subst (λ (s : ℕ). s < length (leaf_structure c.args.system.now c.args.star.now.shape 0).states) (sym at) (all_within c.args.system.now c.args.begins.now kind c.network-network.ensures.system kind_in c.requires.begins c.loop-i.i 0 in')

pub returns-then-not-branch : goal.returns-then-not-branch
returns-then-not-branch c = (
  λ never. cc,
  λ starts. (let told = c.in_ok-has_starts_with.ensures.has.1 (starts_to c.args.system.now c.args.star.now c.args.begins.now c.at.result c.network-network.ensures.system c.requires.fits c.requires.begins starts) in let not = c.if-not-branch.true in cc),
)

pub loop-i-preserved : goal.loop-i-preserved
loop-i-preserved c =
    let kind = (leaf_at c.args.star.now.shape 0).0 in
    let kind_in : kind < length c.args.system.now.network.ends = c.requires.fits.kinds.kinds 0 c.requires.fits.some in
    let lt : c.leaf_kind.result < length c.args.begins.now = omega (arith, c.leaf_kind.ensures, kind_in, c.requires.begins.size) in
    let list : c.index-begins-leaf_kind.result ≡ begins_at c.args.begins.now kind = c.index-begins-leaf_kind.is ∙ get_or_default c.args.begins.now c.leaf_kind.result c.index-begins-leaf_kind.result [] lt ∙ ap {B = List ℕ} (begins_at c.args.begins.now) c.leaf_kind.ensures in
    let at : c.at.result ≡ get_or (begins_at c.args.begins.now kind) c.loop-i.i 0 = c.at.ensures ∙ ap {B = ℕ} (λ (l : List ℕ). get_or l c.loop-i.i 0) list in
    let told = c.in_ok-has_starts_with.ensures.has.0 c.if-not-branch.false in
    record {
      room = c.in_ok-has_starts_with.ensures.room;
      all = below_more _ _ c.loop-i.invariant.all (subst (HasAllBegins c.args.system.now c.args.star.now c.args.begins.now) at told);
    }

pub returns : goal.returns
returns c =
    let kind = (leaf_at c.args.star.now.shape 0).0 in
    let kind_in : kind < length c.args.system.now.network.ends = c.requires.fits.kinds.kinds 0 c.requires.fits.some in
    let lt : c.leaf_kind.result < length c.args.begins.now = omega (arith, c.leaf_kind.ensures, kind_in, c.requires.begins.size) in
    let list : c.index-begins-leaf_kind.result ≡ begins_at c.args.begins.now kind = c.index-begins-leaf_kind.is ∙ get_or_default c.args.begins.now c.leaf_kind.result c.index-begins-leaf_kind.result [] lt ∙ ap {B = List ℕ} (begins_at c.args.begins.now) c.leaf_kind.ensures in
    (λ yes. starts_from c.args.system.now c.args.star.now c.args.begins.now c.requires.fits c.requires.begins (λ i in'. c.loop-i.invariant.all i (omega (arith, in', c.loop-i-test.false, c.len-i-end.ensures, ap {B = ℕ} length list))), λ starts. refl)

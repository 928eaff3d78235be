use Rattle.std.proofs.Common.{ℕ, List, [], Contains, subst}
use Rattle.deletion_rules.proofs.ThinningLaws.{lost_after, thinned_kept, thinned_none, thinned_then}
use Rattle.deletion_rules.proofs.thinning.thin.Goals as goal

pub loop-alloc-init : goal.loop-alloc-init
loop-alloc-init c = record { thinning = c.in_ok-ors.ensures.thinning; thinned = thinned_none c.args.t.now c.lose_all.new.thinning.lives.items; lost = lost_after c.args.t.now _ c.lose_all.new.thinning c.in_ok-ors.ors.items c.in_ok-ors.ensures }

pub delete_all-requires-clause-arrows : goal.delete_all-requires-clause-arrows
delete_all-requires-clause-arrows c = λ o arrow there at. (o, c.requires.edges.back.each o arrow at, (c.loop-alloc.invariant.lost o (subst (λ (l : List ℕ). Contains l o) c.deref.ensures.value there)).1)

pub lose_parents-requires-clause-parents : goal.lose_parents-requires-clause-parents
lose_parents-requires-clause-parents c = λ n o there. (c.requires.edges.up.each n o there).0

pub loop-alloc-preserved : goal.loop-alloc-preserved
loop-alloc-preserved c = record {
  thinning = c.in_ok-ors-2.ensures.thinning;
  thinned = thinned_kept c.args.t.now c.lose_all.new.thinning c.delete_all.new.thinning c.lose_parents.new.thinning [] c.in_ok-ors-2.ors.items (thinned_then c.args.t.now c.lose_all.new.thinning.lives.items c.loop-alloc.thinning.lives.items c.delete_all.new.thinning.lives.items c.loop-alloc.invariant.thinned c.in_ok-nodes.ensures.thinned) c.in_ok-ors-2.ensures;
  lost = lost_after c.args.t.now c.delete_all.new.thinning c.lose_parents.new.thinning c.in_ok-ors-2.ors.items c.in_ok-ors-2.ensures;
}

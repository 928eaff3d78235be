use Rattle.std.proofs.Common.{◌≡◌, ◌∙◌, map, Contains, slice_index, subst, sym, ap}
use Rattle.std.proofs.lemmas.List.{take_all}
use Rattle.std.proofs.lemmas.List.Filters.{dedup_is}
use Rattle.std.proofs.lemmas.List.Kept.{Contains-dedup_nat, Contains-from_dedup}
use Rattle.std.proofs.lemmas.List.Sorted.{Contains-permutation, IsPermutation-sym}
use Rattle.pair_quotient.proofs.KeyLaws.{map_has, map_from}
use Rattle.pair_quotient.proofs.electing.blocks_of.Goals as goal

pub returns : goal.returns
returns c =
    let is = dedup_is _ _ _ c.dedup.ensures.filtered in
    let moved = c.sort_unstable.ensures.permutation in
    let list : c.loop-state.blocks.items ≡ map (slice_index c.args.classes.now) c.args.states.now = c.loop-state.invariant ∙ ap (λ l. map (slice_index c.args.classes.now) l) (take_all c.loop-state.state-index c.args.states.now c.loop-state-test.false) in
    λ b. (
      λ h. let u = map_from (slice_index c.args.classes.now) c.args.states.now b (subst (λ l. Contains l b) list (Contains-permutation _ _ b (IsPermutation-sym _ _ moved) (Contains-from_dedup _ _ b (subst (λ l. Contains l b) is h)))) in (u.0, u.1, u.2),
      λ h. subst (λ l. Contains l b) (sym is) (Contains-dedup_nat _ b (Contains-permutation _ _ b moved (subst (λ l. Contains l b) (sym list) (subst (Contains (map (slice_index c.args.classes.now) c.args.states.now)) h.2 (map_has (slice_index c.args.classes.now) c.args.states.now h.0 h.1))))),
    )

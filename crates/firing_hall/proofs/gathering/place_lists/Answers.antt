use Rattle.std.proofs.Common.{◌≡◌, [], length, map, ap, sym, ◌∙◌, subst, arith}
use Rattle.std.proofs.lemmas.List.{get_or-map, length-map}
use Rattle.firing_journal.specs.Report.{list_by}
use Rattle.firing_hall.specs.inside.Gathering.{placed}
use Rattle.firing_hall.proofs.Gathered.{HavePlaces, length-placed, list_places, lists_step}
use Rattle.firing_hall.proofs.gathering.place_lists.Goals as goal

pub place_all-requires : goal.place_all-requires
place_all-requires c =
    let lists = map (λ v. v.items) c.args.lists.now in
    let k = c.loop-c.c in
    let lt = c.loop-c-test.true in
    let is : list_by lists k ≡ c.as_slice.result.now = get_or-map (λ v. v.items) c.args.lists.now k c.index-lists-c.result [] lt ∙ (ap (λ v. v.items) (sym c.index-lists-c.is) ∙ sym c.as_slice.ensures.value) in
    let r = c.requires.lists in
    record { within = subst (HavePlaces c.loop-c.entries) is (list_places r.0 c.loop-c.entries lists k (r.1 ∙ sym c.loop-c.invariant.1) r.2 (omega (arith, lt, length-map c.args.lists.now (λ v. v.items)))) }

pub loop-c-preserved : goal.loop-c-preserved
loop-c-preserved c =
    let lists = map (λ v. v.items) c.args.lists.now in
    let k = c.loop-c.c in
    let lt = c.loop-c-test.true in
    let is : list_by lists k ≡ c.as_slice.result.now = get_or-map (λ v. v.items) c.args.lists.now k c.index-lists-c.result [] lt ∙ (ap (λ v. v.items) (sym c.index-lists-c.is) ∙ sym c.as_slice.ensures.value) in
    let new = c.place_all.ensures ∙ ap (placed c.loop-c.entries k) (sym is) in (
      lists_step c.loop-c.entries c.place_all.new.entries c.args.entries.now lists k (omega (arith, lt, length-map c.args.lists.now (λ v. v.items))) new c.loop-c.invariant.0,
      ap length new ∙ (length-placed [] k c.loop-c.entries (list_by lists k) ∙ c.loop-c.invariant.1),
    )

use Rattle.std.proofs.Common.{ℕ, ◌≡◌, ◌+◌, ◌<◌, ◌≤◌, ◌∙◌, [], inl, inr, All, Contains, length, slice_index, get_or, arith, refl, subst, sym, ap}
use Rattle.std.proofs.lemmas.List.Elements.{All-contains}
use Rattle.pair_quotient.specs.inside.Moving.{AreAgreed, HaveMoved}
use Rattle.pair_quotient.specs.inside.Naming.{IsNameOf}
use Rattle.pair_quotient.specs.inside.Partition.{IsPartition}
use Rattle.pair_quotient.specs.inside.Refining.{AreBlocks, AreCalm, AreRefined, AreWaiting, IsAlone, IsElected, IsSettled}
use Rattle.pair_quotient.specs.inside.Splitting.{AreTargets}
use Rattle.pair_quotient.proofs.RefineLaws.{AreAgreed-targets, HaveMoved-none, IsRound, refined, more, progress, targets_within}
use Rattle.ctl_form.proofs.Moves.{reaches_within}
use Rattle.pair_quotient.proofs.PredecessorLaws.{touched_within, sources_within}
use Rattle.pair_quotient.proofs.refining.refine.Goals as goal

pub elect_each-requires-clause-touched : goal.elect_each-requires-clause-touched
elect_each-requires-clause-touched c =
    let b = c.requires.refined.blocks in
    touched_within c.args.m.now c.args.blocks.now.classes.items c.args.blocks.now.leaders.items c.args.waiting.now c.deref-2.result.now b.within c.requires.refined.waits.states
    (λ x has. let u = (c.in_ok-touched.ensures x).0 (subst (λ l. Contains l x) c.deref-2.ensures.value has) in (u.0, u.1, ap (λ l. slice_index l u.0) (sym c.deref.ensures.value) ∙ u.2))

pub name_leaders-requires-clause-blocks : goal.name_leaders-requires-clause-blocks
name_leaders-requires-clause-blocks c =
    let b = c.requires.refined.blocks in
    let within = touched_within c.args.m.now c.args.blocks.now.classes.items c.args.blocks.now.leaders.items c.args.waiting.now c.deref-5.result.now b.within c.requires.refined.waits.states
    (λ x has. let u = (c.in_ok-touched.ensures x).0 (subst (λ l. Contains l x) c.deref-5.ensures.value has) in (u.0, u.1, ap (λ l. slice_index l u.0) (sym c.deref.ensures.value) ∙ u.2)) in
    let count : length c.deref-4.result.now ≡ length c.args.blocks.now.leaders.items = ap length c.deref-4.ensures.value ∙ c.elect_each.ensures.count in
    λ k d lt. let l = within k d lt in omega (arith, l, count)

pub move_states-requires-clause-targets : goal.move_states-requires-clause-targets
move_states-requires-clause-targets c =
    let count : length c.open_lists.new.self.members ≡ length c.name_states.new.leaders.items = c.in_ok-open_lists.ensures.lists ∙ ap length c.in_ok-open_lists.ensures.leaders in
    let within = targets_within _ _ _ _ _ _ _ _ c.in_ok-targets.ensures in
    subst (All (λ t. t < length c.open_lists.new.self.members)) (sym c.deref-7.ensures.value) (λ k d lt. let l = within k d lt in omega (arith, l, count))

pub move_states-requires-clause-agreed : goal.move_states-requires-clause-agreed
move_states-requires-clause-agreed c = subst (AreAgreed c.args.waiting.now) (sym c.deref-7.ensures.value) (AreAgreed-targets _ _ _ _ _ _ _ _ c.in_ok-targets.ensures)

pub move_states-requires-clause-lists : goal.move_states-requires-clause-lists
move_states-requires-clause-lists c =
    subst (λ k. HaveMoved (length c.open_lists.new.self.members) c.args.waiting.now c.deref-7.result.now 0 k k c.open_lists.new.self.members []) (sym c.in_ok-open_lists.ensures.classes)
    (HaveMoved-none (length c.args.settled.now) c.args.waiting.now c.deref-7.result.now c.elect_each.new.blocks.classes.items c.elect_each.new.blocks.leaders.items c.elect_each.new.blocks.members c.open_lists.new.self.members (length c.open_lists.new.self.members) c.elect_each.ensures.blocks refl c.in_ok-open_lists.ensures.same)

pub returns : goal.returns
returns c =
    let h = c.requires.refined in
    let n : length c.args.settled.now ≡ length c.args.m.now.states = h.waits.long in
    let kept : length c.settle.new.settled ≡ length c.args.m.now.states = omega (arith, c.settle.auto.settled, n) in
    let same : c.elect_each.new.blocks.classes.items ≡ c.args.blocks.now.classes.items = c.elect_each.ensures.classes in
    let before : AreRefined c.args.m.now c.elect_each.new.blocks.classes.items c.elect_each.new.blocks.leaders.items c.elect_each.new.blocks.members c.args.settled.now c.args.waiting.now = record {
      partition = subst (IsPartition c.args.m.now) (sym same) h.partition;
      blocks = subst (λ x. AreBlocks x c.elect_each.new.blocks.classes.items c.elect_each.new.blocks.leaders.items c.elect_each.new.blocks.members) n c.elect_each.ensures.blocks;
      calm = subst (λ x. AreCalm c.args.m.now x c.args.settled.now) (sym same) h.calm;
      waits = h.waits;
    } in
    let round : IsRound c.args.m.now c.elect_each.new.blocks.classes.items c.elect_each.new.blocks.leaders.items c.args.settled.now c.args.waiting.now c.in_ok-touched.touched.items c.in_ok-names.names c.name_states.new.leaders.items c.name_states.new.names c.in_ok-targets.targets.items c.move_states.new.blocks.classes.items c.move_states.new.blocks.members c.in_ok-moved.moved.items c.unsettle_before.new.settled c.unsettle_before.new.waiting.items = record {
      touches = λ s has. (c.in_ok-touched.ensures (slice_index c.elect_each.new.blocks.classes.items s)).1 (s, has, ap (λ x. slice_index x s) (c.deref.ensures.value ∙ sym same));
      elected = λ b has. subst (λ x. IsElected x c.elect_each.new.blocks.classes.items c.elect_each.new.blocks.leaders.items c.args.settled.now b) n (All-contains (IsElected (length c.args.settled.now) c.elect_each.new.blocks.classes.items c.elect_each.new.blocks.leaders.items c.args.settled.now) c.deref-2.result.now b c.in_ok-elect_each.ensures.elected (subst (λ x. Contains x b) (sym c.deref-2.ensures.value) has));
      lead = subst (All (λ b. IsNameOf c.args.m.now c.elect_each.new.blocks.classes.items c.in_ok-names.names (slice_index c.elect_each.new.blocks.leaders.items b) b)) c.deref-5.ensures.value (subst (λ x. All (λ b. IsNameOf c.args.m.now c.elect_each.new.blocks.classes.items c.in_ok-names.names (slice_index x b) b) c.deref-5.result.now) c.deref-4.ensures.value (subst (λ x. All (λ b. IsNameOf c.args.m.now x c.in_ok-names.names (slice_index c.deref-4.result.now b) b) c.deref-5.result.now) c.deref-3.ensures.value c.in_ok-names.ensures.each));
      aims = subst (λ x. AreTargets c.args.m.now x c.elect_each.new.blocks.leaders.items c.in_ok-names.names c.args.waiting.now (length c.args.waiting.now) c.name_states.new.leaders.items c.name_states.new.names c.in_ok-targets.targets.items) c.deref-6.ensures.value c.in_ok-targets.ensures;
      moves = subst (λ x. HaveMoved x c.args.waiting.now c.in_ok-targets.targets.items (length c.args.waiting.now) c.elect_each.new.blocks.classes.items c.move_states.new.blocks.classes.items c.move_states.new.blocks.members c.in_ok-moved.moved.items) (c.in_ok-open_lists.ensures.lists ∙ ap length c.in_ok-open_lists.ensures.leaders) (subst (λ x. HaveMoved (length c.open_lists.new.self.members) c.args.waiting.now x (length c.args.waiting.now) c.elect_each.new.blocks.classes.items c.move_states.new.blocks.classes.items c.move_states.new.blocks.members c.in_ok-moved.moved.items) c.deref-7.ensures.value (subst (λ x. HaveMoved (length c.open_lists.new.self.members) c.args.waiting.now c.deref-7.result.now (length c.args.waiting.now) x c.move_states.new.blocks.classes.items c.move_states.new.blocks.members c.in_ok-moved.moved.items) c.in_ok-open_lists.ensures.classes c.in_ok-moved.ensures.moved));
      waits = subst (λ x. AreWaiting x c.unsettle_before.new.settled c.unsettle_before.new.waiting.items) kept c.in_ok-unsettle_before.ensures.waiting;
      unsettled = λ s t has reach is.
          let u = c.requires.predecessors.complete s t (reaches_within c.args.m.now c.requires.goes_on s t reach) reach in
          let none = All-contains (λ x. (j : ℕ) → slice_index c.args.predecessors.now.begins.items x ≤ j → j < slice_index c.args.predecessors.now.begins.items (x + 1) → IsSettled c.unsettle_before.new.settled (slice_index c.args.predecessors.now.sources.items j) → IsAlone c.move_states.new.blocks.classes.items (slice_index c.args.predecessors.now.sources.items j)) c.deref-8.result.now t c.in_ok-unsettle_before.ensures.before (subst (λ l. Contains l t) (sym c.deref-8.ensures.value) has) in
          subst (IsAlone c.move_states.new.blocks.classes.items) u.3 (none u.0 u.1 u.2 (subst (IsSettled c.unsettle_before.new.settled) (sym u.3) is));
      none = λ e. c.in_ok-unsettle_before.ensures.none (ap length c.deref-8.ensures.value ∙ e) ∙ c.new-next.ensures.items;
    } in
    let leaders : c.name_states.new.leaders.items ≡ c.move_states.new.blocks.leaders.items = sym (c.in_ok-moved.ensures.leaders ∙ c.in_ok-open_lists.ensures.leaders) in
    let done = refined c.args.m.now c.requires.goes_on _ _ _ _ _ _ _ _ _ _ _ _ _ _ _ before round in
    let grows = more c.args.m.now c.requires.goes_on _ _ _ _ _ _ _ _ _ _ _ _ _ _ _ before round in
    let goes = progress c.args.m.now c.requires.goes_on _ _ _ _ _ _ _ _ _ _ _ _ _ _ _ before round in
    record {
      refined = subst (λ x. AreRefined c.args.m.now c.move_states.new.blocks.classes.items x c.move_states.new.blocks.members c.unsettle_before.new.settled c.unsettle_before.new.waiting.items) leaders done;
      more = (let count = ap length leaders in omega (arith, grows, count, c.elect_each.ensures.count));
      progress = elim goes [ inl e ↦ inl e | inr lt ↦ inr (let count = ap length leaders in omega (arith, lt, count, c.elect_each.ensures.count)) ];
    }

pub unsettle_before-requires-clause-sources : goal.unsettle_before-requires-clause-sources
unsettle_before-requires-clause-sources c =
    let h = c.requires.refined in
    let n : length c.args.settled.now ≡ length c.args.m.now.states = h.waits.long in
    let kept : length c.settle.new.settled ≡ length c.args.m.now.states = omega (arith, c.settle.auto.settled, n) in
    let long : length c.open_lists.new.self.classes.items ≡ length c.args.m.now.states = ap length c.in_ok-open_lists.ensures.classes ∙ c.elect_each.ensures.blocks.long ∙ n in
    λ j d lt.
    let within : get_or c.in_ok-moved.moved.items j d < length c.open_lists.new.self.classes.items = (c.in_ok-moved.ensures.moved.listed_moved j d (rw c.deref-8.ensures.value at lt)).0 in
    let state : get_or c.deref-8.result.now j d < length c.args.m.now.states = let at = ap (λ l. get_or l j d) c.deref-8.ensures.value in omega (arith, within, long, at) in
    λ k low high. let w = sources_within c.args.m.now c.requires.goes_on c.args.predecessors.now.begins.items c.args.predecessors.now.sources.items c.requires.predecessors (get_or c.deref-8.result.now j d) state k low high in omega (arith, w, kept)

pub unsettle_before-requires-clause-listed : goal.unsettle_before-requires-clause-listed
unsettle_before-requires-clause-listed c =
    let moved = c.in_ok-moved.ensures.moved in
    let start : length c.open_lists.new.self.classes.items ≡ length c.args.settled.now = ap length c.in_ok-open_lists.ensures.classes ∙ c.elect_each.ensures.blocks.long in
    let kept : length c.settle.new.settled ≡ length c.args.settled.now = omega (arith, c.settle.auto.settled) in
    record { long = moved.long ∙ start ∙ sym kept; listed = λ s lt. moved.listed s (omega (arith, lt, start, kept)) }

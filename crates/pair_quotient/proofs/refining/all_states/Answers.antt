use Rattle.std.proofs.Common.{inl, inr, ◌≡◌, ◌<◌, arith, subst, sym, Contains, get_or}
use Rattle.std.proofs.Math.Decide.{dec_lt}
use Rattle.std.proofs.lemmas.List.Elements.{All-contains, Contains-append_left, Contains-push, Contains-push_cases, Contains-get_or}
use Rattle.pair_quotient.proofs.refining.all_states.Goals as goal

pub loop-state-preserved : goal.loop-state-preserved
loop-state-preserved c =
    let list = c.in_ok-push.ensures.items in
    record {
      within = λ k d lt. elim (Contains-push_cases c.loop-state.states.items c.loop-state.state (get_or c.push.new.self.items k d) (subst (λ l. Contains l (get_or c.push.new.self.items k d)) list (Contains-get_or c.push.new.self.items k d lt))) [
        | inl before ↦ All-contains (λ s. s < c.args.count) c.loop-state.states.items _ c.loop-state.invariant.within before
        | inr e ↦ subst (λ s. s < c.args.count) e c.loop-state-test.true
      ];
      each = λ s lt. subst (λ l. Contains l s) (sym list) (elim (dec_lt s c.loop-state.state) [
        | yes l ↦ Contains-append_left _ _ s (c.loop-state.invariant.each s l)
        | no g ↦ (let e : c.loop-state.state ≡ s = omega (arith, g, lt) in subst (Contains _) e (Contains-push c.loop-state.states.items c.loop-state.state))
      ]);
    }

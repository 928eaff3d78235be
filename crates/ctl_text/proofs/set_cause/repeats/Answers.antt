use Rattle.std.proofs.Common.{Bor, List, ℕ, [], inl, inr, refl}
use Rattle.ctl_text.proofs.MemberLists.{repeats_next}
use Rattle.ctl_text.proofs.Options.{untrue-false}
use Rattle.ctl_text.proofs.set_cause.repeats.Goals as goal

pub returns-then-has_word : goal.returns-then-has_word
returns-then-has_word c =
    let next = repeats_next {X = Bor (List ℕ)} (λ w. w.now) c.args.words.now c.loop-place.place (record { ref_ptr = (0, 0); now = [] }) c.loop-place-test.true in
    let there = rw c.split_at.ensures.back at (c.if-has_word.ensures.0 refl) in
    let again = c.loop-place.invariant.0 (next.1 (inl there)) in (λ t. again, λ h. refl)

pub loop-place-preserved : goal.loop-place-preserved
loop-place-preserved c =
    let next = repeats_next {X = Bor (List ℕ)} (λ w. w.now) c.args.words.now c.loop-place.place (record { ref_ptr = (0, 0); now = [] }) c.loop-place-test.true in (
      λ h. c.loop-place.invariant.0 (next.1 (inr h)),
      λ h. elim (next.0 (c.loop-place.invariant.1 h)) [ inl there ↦ absurd ((rw c.split_at.ensures.back at (untrue-false c.if-has_word.ensures.1)) there) | inr more ↦ more ],
    )

use Rattle.std.proofs.Common.{◌≡◌, ◌<◌, ℕ}
use Rattle.ctl_form.specs.Members.{part_at}
use Rattle.closure_sets.proofs.closure.find_in.Given as goal

abbrev pub invariant-loop-member : goal.invariant-loop-member
invariant-loop-member l = (i : ℕ) → i < l.member → part_at l.parts i ≡ l.part → ⊥

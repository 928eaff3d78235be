use Rattle.std.proofs.Common.{◌↔◌, Bool, true, false, not, IsTrue, refl}
use Rattle.ctl_text.proofs.process_cause.is_other_local.Goals as goal

-- where the local state is there, not to be among the starts is all that is asked
other_than : (there found : Type 0) (t : Bool) → there → (IsTrue t ↔ found) → IsTrue (not t) ↔ (there × (found → ⊥))
other_than there found true here tells = (λ no. cc, λ h. absurd (h.1 (tells.0 refl)))
other_than there found false here tells = (λ no. (here, λ h. let t = tells.1 h in cc), λ h. refl)

pub returns-then-has_local : goal.returns-then-has_local
returns-then-has_local c =
    let there = rw c.locals-locals.ensures.locals at (c.if-has_local.ensures.0 refl) in
    let number = rw c.locals-locals.ensures.locals at c.local_number.ensures.number in
    let found = rw (c.starts.ensures.starts, number) at c.has_start.ensures in
    other_than _ _ _ there found

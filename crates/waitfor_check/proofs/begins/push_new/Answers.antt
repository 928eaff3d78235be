use Rattle.std.proofs.Common.{◌≡◌, ◌↔◌, IsTrue, Contains, refl, sym, subst, List, ℕ}
use Rattle.waitfor_check.proofs.Beginnings.{with_new, with_old}
use Rattle.waitfor_check.proofs.begins.push_new.Goals as goal

pub returns-in_ok-push : goal.returns-in_ok-push
returns-in_ok-push c = rw c.in_ok-push.ensures (with_new c.args.number c.args.list.now (λ has. let never = c.if-not-has_number.ensures.1 (subst (λ (l : List ℕ). Contains l c.args.number) (sym c.as_slice.ensures) has) in cc))

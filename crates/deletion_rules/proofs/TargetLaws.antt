-- The targets of one more member.
use Rattle.std.proofs.Common.{ℕ, zero, suc, ◌≡◌, ◌<◌, ◌+◌, false, Option, Some, None, List, [], ◌∷◌, ◌++◌, length, All, subst, sym, arith, ◌∙◌, ap}
use Rattle.std.specs.Option.{option_to_list}
use Rattle.std.proofs.Math.Decide.{dec_lt}
use Rattle.std.proofs.lemmas.List.{get_or_append_left, length-append}
use Rattle.std.proofs.lemmas.List.Elements.{All-append}
use Rattle.std.proofs.Math.Seq.{get_or-append_seam}
use Rattle.ctl_form.specs.Members.{IsBelow}
use Rattle.ctl_form.specs.declared.part.Part.TheVariants.{Until}
use Rattle.closure_sets.specs.ClosureParts.{ClosureParts, IsClosureParts, count}
use Rattle.closure_sets.specs.Label.{part_of}
use Rattle.deletion_rules.specs.Targets.{AreTargets, HasTarget, IsTarget, IsTargetOf, no_target}
use Rattle.deletion_rules.specs.declared.target.Target.{Target}

is_target : (c : ClosureParts) → IsClosureParts c → (n : ℕ) → n < count c → (t : Target) → IsTargetOf (part_of c n) n (Some t) → IsTarget c t
is_target c k n lt t h =
    let p : part_of c t.member ≡ Until t.all false t.f t.g = subst (λ u. part_of c u ≡ Until t.all false t.f t.g) (sym h.0) h.1 in
    let b : IsBelow n (Until t.all false t.f t.g) = subst (λ part. IsBelow n part) h.1 (k.numbering.rising n lt) in
    record { part = p; member = subst (λ u. u < count c) (sym h.0) lt; f = omega (arith, b.0, lt); g = omega (arith, b.1, lt) }

kept_target : (ts more : List Target) (u : ℕ) → HasTarget ts u → HasTarget (ts ++ more) u
kept_target ts more u h = (h.0, omega (arith, h.1, length-append ts more), ap (λ (t : Target). t.member) (get_or_append_left ts more no_target h.0 h.1) ∙ h.2)

last_target : (ts : List Target) (t : Target) (u : ℕ) → t.member ≡ u → HasTarget (ts ++ t ∷ []) u
last_target ts t u e = (length ts, omega (arith, length-append ts (t ∷ [])), ap (λ (x : Target). x.member) (get_or-append_seam ts t [] no_target) ∙ e)

all_one : (X : Target → Type 0) (t : Target) → X t → All X (t ∷ [])
all_one X t h zero d lt = h
all_one X t h (suc k) d lt = absurd (omega (arith, lt))

pub targets_more : (c : ClosureParts) → IsClosureParts c → (n : ℕ) → n < count c → (ts : List Target) (o : Option Target) → IsTargetOf (part_of c n) n o → AreTargets c n ts → AreTargets c (n + 1) (ts ++ option_to_list o)
targets_more c k n lt ts (Some t) is h = record {
  each = All-append (IsTarget c) ts (t ∷ []) h.each (all_one (IsTarget c) t (is_target c k n lt t is));
  all = λ u f g all small p. elim (dec_lt u n) [ yes l ↦ kept_target ts (t ∷ []) u (h.all u f g all l p) | no o ↦ last_target ts t u (is.0 ∙ omega (arith, small, o)) ];
}
targets_more c k n lt ts None is h = record {
  each = All-append (IsTarget c) ts [] h.each (λ j d l. absurd (omega (arith, l)));
  all = λ u f g all small p. elim (dec_lt u n) [ yes l ↦ kept_target ts [] u (h.all u f g all l p) | no o ↦ (let e : u ≡ n = omega (arith, small, o) in absurd (is all f g (subst (λ v. part_of c v ≡ Until all false f g) e p))) ];
}

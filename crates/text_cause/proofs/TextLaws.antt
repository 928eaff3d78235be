-- What a lawful grammar decides: one value at most, one refusal at most, never both.
use Rattle.std.proofs.Common.{ℕ, ◌≡◌, ◌+◌, inl, inr, List, [], ◌∷◌, Result, Ok, Err, IfOk, IfErr, MatchResult, refl, sym, ◌∙◌, subst}
use Rattle.text_cause.specs.declared.cause.TextCause.{TextCause}
use Rattle.text_cause.specs.declared.cause.TextFault.{TextFault}
use Rattle.text_cause.specs.declared.cause.TextFault.TheVariants.{At, Memory}
use Rattle.text_cause.specs.Grammar.{Grammar, StandsFor, RefusedAt, IsText, IsRefused}
use Rattle.text_cause.specs.Answers.{IsRefusal, IsFaultAt}
use Rattle.text_cause.specs.inside.Laws.{IsLawful, IsSameRefusal, OneValue, NeverBoth, OneRefusal}

module _ {State Line Value : Type 0} (g : Grammar State Line Value) (lawful : IsLawful g) where
  pub stands_once : (s : State) (lines : List Line) (v w : Value) → StandsFor g s lines v → StandsFor g s lines w → v ≡ w
  stands_once s [] v w a b = lawful.given_once s v w a b
  stands_once s (line ∷ lines) v w (t, a, more) (u, b, others) = stands_once t lines v w more (subst (λ u. StandsFor g u lines w) (lawful.taken_once s line u t b a) others)

  pub stands_or_refused : (s : State) (n : ℕ) (lines : List Line) (v : Value) (at : ℕ) (cause : TextCause) → StandsFor g s lines v → RefusedAt g s n lines at cause → ⊥
  stands_or_refused s n [] v at cause a b = lawful.given_free s v cause a b.1
  stands_or_refused s n (line ∷ lines) v at cause (t, a, more) (inl b) = lawful.taken_free s line t cause a b.1.stands
  stands_or_refused s n (line ∷ lines) v at cause (t, a, more) (inr (u, b, others)) =
      stands_or_refused t (n + 1) lines v at cause more (subst (λ u. RefusedAt g u (n + 1) lines at cause) (lawful.taken_once s line u t b a) others)

  pub refused_once : (s : State) (n : ℕ) (lines : List Line) (at line : ℕ) (cause what : TextCause) → RefusedAt g s n lines at cause → RefusedAt g s n lines line what → IsSameRefusal at line cause what
  refused_once s n [] at line cause what a b = record { line_is = a.0 ∙ sym b.0; cause_is = lawful.ended_once s cause what a.1 b.1 }
  refused_once s n (first ∷ lines) at line cause what (inl a) (inl b) = record { line_is = a.0 ∙ sym b.0; cause_is = lawful.refused_once s first cause what a.1 b.1 }
  refused_once s n (first ∷ lines) at line cause what (inl a) (inr (u, b, others)) = absurd (lawful.taken_free s first u cause b a.1.stands)
  refused_once s n (first ∷ lines) at line cause what (inr (t, a, more)) (inl b) = absurd (lawful.taken_free s first t what a b.1.stands)
  refused_once s n (first ∷ lines) at line cause what (inr (t, a, more)) (inr (u, b, others)) =
      refused_once t (n + 1) lines at line cause what more (subst (λ u. RefusedAt g u (n + 1) lines line what) (lawful.taken_once s first u t b a) others)

  pub one_value : OneValue g
  one_value first bytes v w a b = stands_once first (g.lines bytes) v w a b

  pub never_both : NeverBoth g
  never_both first bytes v at cause a b = stands_or_refused first 1 (g.lines bytes) v at cause a b

  pub one_refusal : OneRefusal g
  one_refusal first bytes at line cause what a b = refused_once first 1 (g.lines bytes) at line cause what a b

  module _ (first : State) (bytes : List ℕ) where
    -- bytes that are a text are refused only for want of memory
    pub memory_only : (fault : TextFault) → IsRefusal g first bytes fault → (v : Value) → IsText g first bytes v → fault ≡ Memory
    memory_only Memory refused v text = refl
    memory_only (At line what) refused v text = absurd (never_both first bytes v line what text refused)

    same_fault : (at line : ℕ) (cause what : TextCause) → IsSameRefusal line at what cause → IsFaultAt at cause (At line what)
    same_fault at line cause what same = let is : At line what ≡ At at cause = cc in inr is

    -- and bytes that are refused, at that line with that cause
    pub fault_only : (fault : TextFault) → IsRefusal g first bytes fault → (at : ℕ) (cause : TextCause) → IsRefused g first bytes at cause → IsFaultAt at cause fault
    fault_only Memory refused at cause h = inl refl
    fault_only (At line what) refused at cause h = same_fault at line cause what (one_refusal first bytes line at what cause refused h)

    -- so is what a reader of the grammar answers
    pub only_value : (r : Result Value TextFault) → IfOk r (IsText g first bytes) → IfErr r (IsRefusal g first bytes) → (v : Value) → IsText g first bytes v → MatchResult r (λ x. x ≡ v) (λ fault. fault ≡ Memory)
    only_value (Ok x) ok refused v text = one_value first bytes x v ok text
    only_value (Err fault) ok refused v text = memory_only fault refused v text

    pub only_refusal : (r : Result Value TextFault) → IfOk r (IsText g first bytes) → IfErr r (IsRefusal g first bytes) → (at : ℕ) (cause : TextCause) → IsRefused g first bytes at cause → MatchResult r (λ x. ⊥) (IsFaultAt at cause)
    only_refusal (Ok x) ok refused at cause h = never_both first bytes x at cause ok h
    only_refusal (Err fault) ok refused at cause h = fault_only fault refused at cause h

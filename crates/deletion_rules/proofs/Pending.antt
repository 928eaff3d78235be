-- Whether a strong until pends in a row, which is decided.
use Rattle.std.proofs.Common.{ℕ, ◌≡◌, ◌⊎◌, inl, inr, Bool, true, false, refl, subst}
use Rattle.ctl_form.specs.declared.part.Part.{Part}
use Rattle.ctl_form.specs.declared.part.Part.TheVariants.{Yes, No, Lit, Both, Either, Next, Until}
use Rattle.ctl_form.proofs.Decided.{Decided}
use Rattle.closure_sets.specs.ClosureParts.{ClosureParts}
use Rattle.closure_sets.specs.Full.{Has}
use Rattle.closure_sets.specs.Label.{part_of}
use Rattle.closure_sets.specs.Row.{Members}
use Rattle.deletion_rules.specs.inside.Picking.{Pending}
use Rattle.deletion_rules.specs.Unravel.{IsPending}

pub decided_has : (b : Bool) → Decided (b ≡ true)
decided_has true = inl refl
decided_has false = inr (λ e. let f : false ≡ true = e in cc)

same_second : (part : Part) (all all' : Bool) (f f' q q' : ℕ) → part ≡ Until all false f q → part ≡ Until all' false f' q' → q ≡ q'
same_second part all all' f f' q q' e e' = cc

-- a member that is a strong until has one kind
pub same_kind : (part : Part) (all all' : Bool) (f f' q q' : ℕ) → part ≡ Until all false f q → part ≡ Until all' false f' q' → all ≡ all'
same_kind part all all' f f' q q' e e' = cc

-- it pends on all paths, on some, or not at all
abbrev pub PendingCase : ClosureParts → Members → ℕ → Type 0
PendingCase c row u = IsPending c row true u ⊎ (IsPending c row false u ⊎ ((IsPending c row true u → ⊥) × (IsPending c row false u → ⊥)))

module _ (c : ClosureParts) (row : Members) (u : ℕ) where
  no_until : ((all : Bool) (f q : ℕ) → part_of c u ≡ Until all false f q → ⊥) → PendingCase c row u
  no_until h = inr (inr (λ x. h true x.0 x.1 x.2, λ x. h false x.0 x.1 x.2))

  pends : (all : Bool) → IsPending c row all u → PendingCase c row u
  pends true x = inl x
  pends false x = inr (inl x)

  by_rows : (all : Bool) (f q : ℕ) → part_of c u ≡ Until all false f q → Decided (Has row u) → Decided (Has row q) → PendingCase c row u
  by_rows all f q p (inr absent) d = inr (inr (λ x. absent x.3, λ x. absent x.3))
  by_rows all f q p (inl has) (inl met) = inr (inr (λ x. x.4 (subst (λ y. Has row y) (same_second (part_of c u) all true f x.0 q x.1 p x.2) met), λ x. x.4 (subst (λ y. Has row y) (same_second (part_of c u) all false f x.0 q x.1 p x.2) met)))
  by_rows all f q p (inl has) (inr unmet) = pends all (f, q, p, has, unmet)

  by_part : (part : Part) → part_of c u ≡ part → PendingCase c row u
  by_part (Until all false f q) p = by_rows all f q p (decided_has (row u)) (decided_has (row q))
  by_part (Until all true f q) p = no_until (λ all' f' q' e. cc)
  by_part Yes p = no_until (λ all' f' q' e. cc)
  by_part No p = no_until (λ all' f' q' e. cc)
  by_part (Lit side local is) p = no_until (λ all' f' q' e. cc)
  by_part (Both f q) p = no_until (λ all' f' q' e. cc)
  by_part (Either f q) p = no_until (λ all' f' q' e. cc)
  by_part (Next all side f) p = no_until (λ all' f' q' e. cc)

  pub pending_case : PendingCase c row u
  pending_case = by_part (part_of c u) refl

pub decided_pending : (c : ClosureParts) (row : Members) (u : ℕ) → Decided (Pending c row u)
decided_pending c row u = elim (pending_case c row u) [ inl x ↦ inl (true, x) | inr (inl x) ↦ inl (false, x) | inr (inr n) ↦ inr (λ v. neither n v.0 v.1) ]
  where
    neither : (IsPending c row true u → ⊥) × (IsPending c row false u → ⊥) → (all : Bool) → IsPending c row all u → ⊥
    neither n true x = n.0 x
    neither n false x = n.1 x

-- of both kinds none does
pub one_kind : (c : ClosureParts) (row : Members) (u : ℕ) → IsPending c row true u → IsPending c row false u → ⊥
one_kind c row u x y = let e : true ≡ false = same_kind (part_of c u) true false x.0 y.0 x.1 y.1 x.2 y.2 in cc

-- Where the members of a normal form have their next-times.
use Rattle.std.proofs.Common.{ℕ, zero, suc, ◌≡◌, ◌<◌, ◌+◌, ◌++◌, Bool, false, Some, List, [], ◌∷◌, length, refl, subst, sym, ◌∙◌, ap, arith, Contains, slice_index_or}
use Rattle.std.proofs.Math.Decide.{dec_lt}
use Rattle.std.proofs.lemmas.List.{get_or_append_left, get_or_push}
use Rattle.pair_structure.specs.declared.side.Side.{Side}
use Rattle.pair_structure.specs.declared.side.Side.TheVariants.{A, B}
use Rattle.ctl_form.specs.Closure.{opening, brings}
use Rattle.ctl_form.specs.Form.{Form, truth, next, until}
use Rattle.ctl_form.specs.Members.{part_at, form_at, forms_of, form_of_part, IsBelow}
use Rattle.ctl_form.specs.MemberTable.{IsNumbering}
use Rattle.ctl_form.specs.NormalParts.{AreNormalParts}
use Rattle.ctl_form.specs.declared.part.Part.{Part}
use Rattle.ctl_form.specs.declared.part.Part.TheVariants.{Yes, Next, Until}
use Rattle.ctl_form.proofs.MemberLaws.{length-forms_of, below_up, part_same}
use Rattle.closure_sets.specs.ClosureParts.{HasPart}

get_same : {X : Type 0} (xs : List X) (n : ℕ) (c d : X) → n < length xs → slice_index_or xs n c ≡ slice_index_or xs n d
get_same [] n c d h = absurd (omega (arith, h))
get_same (x ∷ xs) zero c d h = refl
get_same (x ∷ xs) (suc n) c d h = get_same xs n c d (omega (arith, h))

module _ (parts : List Part) (roots : List ℕ) (k : AreNormalParts parts roots) (n : IsNumbering parts) where
  -- a formula of the closure is that of a member
  placed : (f : Form) → Contains (forms_of parts) f → (i : ℕ) × (i < length parts) × (form_at (forms_of parts) i ≡ f)
  placed f h = (h.0, omega (arith, h.1, length-forms_of parts), get_same (forms_of parts) h.0 truth f h.1 ∙ h.2)

  -- a part whose formula is in the closure is that of a member
  has_part : (p : Part) → IsBelow (length parts) p → Contains (forms_of parts) (form_of_part (forms_of parts) p) → HasPart parts p
  has_part p below h = (u.0, u.1, part_same (forms_of parts) (part_at parts u.0) p n.distinct (subst (λ (m : ℕ). IsBelow m (part_at parts u.0)) (sym (length-forms_of parts)) (below_up u.0 (length parts) (part_at parts u.0) (omega (arith, u.1)) (n.rising u.0 u.1))) (subst (λ (m : ℕ). IsBelow m p) (sym (length-forms_of parts)) below) (sym (n.stands u.0 u.1) ∙ u.2))
    where
      u : (i : ℕ) × (i < length parts) × (form_at (forms_of parts) i ≡ form_of_part (forms_of parts) p)
      u = placed (form_of_part (forms_of parts) p) h

  brings_next : (all weak : Bool) (f g : Form) (side : Side) → Contains (brings (until all weak f g)) (next all (Some side) (until all weak f g))
  brings_next all weak f g A = (2, omega arith, refl)
  brings_next all weak f g B = (3, omega arith, refl)

  pub until_next : (i f g : ℕ) (all weak : Bool) (side : Side) → i < length parts → part_at parts i ≡ Until all weak f g → HasPart parts (Next all side i)
  until_next i f g all weak side lt p = has_part (Next all side i) lt (subst (λ x. Contains (forms_of parts) (next all (Some side) x)) (sym e) (k.grown u held (next all (Some side) u) (brings_next all weak (form_at (forms_of parts) f) (form_at (forms_of parts) g) side)))
    where
      u : Form
      u = until all weak (form_at (forms_of parts) f) (form_at (forms_of parts) g)

      e : form_at (forms_of parts) i ≡ u
      e = n.stands i lt ∙ ap (form_of_part (forms_of parts)) p

      held : Contains (forms_of parts) u
      held = (i, omega (arith, lt, length-forms_of parts), get_same (forms_of parts) i u truth (omega (arith, lt, length-forms_of parts)) ∙ e)

  pub has_truth : HasPart parts Yes
  has_truth = has_part Yes tt (k.opens truth (0, omega arith, refl))

  opens_move : (side : Side) → Contains opening (next false (Some side) truth)
  opens_move A = (2, omega arith, refl)
  opens_move B = (3, omega arith, refl)

  pub has_move : (t : ℕ) (side : Side) → t < length parts → part_at parts t ≡ Yes → HasPart parts (Next false side t)
  has_move t side lt p = has_part (Next false side t) lt (subst (λ x. Contains (forms_of parts) (next false (Some side) x)) (sym (n.stands t lt ∙ ap (form_of_part (forms_of parts)) p)) (k.opens (next false (Some side) truth) (opens_move side)))

-- one more number at the end
pub each_push : (X : ℕ → ℕ → Type 0) (made more : List ℕ) (n x : ℕ) → length made ≡ n → ((i : ℕ) → i < n → X i (slice_index_or made i 0)) → more ≡ made ++ x ∷ [] → X n x → (i : ℕ) → i < n + 1 → X i (slice_index_or more i 0)
each_push X made more n x long each e new i lt = elim (dec_lt i n) [ yes l ↦ (let inside : i < length made = omega (arith, l, long) in rw (e, get_or_append_left made (x ∷ []) 0 i inside) (each i l)) | no g ↦ (let q : n ≡ i = omega (arith, lt, g) in subst (λ k. X k (slice_index_or more k 0)) q (rw (e, get_or_push made x 0 n long) new)) ]

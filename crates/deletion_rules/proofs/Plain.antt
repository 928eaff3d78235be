-- Constants and literals that a label does not make false are true wherever a state has it.
use Rattle.std.proofs.Common.{ℕ, ◌≡◌, ◌≤◌, Bool, true, false, not, Some, List, refl, subst, sym, slice_get, arith}
use Rattle.std.proofs.lemmas.List.{get_or_past}
use Rattle.pair_structure.specs.Structure.{Structure}
use Rattle.pair_structure.specs.declared.side.Side.{Side}
use Rattle.ctl_form.specs.Form.{Form, truth, at}
use Rattle.ctl_form.specs.Members.{forms_of, form_of_part}
use Rattle.ctl_form.specs.Truth.{Holds, HasLocal}
use Rattle.ctl_form.specs.declared.part.Part.{Part}
use Rattle.ctl_form.specs.declared.part.Part.TheVariants.{Yes, No, Lit, Both, Either, Next, Until}
use Rattle.ctl_form.proofs.MemberLaws.{length-forms_of}
use Rattle.closure_sets.specs.ClosureParts.{ClosureParts, count}
use Rattle.closure_sets.specs.Cover.{IsTrueAt}
use Rattle.closure_sets.specs.Label.{is_local, is_wrong}
use Rattle.closure_sets.proofs.Labels.{value_tells}

-- a constant or a literal
abbrev pub IsPlainPart : Part → Type 0
IsPlainPart Yes = Unit {0}
IsPlainPart No = Unit {0}
IsPlainPart (Lit side local is) = Unit {0}
IsPlainPart (Both f g) = ⊥
IsPlainPart (Either f g) = ⊥
IsPlainPart (Next all side f) = ⊥
IsPlainPart (Until all weak f g) = ⊥

-- what a test says of a fact
abbrev Says : Bool → Type 0 → Type 0
Says true X = X
Says false X = X → ⊥

says_yes : (b : Bool) (X : Type 0) → not b ≡ false → Says b X → X
says_yes true X e h = h
says_yes false X e h = absurd (let q : true ≡ false = e in cc)

says_no : (b : Bool) (X : Type 0) → b ≡ false → Says b X → X → ⊥
says_no false X e h = h
says_no true X e h = absurd (let q : true ≡ false = e in cc)

module _ (m : Structure) (s : ℕ) (label : ℕ × ℕ) (e : slice_get m.states s ≡ Some label) where
  local_says : (side : Side) (local : ℕ) → Says (is_local label side local) (HasLocal m side local s)
  local_says side local = by (is_local label side local) refl
    where
      by : (b : Bool) → is_local label side local ≡ b → Says b (HasLocal m side local s)
      by true q = let t = value_tells m s label e (at side local) in rw q at t
      by false q = let t = value_tells m s label e (at side local) in rw q at t

  pub right_part : (forms : List Form) (part : Part) → IsPlainPart part → is_wrong label part ≡ false → Holds m (form_of_part forms part) s
  right_part forms Yes plain w = tt
  right_part forms No plain w = absurd (let q : true ≡ false = w in cc)
  right_part forms (Lit side local true) plain w = says_yes (is_local label side local) (HasLocal m side local s) w (local_says side local)
  right_part forms (Lit side local false) plain w = says_no (is_local label side local) (HasLocal m side local s) w (local_says side local)
  right_part forms (Both f g) plain w = elim plain [ ]
  right_part forms (Either f g) plain w = elim plain [ ]
  right_part forms (Next all side f) plain w = elim plain [ ]
  right_part forms (Until all weak f g) plain w = elim plain [ ]

-- past the last member there is nothing but 'true'
pub past_true : (m : Structure) (c : ClosureParts) (i s : ℕ) → count c ≤ i → IsTrueAt m c s i
past_true m c i s past = subst (λ x. Holds m x s) (sym (get_or_past (forms_of c.parts) i truth (omega (arith, past, length-forms_of c.parts)))) tt

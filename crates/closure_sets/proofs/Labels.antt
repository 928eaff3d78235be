-- What a label tells of members is so at each state that has it.
use Rattle.std.proofs.Common.{ℕ, ◌≡◌, ◌⊎◌, ◌<◌, inl, inr, Bool, true, false, not, ◌&&◌, Option, Some, None, is_some, List, length, refl, subst, sym, ◌∙◌, ap, eqb, eqb-true, eq-eqb, slice_get}
use Rattle.std.proofs.lemmas.Bool.{and_parts}
use Rattle.std.proofs.lemmas.Option.{slice_get-get_or}
use Rattle.pair_structure.specs.Structure.{Structure, label_at}
use Rattle.pair_structure.specs.declared.side.Side.{Side}
use Rattle.pair_structure.specs.declared.side.Side.TheVariants.{A, B}
use Rattle.ctl_form.specs.Form.{Form, truth, falsity, at, neg, both, either, implies, next, always, sometime, until}
use Rattle.ctl_form.specs.Members.{forms_of, form_of_part}
use Rattle.ctl_form.specs.Truth.{Holds, HasLocal}
use Rattle.ctl_form.specs.declared.part.Part.{Part}
use Rattle.ctl_form.specs.declared.part.Part.TheVariants.{Yes, No, Lit, Both, Either, Next, Until}
use Rattle.closure_sets.specs.ClosureParts.{ClosureParts, IsClosureParts, count}
use Rattle.closure_sets.specs.Cover.{ExpansionIsFull, OneSidedIsFull}
use Rattle.closure_sets.specs.Expansion.{clashes, expansion_along, lowest, is_shared}
use Rattle.closure_sets.specs.Full.{EachRow, IsExpansion}
use Rattle.closure_sets.specs.Label.{part_of, form_of, is_local, value, not_value, value_of_two, and_of, or_of, is_yes, is_plain, is_wrong, wrong_of}
use Rattle.closure_sets.specs.Row.{Members}
use Rattle.closure_sets.proofs.Closures.{form_is}
use Rattle.closure_sets.proofs.FullRows.{AreRight, each_append, rows_are_full}
use Rattle.closure_sets.proofs.Sets.{IsLowest, lowest_is}

-- what a truth value says of a fact
abbrev Tells : Option Bool → Type 0 → Type 0
Tells (Some true) X = X
Tells (Some false) X = X → ⊥
Tells None X = Unit {0}

-- the label of a state as the list has it
label_read : (m : Structure) (s : ℕ) → s < length m.states → slice_get m.states s ≡ Some (label_at m.states s)
label_read m s lt = slice_get-get_or m.states s (0, 0) lt

first_same : (label : ℕ × ℕ) (x y : ℕ) → Some label ≡ Some (x, y) → label.0 ≡ x
first_same label x y e = let g : label ≡ (x, y) = cc in ap (λ (p : ℕ × ℕ). p.0) g

second_same : (label : ℕ × ℕ) (x y : ℕ) → Some label ≡ Some (x, y) → label.1 ≡ y
second_same label x y e = let g : label ≡ (x, y) = cc in ap (λ (p : ℕ × ℕ). p.1) g

local_tells : (m : Structure) (s : ℕ) (label : ℕ × ℕ) → slice_get m.states s ≡ Some label → (side : Side) (local : ℕ) → Tells (Some (is_local label side local)) (HasLocal m side local s)
local_tells m s label e A local = a_tells (eqb label.0 local) refl
  where
    a_tells : (b : Bool) → eqb label.0 local ≡ b → Tells (Some b) (HasLocal m A local s)
    a_tells true q = (label.1, e ∙ ap (λ x. Some (x, label.1)) (eqb-true label.0 local q))
    a_tells false q = λ h. let same : label.0 ≡ local = first_same label local h.0 (sym e ∙ h.1) in let no : false ≡ true = sym q ∙ eq-eqb label.0 local same in cc
local_tells m s label e B local = b_tells (eqb label.1 local) refl
  where
    b_tells : (b : Bool) → eqb label.1 local ≡ b → Tells (Some b) (HasLocal m B local s)
    b_tells true q = (label.0, e ∙ ap (λ x. Some (label.0, x)) (eqb-true label.1 local q))
    b_tells false q = λ h. let same : label.1 ≡ local = second_same label h.0 local (sym e ∙ h.1) in let no : false ≡ true = sym q ∙ eq-eqb label.1 local same in cc

not_tells : (v : Option Bool) (X : Type 0) → Tells v X → Tells (not_value v) (X → ⊥)
not_tells (Some true) X h = λ none. none h
not_tells (Some false) X h = h
not_tells None X h = tt

both_tells : (v w : Option Bool) (X Y : Type 0) → Tells v X → Tells w Y → Tells (value_of_two and_of v w) (X × Y)
both_tells (Some true) (Some true) X Y h k = (h, k)
both_tells (Some true) (Some false) X Y h k = λ u. k u.1
both_tells (Some false) (Some true) X Y h k = λ u. h u.0
both_tells (Some false) (Some false) X Y h k = λ u. h u.0
both_tells (Some true) None X Y h k = tt
both_tells (Some false) None X Y h k = tt
both_tells None w X Y h k = tt

either_tells : (v w : Option Bool) (X Y : Type 0) → Tells v X → Tells w Y → Tells (value_of_two or_of v w) (X ⊎ Y)
either_tells (Some true) (Some true) X Y h k = inl h
either_tells (Some true) (Some false) X Y h k = inl h
either_tells (Some false) (Some true) X Y h k = inr k
either_tells (Some false) (Some false) X Y h k = λ u. elim u [ inl x ↦ h x | inr y ↦ k y ]
either_tells (Some true) None X Y h k = tt
either_tells (Some false) None X Y h k = tt
either_tells None w X Y h k = tt

module _ (m : Structure) (s : ℕ) (label : ℕ × ℕ) (e : slice_get m.states s ≡ Some label) where
  -- a propositional formula has its value
  pub value_tells : (f : Form) → Tells (value label f) (Holds m f s)
  value_tells truth = tt
  value_tells falsity = λ h. h
  value_tells (at side local) = local_tells m s label e side local
  value_tells (neg f) = not_tells (value label f) (Holds m f s) (value_tells f)
  value_tells (both f g) = both_tells (value label f) (value label g) (Holds m f s) (Holds m g s) (value_tells f) (value_tells g)
  value_tells (either f g) = either_tells (value label f) (value label g) (Holds m f s) (Holds m g s) (value_tells f) (value_tells g)
  value_tells (implies f g) = tt
  value_tells (next all side f) = tt
  value_tells (always all f) = tt
  value_tells (sometime all f) = tt
  value_tells (until all weak f g) = tt

yes_tells : (v : Option Bool) (X : Type 0) → Tells v X → is_yes v ≡ true → X
yes_tells (Some true) X h e = h
yes_tells (Some false) X h e = absurd (let q : false ≡ true = e in cc)
yes_tells None X h e = absurd (let q : false ≡ true = e in cc)

pub plain_true : (m : Structure) (c : ClosureParts) (s : ℕ) → s < length m.states → (label : ℕ × ℕ) → label_at m.states s ≡ label → (i : ℕ) → is_plain c label i ≡ true → Holds m (form_of c i) s
plain_true m c s lt label labelled i e = yes_tells (value label (form_of c i)) (Holds m (form_of c i) s) (value_tells m s label (label_read m s lt ∙ ap (λ l. Some l) labelled) (form_of c i)) e

module _ (m : Structure) (s : ℕ) (label : ℕ × ℕ) (e : slice_get m.states s ≡ Some label) (forms : List Form) where
  -- a wrong part is not true
  wrong_part : (part : Part) → is_wrong label part ≡ true → Holds m (form_of_part forms part) s → ⊥
  wrong_part No w h = h
  wrong_part (Lit side local true) w h = at_wrong (is_local label side local) w (local_tells m s label e side local) h
    where
      at_wrong : (b : Bool) → not b ≡ true → Tells (Some b) (HasLocal m side local s) → HasLocal m side local s → ⊥
      at_wrong true w t h = let q : false ≡ true = w in cc
      at_wrong false w t h = t h
  wrong_part (Lit side local false) w h = h (at_right (is_local label side local) w (local_tells m s label e side local))
    where
      at_right : (b : Bool) → b ≡ true → Tells (Some b) (HasLocal m side local s) → HasLocal m side local s
      at_right true w t = t
      at_right false w t = absurd (let q : false ≡ true = w in cc)
  wrong_part Yes w h = let q : false ≡ true = w in cc
  wrong_part (Both f g) w h = let q : false ≡ true = w in cc
  wrong_part (Either f g) w h = let q : false ≡ true = w in cc
  wrong_part (Next all side f) w h = let q : false ≡ true = w in cc
  wrong_part (Until all weak f g) w h = let q : false ≡ true = w in cc

some_lowest : (n : ℕ) (p : ℕ → Bool) (o : Option ℕ) → IsLowest n p o → is_some o ≡ true → (i : ℕ) × (i < n) × (p i ≡ true)
some_lowest n p (Some i) h e = (i, h.0, h.1)
some_lowest n p None h e = absurd (let q : false ≡ true = e in cc)

none_lowest : (n : ℕ) (p : ℕ → Bool) (o : Option ℕ) → IsLowest n p o → is_some o ≡ false → (i : ℕ) → i < n → p i ≡ false
none_lowest n p (Some i) h e = absurd (let q : true ≡ false = e in cc)
none_lowest n p None h e = h

pub clash_false : (m : Structure) (c : ClosureParts) → IsClosureParts c → (s : ℕ) → s < length m.states → (label : ℕ × ℕ) → label_at m.states s ≡ label → (row : Members) → ((i : ℕ) → row i ≡ true → Holds m (form_of c i) s) → clashes c label row ≡ true → ⊥
clash_false m c k s lt label labelled row h e =
    let u = some_lowest (count c) (is_shared row (wrong_of c label)) (lowest (count c) (is_shared row (wrong_of c label))) (lowest_is (count c) (is_shared row (wrong_of c label))) e in
    let w = and_parts (row u.0) (wrong_of c label u.0) u.2 in
    wrong_part m s label (label_read m s lt ∙ ap (λ l. Some l) labelled) (forms_of c.parts) (part_of c u.0) w.1 (subst (λ f. Holds m f s) (form_is c k u.0 u.1) (h u.0 w.0))

has_not : (a b : Bool) → a && b ≡ false → a ≡ true → b ≡ false
has_not true b e h = e
has_not false b e h = absurd (let q : false ≡ true = h in cc)

pub no_clash_right : (c : ClosureParts) (label : ℕ × ℕ) (row : Members) → clashes c label row ≡ false → AreRight c label row
no_clash_right c label row e i lt has = has_not (row i) (wrong_of c label i) (none_lowest (count c) (is_shared row (wrong_of c label)) (lowest (count c) (is_shared row (wrong_of c label))) (lowest_is (count c) (is_shared row (wrong_of c label))) e i lt) has

pub along_is_full : (only : Option Side) (c : ClosureParts) (label : ℕ × ℕ) (seed : Members) → IsClosureParts c → EachRow (IsExpansion c label seed) (expansion_along only c label seed)
along_is_full only c label seed k = rows_are_full c only label (is_plain c label) (clashes c label) (no_clash_right c label) seed (λ side. (k.moves.0, (k.moves.3 side).1))

pub expansion_is_full : ExpansionIsFull
expansion_is_full = along_is_full None

pub one_sided_is_full : OneSidedIsFull
one_sided_is_full c label seed k = each_append (IsExpansion c label seed) (expansion_along (Some A) c label seed) (expansion_along (Some B) c label seed) (along_is_full (Some A) c label seed k) (along_is_full (Some B) c label seed k)

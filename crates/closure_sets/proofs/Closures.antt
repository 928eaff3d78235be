-- The formulas of a closure's members.
use Rattle.std.proofs.Common.{ℕ, ◌≡◌, ◌<◌, inl, inr, Bool, false, Some, sym, ◌∙◌, ap, arith}
use Rattle.std.proofs.lemmas.List.{get_or_past}
use Rattle.std.proofs.lemmas.Bool.{cases_lt}
use Rattle.pair_structure.specs.declared.side.Side.{Side}
use Rattle.ctl_form.specs.Form.{truth, both, either, next, until}
use Rattle.ctl_form.specs.Members.{forms_of, form_of_part}
use Rattle.ctl_form.specs.declared.part.Part.{Part}
use Rattle.ctl_form.specs.declared.part.Part.TheVariants.{Yes, Both, Either, Next, Until}
use Rattle.closure_sets.specs.ClosureParts.{ClosureParts, IsClosureParts, count, after, some_move}
use Rattle.closure_sets.specs.Label.{part_of, form_of}

pub form_is : (c : ClosureParts) → IsClosureParts c → (i : ℕ) → i < count c → form_of c i ≡ form_of_part (forms_of c.parts) (part_of c i)
form_is c k i lt = k.numbering.stands i lt

-- only members have a part other than 'true'
pub member_of : (c : ClosureParts) (i : ℕ) (part : Part) → part_of c i ≡ part → (Yes ≡ part → ⊥) → i < count c
member_of c i part p other = elim (cases_lt i (count c)) [ inl l ↦ l | inr g ↦ absurd (other (sym (get_or_past c.parts i Yes (omega (arith, g))) ∙ p)) ]

-- the formula of a member by its part
pub as_part : (c : ClosureParts) → IsClosureParts c → (i : ℕ) (part : Part) → i < count c → part_of c i ≡ part → form_of c i ≡ form_of_part (forms_of c.parts) part
as_part c k i part lt p = form_is c k i lt ∙ ap (form_of_part (forms_of c.parts)) p

pub until_lt : (c : ClosureParts) (i f g : ℕ) (all weak : Bool) → part_of c i ≡ Until all weak f g → i < count c
until_lt c i f g all weak p = member_of c i (Until all weak f g) p (λ e. let q : Yes ≡ Until all weak f g = e in cc)

pub next_lt : (c : ClosureParts) (i f : ℕ) (all : Bool) (side : Side) → part_of c i ≡ Next all side f → i < count c
next_lt c i f all side p = member_of c i (Next all side f) p (λ e. let q : Yes ≡ Next all side f = e in cc)

pub both_lt : (c : ClosureParts) (i f g : ℕ) → part_of c i ≡ Both f g → i < count c
both_lt c i f g p = member_of c i (Both f g) p (λ e. let q : Yes ≡ Both f g = e in cc)

pub either_lt : (c : ClosureParts) (i f g : ℕ) → part_of c i ≡ Either f g → i < count c
either_lt c i f g p = member_of c i (Either f g) p (λ e. let q : Yes ≡ Either f g = e in cc)

pub both_form : (c : ClosureParts) → IsClosureParts c → (i f g : ℕ) → part_of c i ≡ Both f g → form_of c i ≡ both (form_of c f) (form_of c g)
both_form c k i f g p = as_part c k i (Both f g) (both_lt c i f g p) p

pub either_form : (c : ClosureParts) → IsClosureParts c → (i f g : ℕ) → part_of c i ≡ Either f g → form_of c i ≡ either (form_of c f) (form_of c g)
either_form c k i f g p = as_part c k i (Either f g) (either_lt c i f g p) p

pub until_form : (c : ClosureParts) → IsClosureParts c → (i f g : ℕ) (all weak : Bool) → part_of c i ≡ Until all weak f g → form_of c i ≡ until all weak (form_of c f) (form_of c g)
until_form c k i f g all weak p = as_part c k i (Until all weak f g) (until_lt c i f g all weak p) p

pub next_form : (c : ClosureParts) → IsClosureParts c → (i f : ℕ) (all : Bool) (side : Side) → part_of c i ≡ Next all side f → form_of c i ≡ next all (Some side) (form_of c f)
next_form c k i f all side p = as_part c k i (Next all side f) (next_lt c i f all side p) p

-- the next-times of an until, by their parts
pub after_part : (c : ClosureParts) → IsClosureParts c → (i f g : ℕ) (all weak : Bool) (side : Side) → part_of c i ≡ Until all weak f g → part_of c (after c side i) ≡ Next all side i
after_part c k i f g all weak side p = (k.nexts i f g all weak side (until_lt c i f g all weak p) p).1

pub next_of : (c : ClosureParts) → IsClosureParts c → (i f g : ℕ) (all weak : Bool) (side : Side) → i < count c → part_of c i ≡ Until all weak f g → form_of c (after c side i) ≡ next all (Some side) (form_of c i)
next_of c k i f g all weak side lt p = let n = k.nexts i f g all weak side lt p in form_is c k (after c side i) n.0 ∙ ap (form_of_part (forms_of c.parts)) n.1

pub some_of : (c : ClosureParts) → IsClosureParts c → (side : Side) → form_of c (some_move c side) ≡ next false (Some side) truth
some_of c k side =
    let n = k.moves.3 side in
    let t : form_of c k.moves.0 ≡ truth = form_is c k k.moves.0 k.moves.1 ∙ ap (form_of_part (forms_of c.parts)) k.moves.2 in
    form_is c k (some_move c side) n.0 ∙ ap (form_of_part (forms_of c.parts)) n.1 ∙ ap (λ x. next false (Some side) x) t

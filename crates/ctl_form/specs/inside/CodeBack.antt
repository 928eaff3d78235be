-- A tree is read back from its numbers, so equal numbers are those of equal trees. A `Model` with trees in its value has to show it.
use Rattle.std.specs.Prelude.{ℕ, zero, suc, ◌≡◌, ◌+◌, ◌≤◌, Bool, true, false, Option, Some, None, List, [], ◌∷◌, ◌++◌, refl}
use Rattle.std.proofs.Common.{length, length-append, subst, ap, arith, append_assoc, append-nil, sym, ◌∙◌}
use Rattle.std.specs.Coded.{Coded, code_by, coded_list, coded_ℕ}
use Rattle.pair_structure.specs.declared.side.Side.{Side}
use Rattle.pair_structure.specs.declared.side.Side.TheVariants.{A, B}
use Rattle.ctl_form.specs.Code.{bit, is_one, side_digit, side_of, one_digit, one_side, numbers, read}
use Rattle.ctl_form.specs.Form.{Form, truth, falsity, at, neg, both, either, implies, next, always, sometime, until}

bit_back : (b : Bool) → is_one (bit b) ≡ b
bit_back true = refl
bit_back false = refl

side_back : (s : Option Side) → side_of (side_digit s) ≡ s
side_back None = refl
side_back (Some A) = refl
side_back (Some B) = refl

one_back : (s : Side) → one_side (one_digit s) ≡ s
one_back A = refl
one_back B = refl

two_back : (make : Form → Form → Form) (d : ℕ) (f g : Form) (ns mid rest : List ℕ) → read d ns ≡ (f, mid) → read d mid ≡ (g, rest)
    → ◌≡◌ {A = Form × List ℕ} (make (read d ns).0 (read d (read d ns).1).0, (read d (read d ns).1).1) (make f g, rest)
two_back make d f g ns mid rest e1 e2 = rw (e1, e2) refl

one_back_form : (make : Form → Form) (d : ℕ) (f : Form) (ns rest : List ℕ) → read d ns ≡ (f, rest) → ◌≡◌ {A = Form × List ℕ} (make (read d ns).0, (read d ns).1) (make f, rest)
one_back_form make d f ns rest e = rw e refl

parts : (f g : Form) (rest : List ℕ) (d : ℕ) → ((rest : List ℕ) → read d (numbers f ++ rest) ≡ (f, rest)) → ((rest : List ℕ) → read d (numbers g ++ rest) ≡ (g, rest)) → (make : Form → Form → Form)
    → ◌≡◌ {A = Form × List ℕ} (make (read d ((numbers f ++ numbers g) ++ rest)).0 (read d (read d ((numbers f ++ numbers g) ++ rest)).1).0, (read d (read d ((numbers f ++ numbers g) ++ rest)).1).1) (make f g, rest)
parts f g rest d first second make = rw append_assoc (two_back make d f g (numbers f ++ (numbers g ++ rest)) (numbers g ++ rest) rest (first (numbers g ++ rest)) (second rest))

height : Form → ℕ
height truth = 1
height falsity = 1
height (at s p) = 1
height (neg f) = suc (height f)
height (both f g) = suc (height f + height g)
height (either f g) = suc (height f + height g)
height (implies f g) = suc (height f + height g)
height (next all s f) = suc (height f)
height (always all f) = suc (height f)
height (sometime all f) = suc (height f)
height (until all weak f g) = suc (height f + height g)

read_back : (f : Form) (d : ℕ) (rest : List ℕ) → height f ≤ d → read d (numbers f ++ rest) ≡ (f, rest)
unfolding height
read_back truth zero rest le = absurd (omega (arith, le))
read_back falsity zero rest le = absurd (omega (arith, le))
read_back (at s p) zero rest le = absurd (omega (arith, le))
read_back (neg f) zero rest le = absurd (omega (arith, le))
read_back (both f g) zero rest le = absurd (omega (arith, le))
read_back (either f g) zero rest le = absurd (omega (arith, le))
read_back (implies f g) zero rest le = absurd (omega (arith, le))
read_back (next all s f) zero rest le = absurd (omega (arith, le))
read_back (always all f) zero rest le = absurd (omega (arith, le))
read_back (sometime all f) zero rest le = absurd (omega (arith, le))
read_back (until all weak f g) zero rest le = absurd (omega (arith, le))
read_back truth (suc d) rest le = refl
read_back falsity (suc d) rest le = refl
read_back (at s p) (suc d) rest le = rw (one_back s) refl
read_back (neg f) (suc d) rest le = one_back_form neg d f (numbers f ++ rest) rest (read_back f d rest (omega arith))
read_back (both f g) (suc d) rest le = parts f g rest d (λ rest. read_back f d rest (omega arith)) (λ rest. read_back g d rest (omega arith)) both
read_back (either f g) (suc d) rest le = parts f g rest d (λ rest. read_back f d rest (omega arith)) (λ rest. read_back g d rest (omega arith)) either
read_back (implies f g) (suc d) rest le = parts f g rest d (λ rest. read_back f d rest (omega arith)) (λ rest. read_back g d rest (omega arith)) implies
read_back (next all s f) (suc d) rest le = rw (bit_back all, side_back s) (one_back_form (next all s) d f (numbers f ++ rest) rest (read_back f d rest (omega arith)))
read_back (always all f) (suc d) rest le = rw (bit_back all) (one_back_form (always all) d f (numbers f ++ rest) rest (read_back f d rest (omega arith)))
read_back (sometime all f) (suc d) rest le = rw (bit_back all) (one_back_form (sometime all) d f (numbers f ++ rest) rest (read_back f d rest (omega arith)))
read_back (until all weak f g) (suc d) rest le = rw (bit_back all, bit_back weak) (parts f g rest d (λ rest. read_back f d rest (omega arith)) (λ rest. read_back g d rest (omega arith)) (until all weak))

height_within : (f : Form) → height f ≤ length (numbers f)
unfolding height
height_within truth = omega arith
height_within falsity = omega arith
height_within (at s p) = omega arith
height_within (neg f) = omega (arith, height_within f)
height_within (both f g) = omega (arith, height_within f, height_within g, length-append (numbers f) (numbers g))
height_within (either f g) = omega (arith, height_within f, height_within g, length-append (numbers f) (numbers g))
height_within (implies f g) = omega (arith, height_within f, height_within g, length-append (numbers f) (numbers g))
height_within (next all s f) = omega (arith, height_within f)
height_within (always all f) = omega (arith, height_within f)
height_within (sometime all f) = omega (arith, height_within f)
height_within (until all weak f g) = omega (arith, height_within f, height_within g, length-append (numbers f) (numbers g))

pub form_back : (f : Form) → (read (length (numbers f)) (numbers f)).0 ≡ f
form_back f = ap (λ (r : Form × List ℕ). r.0) (subst (λ ns. read (length (numbers f)) ns ≡ (f, [])) (append-nil (numbers f)) (read_back f (length (numbers f)) [] (height_within f)))

-- equal numbers are those of equal trees
pub numbers_same : (f g : Form) → numbers f ≡ numbers g → f ≡ g
numbers_same f g e = sym (form_back f) ∙ ap (λ ns. (read (length ns) ns).0) e ∙ form_back g

-- the code of a form
abbrev pub form_code : Coded Form
form_code = code_by (List ℕ) (coded_list coded_ℕ) numbers (λ ns. (read (length ns) ns).0) form_back

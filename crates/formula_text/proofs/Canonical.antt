-- The canonical text of a formula is a spelling of it.
use Rattle.std.proofs.Common.{ℕ, ◌≡◌, true, List, [], ◌∷◌, ◌++◌, refl, sym, ap, ◌∙◌, arith, subst, append-nil}
use Rattle.std.proofs.lemmas.List.Folds.{list_all-append}
use Rattle.pair_structure.specs.Parts.{Names}
use Rattle.ctl_form.specs.Form.{Form, truth, falsity, at, neg, both, either, implies, next, always, sometime, until}
use Rattle.formula_text.specs.declared.sign.Mark.TheVariants.{And, Or, Arrow, Close, Right}
use Rattle.formula_text.specs.declared.sign.Sign.{Sign}
use Rattle.formula_text.specs.declared.sign.Sign.TheVariants.{Behind, Until}
use Rattle.formula_text.specs.Canonical.{AreNames, IsOver, CanonicalIsFormula}
use Rattle.formula_text.specs.FormulaText.{formula_text}
use Rattle.formula_text.specs.Sets.{plain, signs_over}
use Rattle.formula_text.specs.Sign.{signs_of}
use Rattle.formula_text.specs.Token.{tokens_of}
use Rattle.formula_text.specs.Tree.{signs, Fits, tree_form, is_known, AreKnown}
use Rattle.formula_text.proofs.CanonicalSigns.{tree_of, text_says}
use Rattle.formula_text.proofs.SetLaws.{plain_signs}

pub form_again : (f : Form) → tree_form (tree_of f) ≡ f
form_again truth = refl
form_again falsity = refl
form_again (at side p) = refl
form_again (neg f) = ap neg (form_again f)
form_again (both f g) = let h = form_again f in let k = form_again g in cc
form_again (either f g) = let h = form_again f in let k = form_again g in cc
form_again (implies f g) = let h = form_again f in let k = form_again g in cc
form_again (next all side f) = ap (next all side) (form_again f)
form_again (always all f) = ap (always all) (form_again f)
form_again (sometime all f) = ap (sometime all) (form_again f)
form_again (until all weak f g) = let h = form_again f in let k = form_again g in cc

fits_each : (n : ℕ) (f : Form) → Fits n (tree_of f)
fits_each n truth = tt
fits_each n falsity = tt
fits_each n (at side p) = tt
fits_each n (neg f) = fits_each 3 f
fits_each n (both f g) = (omega arith, fits_each 2 f, fits_each 3 g)
fits_each n (either f g) = (omega arith, fits_each 1 f, fits_each 2 g)
fits_each n (implies f g) = (omega arith, fits_each 1 f, fits_each 0 g)
fits_each n (next all side f) = fits_each 3 f
fits_each n (always all f) = fits_each 3 f
fits_each n (sometime all f) = fits_each 3 f
fits_each n (until all weak f g) = (fits_each 0 f, fits_each 0 g)

-- signs that are known, one that is, and more that are
known_around : (ss ts : List Sign) (m : Sign) → AreKnown ss → is_known m ≡ true → AreKnown ts → AreKnown (ss ++ (m ∷ ts))
known_around ss ts m one mid two = list_all-append is_known ss (m ∷ ts) ∙ rw (one, mid, two) refl

known_each : (f : Form) → AreKnown (signs (tree_of f))
known_each truth = refl
known_each falsity = refl
known_each (at side p) = refl
known_each (neg f) = known_each f
known_each (both f g) = known_around (signs (tree_of f) ++ (Behind And ∷ signs (tree_of g))) [] (Behind Close) (known_around (signs (tree_of f)) (signs (tree_of g)) (Behind And) (known_each f) refl (known_each g)) refl refl
known_each (either f g) = known_around (signs (tree_of f) ++ (Behind Or ∷ signs (tree_of g))) [] (Behind Close) (known_around (signs (tree_of f)) (signs (tree_of g)) (Behind Or) (known_each f) refl (known_each g)) refl refl
known_each (implies f g) = known_around (signs (tree_of f) ++ (Behind Arrow ∷ signs (tree_of g))) [] (Behind Close) (known_around (signs (tree_of f)) (signs (tree_of g)) (Behind Arrow) (known_each f) refl (known_each g)) refl refl
known_each (next all side f) = known_each f
known_each (always all f) = known_each f
known_each (sometime all f) = known_each f
known_each (until all weak f g) = known_around (signs (tree_of f)) (signs (tree_of g) ++ (Behind Right ∷ [])) (Until weak) (known_each f) refl (known_around (signs (tree_of g)) [] (Behind Right) (known_each g) refl refl)

pub canonical_signs : (a b : Names) (f : Form) → AreNames a → AreNames b → IsOver a b f → signs_of a b (tokens_of (formula_text a b f)) ≡ signs (tree_of f)
canonical_signs a b f na nb over =
    ap (λ text. signs_of a b (tokens_of text)) (sym (append-nil (formula_text a b f))) ∙ text_says a b f na nb over [] tt ∙ append-nil (signs (tree_of f))

pub canonical_is_formula : CanonicalIsFormula
canonical_is_formula a b f na nb over =
    let text = tokens_of (formula_text a b f) in
    let same : signs_over (plain a) (plain b) text ≡ signs (tree_of f) = plain_signs a b text ∙ canonical_signs a b f na nb over in
    record {
      spelled = record { tree = tree_of f; spells = same; fits = fits_each 0 f; means = form_again f };
      known = subst AreKnown (sym same) (known_each f);
    }

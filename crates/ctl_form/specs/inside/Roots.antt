-- Formulas walked one after another, and their numbers.
use Rattle.std.specs.Prelude.{ℕ, ◌≡◌, ◌<◌, List, length, map, All}
use Rattle.ctl_form.specs.Form.{Form}
use Rattle.ctl_form.specs.Members.{form_at, forms_of}
use Rattle.ctl_form.specs.Walk.{walk_all}
use Rattle.ctl_form.specs.declared.part.Part.{Part}

-- the walk of the formulas turns the first parts into the second, and the roots are the formulas' numbers
pub record AreRoots (fs : List Form) (old new : List Part) (roots : List ℕ) : Type 0 where
  pub forms : forms_of new ≡ walk_all fs (forms_of old)
  pub members : All (λ root. root < length new) roots
  pub rooted : map (form_at (forms_of new)) roots ≡ fs

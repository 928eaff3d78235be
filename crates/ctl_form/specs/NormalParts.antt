-- What contracts see of formulas in normal form: the parts of the members in the order of their numbers, and the number of each root.
use Rattle.std.specs.Prelude.{ℕ, ◌<◌, List, length, All}
use Rattle.ctl_form.specs.Closure.{opening, AreWithin, IsGrown}
use Rattle.ctl_form.specs.Form.{Form}
use Rattle.ctl_form.specs.Members.{form_at, forms_of}
use Rattle.ctl_form.specs.declared.part.Part.{Part}

pub record NormalParts : Type 0 where
  pub parts : List Part
  pub roots : List ℕ

-- the formula of a member
abbrev pub formula_of : NormalParts → ℕ → Form
formula_of n member = form_at (forms_of n.parts) member

-- the four members that each closure has are there, with each member what it brings, and the roots are members
pub record AreNormalParts (parts : List Part) (roots : List ℕ) : Type 0 where
  pub opens : AreWithin opening (forms_of parts)
  pub grown : IsGrown (forms_of parts)
  pub rooted : All (λ root. root < length parts) roots

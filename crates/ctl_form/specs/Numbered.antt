-- When numbered members are the closure of some conjuncts.
use Rattle.std.specs.Prelude.{ℕ, ◌≡◌, ◌<◌, ◌↔◌, true, List, length, map, slice_index}
use Rattle.pair_structure.specs.Structure.{Structure, GoesOn}
use Rattle.ctl_form.specs.Closure.{IsClosed, IsClosure}
use Rattle.ctl_form.specs.Form.{Form}
use Rattle.ctl_form.specs.Members.{form_at, forms_of}
use Rattle.ctl_form.specs.MemberTable.{IsNumbering}
use Rattle.ctl_form.specs.Normal.{normal}
use Rattle.ctl_form.specs.NormalParts.{NormalParts, formula_of}
use Rattle.ctl_form.specs.Truth.{Holds}
use Rattle.ctl_form.specs.Walk.{members_of}
use Rattle.ctl_form.specs.declared.limits.TheConstants.{MAX_MEMBERS}
use Rattle.ctl_form.specs.declared.normal_fault.NormalFault.{NormalFault}
use Rattle.ctl_form.specs.declared.normal_fault.NormalFault.TheVariants.{Over, Memory}

abbrev pub normals : List Form → List Form
normals conjuncts = map (normal true) conjuncts

-- each root means what its conjunct means, at each state of each structure
abbrev pub RootsMean : List Form → NormalParts → Type 0
RootsMean conjuncts n = (m : Structure) → GoesOn m → (i s : ℕ) → i < length conjuncts → s < length m.states → Holds m (formula_of n (slice_index n.roots i)) s ↔ Holds m (form_at conjuncts i) s

-- the members are the closure, in the order of the walk, and the roots are the conjuncts' normal forms
pub record IsNormalOf (conjuncts : List Form) (n : NormalParts) : Type 0 where
  pub numbering : IsNumbering n.parts
  pub members : forms_of n.parts ≡ members_of (normals conjuncts)
  pub closure : IsClosure (normals conjuncts) (forms_of n.parts)
  pub rooted : map (formula_of n) n.roots ≡ normals conjuncts
  pub mean : RootsMean conjuncts n

-- each closed list, and so the closure, has more than MAX_MEMBERS formulas
abbrev pub IsTooLarge : List Form → Type 0
IsTooLarge conjuncts = (forms : List Form) → IsClosed (normals conjuncts) forms → MAX_MEMBERS < length forms

abbrev pub IsRefusalOf : List Form → NormalFault → Type 0
IsRefusalOf conjuncts Over = IsTooLarge conjuncts
IsRefusalOf conjuncts Memory = Unit {0}

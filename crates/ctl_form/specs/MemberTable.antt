-- How members are kept: their parts in the order of their numbers, and the numbers by the parts.
use Rattle.std.specs.Prelude.{ℕ, ◌≡◌, ◌<◌, ◌≤◌, List, length, Option, Some, Result, MatchResult}
use Rattle.std.specs.declared.cmp.Ordering.{Ordering}
use Rattle.std.specs.BTreeMap.{BTreeMap, get}
use Rattle.std.specs.List.{IsDistinct}
use Rattle.ctl_form.specs.Form.{Form}
use Rattle.ctl_form.specs.Members.{part_at, form_at, form_of_part, forms_of, IsBelow}
use Rattle.ctl_form.specs.Walk.{same_form}
use Rattle.ctl_form.specs.declared.limits.TheConstants.{MAX_MEMBERS}
use Rattle.ctl_form.specs.declared.normal_fault.NormalFault.{NormalFault}
use Rattle.ctl_form.specs.declared.normal_fault.NormalFault.TheVariants.{Over, Memory}
use Rattle.ctl_form.specs.declared.part.Part.{Part}
use Rattle.ctl_form.specs.contracts.part.PartOrd.TheImpl as part_ord

-- parts compared as the map compares them
abbrev pub part_cmp : Part → Part → Ordering
part_cmp = (part_ord.ghosts).cmp

-- at most MAX_MEMBERS members; each is given by members below it, and no formula is given twice
pub record IsNumbering (parts : List Part) : Type 0 where
  pub few : length parts ≤ MAX_MEMBERS
  pub rising : (n : ℕ) → n < length parts → IsBelow n (part_at parts n)
  pub stands : (n : ℕ) → n < length parts → form_at (forms_of parts) n ≡ form_of_part (forms_of parts) (part_at parts n)
  pub distinct : IsDistinct same_form (forms_of parts)

-- the look-up has the number of each part, and no other numbers
pub record IsIndex (parts : List Part) (look : Part → Option ℕ) : Type 0 where
  pub found : (n : ℕ) → n < length parts → look (part_at parts n) ≡ Some n
  pub within : (p : Part) (n : ℕ) → look p ≡ Some n → n < length parts
  pub only : (p : Part) (n : ℕ) → look p ≡ Some n → part_at parts n ≡ p

pub record IsTable (parts : List Part) (numbers : BTreeMap Part ℕ) : Type 0 where
  pub numbering : IsNumbering parts
  pub index : IsIndex parts (get part_cmp numbers)

-- the members' formulas are those that were walked, and n is the number of this one
pub record IsNumbered (walked : List Form) (form : Form) (parts : List Part) (n : ℕ) : Type 0 where
  pub forms : forms_of parts ≡ walked
  pub below : n < length parts
  pub is : form_at (forms_of parts) n ≡ form

-- what a fault says of the formulas that were to be walked
abbrev pub IsFaultOf : List Form → NormalFault → Type 0
IsFaultOf walked Over = MAX_MEMBERS < length walked
IsFaultOf walked Memory = Unit {0}

-- at Ok what was walked has its numbers, and this formula the one in the answer
abbrev pub Numbers : List Form → Form → List Part → Result ℕ NormalFault → Type 0
Numbers walked form parts result = MatchResult result (IsNumbered walked form parts) (IsFaultOf walked)

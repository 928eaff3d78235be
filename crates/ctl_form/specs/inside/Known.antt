-- Formulas that were labelled, by their codes, while the formulas of a kind are judged one after another.
use Rattle.std.specs.Prelude.{ℕ, ◌≡◌, Bool, List, Some}
use Rattle.std.specs.Global.{Vec}
use Rattle.std.specs.declared.cmp.Ordering.{Ordering}
use Rattle.std.specs.BTreeMap.{BTreeMap, get}
use Rattle.std.specs.Cmp.Lexicographic.{slice_cmp}
use Rattle.std.specs.Ordering.{nat_cmp}
use Rattle.pair_structure.specs.Structure.{Structure}
use Rattle.ctl_form.specs.Code.{numbers}
use Rattle.ctl_form.specs.Form.{Form}
use Rattle.ctl_form.specs.Row.{IsTruthOf}

-- the order of codes
abbrev pub code_cmp : Vec ℕ → Vec ℕ → Ordering
code_cmp code other = slice_cmp nat_cmp code.items other.items

-- a row that stands at a formula's code has its truth
abbrev pub AreKnown : Structure → BTreeMap (Vec ℕ) (List Bool) → Type 0
AreKnown m known = (code : Vec ℕ) (row : List Bool) → get code_cmp known code ≡ Some row → (f : Form) → numbers f ≡ code.items → IsTruthOf m f row

-- Rows that stand at the codes of formulas have the formulas' truth, also after one more is put there.
use Rattle.std.proofs.Common.{ℕ, ◌≡◌, Bool, true, false, cond, List, [], Option, Some, None, refl, subst, sym, ◌∙◌, ap}
use Rattle.std.specs.Global.{Vec}
use Rattle.std.specs.declared.cmp.Ordering.{Ordering}
use Rattle.std.specs.declared.cmp.Ordering.TheVariants.{Less, Equal, Greater}
use Rattle.std.specs.BTreeMap.{BTreeMap, get, is_at}
use Rattle.std.specs.Ordering.{is_eq}
use Rattle.std.proofs.lemmas.Map.Lookups.{exact_bytes}
use Rattle.pair_structure.specs.Structure.{Structure}
use Rattle.ctl_form.specs.Code.{numbers}
use Rattle.ctl_form.specs.inside.CodeBack.{numbers_same}
use Rattle.ctl_form.specs.Form.{Form}
use Rattle.ctl_form.specs.inside.Known.{AreKnown, code_cmp}
use Rattle.ctl_form.specs.Row.{IsTruthOf}

equal_of : (r : Ordering) → is_eq r ≡ true → r ≡ Equal
equal_of Less e = let f : false ≡ true = e in cc
equal_of Equal e = refl
equal_of Greater e = let f : false ≡ true = e in cc

abbrev some_row : Option (List Bool) → List Bool
some_row None = []
some_row (Some row) = row

-- a row that was found at the formula's code
pub AreKnown-found : (m : Structure) (known : BTreeMap (Vec ℕ) (List Bool)) (code : Vec ℕ) (row : List Bool) (f : Form) → code.items ≡ numbers f
    → Some row ≡ get code_cmp known code → AreKnown m known → IsTruthOf m f row
AreKnown-found m known code row f spelled found all = all code row (sym found) f (sym spelled)

-- one more row at its formula's code
pub AreKnown-kept : (m : Structure) (known new : BTreeMap (Vec ℕ) (List Bool)) (code : Vec ℕ) (row : List Bool) (f : Form) → code.items ≡ numbers f → IsTruthOf m f row
    → ((q : Vec ℕ) → get code_cmp new q ≡ cond (is_at (code_cmp code) q) (Some row) (get code_cmp known q)) → AreKnown m known → AreKnown m new
AreKnown-kept m known new code row f spelled is_truth updates all q r found g e = by (is_at (code_cmp code) q) refl
  where
    by : (b : Bool) → is_at (code_cmp code) q ≡ b → IsTruthOf m g r
    by true here =
        let same = exact_bytes code.items q.items (equal_of (code_cmp code q) here) in
        let form : g ≡ f = numbers_same g f (e ∙ sym same ∙ spelled) in
        let rows : r ≡ row = ap some_row (sym found ∙ updates q ∙ ap (λ (b : Bool). cond b (Some row) (get code_cmp known q)) here) in
        subst (λ (x : Form). IsTruthOf m x r) (sym form) (subst (λ (x : List Bool). IsTruthOf m f x) (sym rows) is_truth)
    by false here = all q r (sym (updates q ∙ ap (λ (b : Bool). cond b (Some row) (get code_cmp known q)) here) ∙ found) g e

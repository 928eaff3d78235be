-- The roots mean what the conjuncts mean.
use Rattle.std.proofs.Common.{ℕ, ◌≡◌, ◌<◌, ◌↔◌, true, List, arith, sym, ◌∙◌, ap, subst, length, map, get_or}
use Rattle.std.proofs.lemmas.List.{get_or-map, length-map}
use Rattle.ctl_form.specs.Closure.{opening, IsClosure}
use Rattle.ctl_form.specs.Form.{Form, truth}
use Rattle.ctl_form.specs.Members.{form_at, forms_of}
use Rattle.ctl_form.specs.MemberTable.{IsNumbering, IsFaultOf}
use Rattle.ctl_form.specs.Normal.{normal}
use Rattle.ctl_form.specs.NormalParts.{NormalParts, formula_of}
use Rattle.ctl_form.specs.Numbered.{normals, RootsMean, IsNormalOf, IsRefusalOf}
use Rattle.ctl_form.specs.inside.Roots.{AreRoots}
use Rattle.ctl_form.specs.Truth.{Holds}
use Rattle.ctl_form.specs.Walk.{walk_all, members_of}
use Rattle.ctl_form.specs.declared.normal_fault.NormalFault.{NormalFault}
use Rattle.ctl_form.specs.declared.normal_fault.NormalFault.TheVariants.{Over, Memory}
use Rattle.ctl_form.specs.declared.part.Part.{Part}
use Rattle.ctl_form.proofs.ClosureLaws.{members_closure, length-members_of}
use Rattle.ctl_form.proofs.Negation.{normal_says}

-- the formula of a root is the normal form of its conjunct
root_formula : (conjuncts : List Form) (n : NormalParts) (i : ℕ) → map (formula_of n) n.roots ≡ normals conjuncts → i < length conjuncts → formula_of n (get_or n.roots i 0) ≡ normal true (form_at conjuncts i)
root_formula conjuncts n i rooted h =
    let long : length n.roots ≡ length conjuncts = sym (length-map n.roots (formula_of n)) ∙ ap length rooted ∙ length-map conjuncts (normal true) in
    sym (get_or-map (formula_of n) n.roots i 0 truth (omega (arith, h, long))) ∙ ap (λ l. get_or l i truth) rooted ∙ get_or-map (normal true) conjuncts i truth truth h

pub roots_mean : (conjuncts : List Form) (n : NormalParts) → map (formula_of n) n.roots ≡ normals conjuncts → RootsMean conjuncts n
roots_mean conjuncts n rooted m on i s h lt = subst (λ f. Holds m f s ↔ Holds m (form_at conjuncts i) s) (sym (root_formula conjuncts n i rooted h)) (normal_says m on true (form_at conjuncts i) s lt)

-- from the opening members the walk of the roots gives the closure
pub normal_of : (conjuncts : List Form) (n : NormalParts) (old : List Part) → IsNumbering n.parts → forms_of old ≡ opening → AreRoots (normals conjuncts) old n.parts n.roots → IsNormalOf conjuncts n
normal_of conjuncts n old numbering opened roots =
    let members : forms_of n.parts ≡ members_of (normals conjuncts) = roots.forms ∙ ap (walk_all (normals conjuncts)) opened in
    record {
      numbering = numbering;
      members = members;
      closure = subst (IsClosure (normals conjuncts)) (sym members) (members_closure (normals conjuncts));
      rooted = roots.rooted;
      mean = roots_mean conjuncts n roots.rooted;
    }

-- a fault of the walk is one of the closure
pub refusal_of : (conjuncts forms : List Form) (fault : NormalFault) → forms ≡ opening → IsFaultOf (walk_all (normals conjuncts) forms) fault → IsRefusalOf conjuncts fault
refusal_of conjuncts forms Over e h = λ others closed. omega (arith, h, ap (λ l. length (walk_all (normals conjuncts) l)) e, length-members_of (normals conjuncts) others closed)
refusal_of conjuncts forms Memory e h = h

-- the opening members are among each closure's
pub opening_refusal : (conjuncts : List Form) (fault : NormalFault) → IsFaultOf opening fault → IsRefusalOf conjuncts fault
opening_refusal conjuncts Over h = absurd (omega (arith, h))
opening_refusal conjuncts Memory h = h

-- When a closure has been numbered, it is within the limit.
use Rattle.std.proofs.Common.{List, arith}
use Rattle.pair_structure.specs.Role.{RoleParts}
use Rattle.ctl_form.specs.declared.pair_spec.PairSpec.{PairSpec}
use Rattle.ctl_form.specs.Form.{Form}
use Rattle.ctl_form.specs.Members.{forms_of}
use Rattle.ctl_form.specs.NormalParts.{NormalParts}
use Rattle.ctl_form.specs.Numbered.{IsNormalOf, IsTooLarge}
use Rattle.text_cause.specs.Cause.{IsFree}
use Rattle.ctl_text.specs.Normals.{conjuncts_of}
use Rattle.ctl_text.specs.inside.LineCause.{KindEndStands}
use Rattle.ctl_form.proofs.MemberLaws.{length-forms_of}

within : (conjuncts : List Form) (n : NormalParts) → IsNormalOf conjuncts n → IsTooLarge conjuncts → ⊥
within conjuncts n normal large =
    let over = large (forms_of n.parts) normal.closure.closed in
    let few = normal.numbering.few in omega (arith, length-forms_of n.parts)

-- nothing stands against the end of a kind that has a normal form
pub kind_free : (roles : List RoleParts) (k : PairSpec) (n : NormalParts) → IsNormalOf (conjuncts_of roles k) n → IsFree (KindEndStands roles k)
kind_free roles k n normal = record { free = λ cause h. within (conjuncts_of roles k) n normal h.1 }

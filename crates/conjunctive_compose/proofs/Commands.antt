-- The commands of the kinds, one kind further.
use Rattle.std.proofs.Common.{ℕ, ◌≡◌, ◌<◌, ◌+◌, inl, inr, List, [], ◌∷◌, ◌++◌, length, get_or, arith, sym, subst, ◌∙◌}
use Rattle.std.proofs.lemmas.Bool.{cases_eq}
use Rattle.std.proofs.lemmas.List.{get_or_append_left, get_or_default, get_or_push, length-append}
use Rattle.pair_structure.specs.Structure.{Structure, IsOver}
use Rattle.skeleton_extract.specs.Commands.{IsSkeleton, Lists}
use Rattle.interconnection.specs.Network.{NetworkParts}
use Rattle.conjunctive_compose.specs.System.{HasCommandsBelow, HasStructures, no_lists, no_structure, role_a, role_b, structure_of}

-- the structure of a kind is over the kind's roles
pub structure_over : (net : NetworkParts) (structures : List Structure) (n : ℕ) (m : Structure) → HasStructures net structures → n < length structures → m ≡ get_or structures n m → IsOver (role_a net n) (role_b net n) m
structure_over net structures n m have lt is =
    subst (IsOver (role_a net n) (role_b net n)) (sym (is ∙ get_or_default structures n m no_structure lt)) (have.over n (omega (arith, lt, have.one_each)))

pub commands_more : (net : NetworkParts) (structures : List Structure) (lists : List Lists) (n : ℕ) (m : Structure) (added : Lists) → n < length structures → m ≡ get_or structures n m → HasCommandsBelow n net structures lists
    → IsSkeleton (role_a net n) (role_b net n) m added → HasCommandsBelow (n + 1) net structures (lists ++ added ∷ [])
commands_more net structures lists n m added lt is below skeleton = record {
  one_each = omega (arith, length-append lists (added ∷ []), below.one_each);
  commands = λ kind in'. elim (cases_eq kind n) [ inl same ↦ here kind same | inr ne ↦ before kind (omega arith) ];
}
  where
    m_is : m ≡ structure_of structures n
    m_is = is ∙ get_or_default structures n m no_structure lt

    here : (kind : ℕ) → kind ≡ n → IsSkeleton (role_a net kind) (role_b net kind) (structure_of structures kind) (get_or (lists ++ added ∷ []) kind no_lists)
    here kind same = rw (same, ← m_is, get_or_push lists added no_lists n below.one_each) skeleton

    before : (kind : ℕ) → kind < n → IsSkeleton (role_a net kind) (role_b net kind) (structure_of structures kind) (get_or (lists ++ added ∷ []) kind no_lists)
    before kind l = rw (get_or_append_left lists (added ∷ []) no_lists kind (omega (arith, l, below.one_each))) (below.commands kind l)

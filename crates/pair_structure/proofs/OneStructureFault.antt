-- States and moves have one first fault at most.
use Rattle.std.proofs.Common.{ℕ, ◌≡◌, ◌==◌, List, refl, sym, ap, ◌∙◌}
use Rattle.std.specs.Prelude.{if◌then◌else◌}
use Rattle.pair_structure.specs.declared.side.Move.{Move}
use Rattle.pair_structure.specs.declared.structure_fault.StructureFault.{StructureFault}
use Rattle.pair_structure.specs.declared.structure_fault.StructureFault.TheVariants.{Empty, Start, LocalRange, MoveRange, NotAnArc, OtherSideMoved, NotRising, NoMove, Memory}
use Rattle.pair_structure.specs.Role.{RoleParts}
use Rattle.pair_structure.specs.StructureFault.{IsFirstStructureFault, Stands, kind_of, place_of}
use Rattle.pair_structure.proofs.FirstLaws.{IsFirst-same}

-- the fault of this kind, at this place
abbrev fault_at : ℕ → ℕ → StructureFault
fault_at kind place =
    if kind == 1 then Empty else (if kind == 2 then Start else (if kind == 3 then LocalRange place else (if kind == 4 then MoveRange place else
    (if kind == 5 then NotAnArc place else (if kind == 6 then OtherSideMoved place else (if kind == 7 then NotRising place else (if kind == 8 then NoMove place else Memory)))))))

fault_is : (fault : StructureFault) → fault_at (kind_of fault) (place_of fault) ≡ fault
fault_is Empty = refl
fault_is Start = refl
fault_is (LocalRange state) = refl
fault_is (MoveRange n) = refl
fault_is (NotAnArc n) = refl
fault_is (OtherSideMoved n) = refl
fault_is (NotRising n) = refl
fault_is (NoMove state) = refl
fault_is Memory = refl

pub first_structure_fault_once : (a b : RoleParts) (states : List (ℕ × ℕ)) (moves : List Move) (x y : StructureFault) → IsFirstStructureFault a b states moves x → IsFirstStructureFault a b states moves y → x ≡ y
first_structure_fault_once a b states moves x y p q =
    let same = IsFirst-same kind_of place_of (Stands a b states moves) x y p q in
    sym (fault_is x) ∙ ap (λ k. fault_at k (place_of x)) same.0 ∙ ap (fault_at (kind_of y)) same.1 ∙ fault_is y

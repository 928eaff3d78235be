-- What is known of an option, told otherwise.
use Rattle.std.proofs.Common.{◌≡◌, true, false, Option, Some, None, IfSome, IfNone}

pub some_as : {X : Type 0} (o : Option X) (P Q : X → Type 0) → ((x : X) → P x → Q x) → IfSome o P → IfSome o Q
some_as (Some x) P Q told h = told x h
some_as None P Q told h = h

pub none_as : {X : Type 0} (o : Option X) (P Q : Type 0) → (P → Q) → IfNone o P → IfNone o Q
none_as (Some x) P Q told h = h
none_as None P Q told h = told h

-- what would make a false test true does not hold
pub untrue-false : {P : Type 0} → (P → false ≡ true) → P → ⊥
untrue-false means p = let h = means p in cc

-- A role with one of its local states as its only start.
use Rattle.std.proofs.Common.{ℕ, ◌<◌, ◌≡◌, List, [], ◌∷◌, length, get_or, zero, suc, arith}
use Rattle.pair_structure.specs.declared.side.LocalArc.{LocalArc}
use Rattle.pair_structure.specs.Role.{AreLawful}

pub starting_is_role : (locals : List (List ℕ)) (starts : List ℕ) (arcs : List LocalArc) (start : ℕ) → AreLawful locals starts arcs → start < length locals → AreLawful locals (start ∷ []) arcs
starting_is_role locals starts arcs start role within = record {
  some = role.some;
  few_locals = role.few_locals;
  names_differ = role.names_differ;
  begins = omega arith;
  starts_within = one;
  starts_differ = λ i j d lt past. absurd (omega (arith, lt, past));
  few_arcs = role.few_arcs;
  joins = role.joins;
  ends_differ = role.ends_differ;
  leaves = role.leaves;
}
  where
    one : (i d : ℕ) → i < length (start ∷ []) → get_or (start ∷ []) i d < length locals
    one zero d lt = within
    one (suc i) d lt = absurd (omega (arith, lt))

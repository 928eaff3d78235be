-- The neighbours of a process, which rise: finding one, and putting one more at its place.
use Rattle.std.proofs.Common.{ℕ, ◌==◌, ◌≡◌, ◌<◌, ◌≤◌, ◌↔◌, IsTrue, ◌++◌, ◌∷◌, [], List, length, get_or, insert, arith, inl, inr, sym, ◌∙◌, ap, eqb-true, eq-eqb}
use Rattle.std.specs.List.Sorted.{IsPartitionPoint}
use Rattle.std.proofs.lemmas.Bool.{cases_lt}
use Rattle.std.proofs.lemmas.List.Edits.{length-insert}
use Rattle.std.proofs.lemmas.List.Elements.{Contains-get_or}
use Rattle.interconnection.specs.declared.parts.Beside.{Beside}
use Rattle.interconnection.specs.Around.{HasBeside, IsGrown, IsOrdered}
use Rattle.interconnection.proofs.RisingLists.{RisesBy-insert, Contains-insert, stands_at_its_place}

strictly : (x y : ℕ) → x ≤ y → (y ≡ x → ⊥) → x < y
strictly x y le differ = elim (cases_lt x y) [ inl lt ↦ lt | inr ge ↦ absurd (differ (omega arith)) ]

pub IsGrown-from_insert : (beside : List Beside) (plan : List ℕ) (b : Beside) (j : ℕ) → IsOrdered beside → (HasBeside beside b.process → ⊥)
    → j ≤ length beside → IsPartitionPoint (λ (x : Beside). x.process < b.process) (λ (x : Beside). b.process ≤ x.process) beside j
    → IsGrown (record { beside = beside; plan = plan }) b (record { beside = insert beside j b; plan = plan ++ b.edge ∷ [] })
IsGrown-from_insert beside plan b j ordered fresh within point = record {
  ordered = RisesBy-insert (λ (x : Beside). x.process) beside j b ordered within
      (λ k d lt. point.0 k d (omega arith) lt)
      (λ k d from lt. strictly b.process (get_or beside k d).process (point.1 k d from lt) (λ same. fresh (get_or beside k d, Contains-get_or beside k d lt, same)));
  beside = λ x. Contains-insert beside j b x;
  plan = λ i. plan ++ b.edge ∷ [];
  count = length-insert beside j b within;
}

-- a process is a neighbour exactly where the one that stands at its place is it
pub found_at_place : (beside : List Beside) (i process : ℕ) (found : Beside) → IsOrdered beside → IsPartitionPoint (λ (x : Beside). x.process < process) (λ (x : Beside). process ≤ x.process) beside i
    → i < length beside → ((d : Beside) → found ≡ get_or beside i d) → IsTrue (found.process == process) ↔ HasBeside beside process
found_at_place beside i process found ordered point lt is = (λ same. (found, (i, lt, sym (is found)), eqb-true found.process process same), to)
  where
    to : HasBeside beside process → IsTrue (found.process == process)
    to (b, has, same) =
        let at = stands_at_its_place (λ (x : Beside). x.process) beside i process b ordered point has same in
        eq-eqb found.process process (ap (λ (x : Beside). x.process) (is b ∙ at.1) ∙ same)

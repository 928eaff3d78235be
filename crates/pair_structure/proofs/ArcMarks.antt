-- Marks in rows, and the arcs that they stand for.
use Rattle.std.proofs.Common.{ℕ, ◌≡◌, ◌<◌, ◌+◌, ◌⊎◌, ◌↔◌, Bool, true, false, IsTrue, List, length, get_or, take, arith, inl, inr, subst, replicate}
use Rattle.std.proofs.lemmas.Bool.{cases_eq}
use Rattle.std.proofs.lemmas.Grind.{common_steps}
use Rattle.pair_structure.specs.declared.side.LocalArc.{LocalArc}
use Rattle.pair_structure.specs.inside.ArcTable.{is_marked, IsTableOf}
use Rattle.pair_structure.specs.Role.{HasArc}

pub is_marked_none : (n m p q : ℕ) → is_marked (replicate n (replicate m false)) p q ≡ false
is_marked_none n m p q = grind (arith, common_steps)

-- an arc that is read joins the arcs before it
arcs_more : (arcs : List LocalArc) (n p q : ℕ) (d : LocalArc) → n < length arcs → HasArc (take n arcs) p q ⊎ (((get_or arcs n d).from ≡ p) × ((get_or arcs n d).to ≡ q)) → HasArc (take (n + 1) arcs) p q
arcs_more arcs n p q d lt h = grind (arith, common_steps)

arcs_before : (arcs : List LocalArc) (n p q : ℕ) (d : LocalArc) → n < length arcs → HasArc (take (n + 1) arcs) p q → HasArc (take n arcs) p q ⊎ (((get_or arcs n d).from ≡ p) × ((get_or arcs n d).to ≡ q))
arcs_before arcs n p q d lt h = grind (arith, common_steps)

-- the marks of the arcs that are read, and of one more
pub table_more : (rows marked : List (List Bool)) (arcs : List LocalArc) (n : ℕ) (d : LocalArc) → n < length arcs → is_marked marked (get_or arcs n d).from (get_or arcs n d).to ≡ true
    → ((p q : ℕ) → (((get_or arcs n d).from ≡ p) × ((get_or arcs n d).to ≡ q) → ⊥) → is_marked marked p q ≡ is_marked rows p q) → IsTableOf rows (take n arcs) → IsTableOf marked (take (n + 1) arcs)
table_more rows marked arcs n d lt here elsewhere is p q =
    elim (cases_eq (get_or arcs n d).from p) [
      | inr differ ↦ go (λ same. differ same.0)
      | inl same_from ↦ elim (cases_eq (get_or arcs n d).to q) [
        | inr differ ↦ go (λ same. differ same.1)
        | inl same_to ↦ (
          λ _. arcs_more arcs n p q d lt (inr (same_from, same_to)),
          λ _. subst (λ x. IsTrue (is_marked marked x q)) same_from (subst (λ y. IsTrue (is_marked marked (get_or arcs n d).from y)) same_to here),
        )
      ]
    ]
  where
    go : (((get_or arcs n d).from ≡ p) × ((get_or arcs n d).to ≡ q) → ⊥) → IsTrue (is_marked marked p q) ↔ HasArc (take (n + 1) arcs) p q
    go other = (
      λ marked. arcs_more arcs n p q d lt (inl ((is p q).0 (rw (elsewhere p q other) at marked))),
      λ has. elim (arcs_before arcs n p q d lt has) [ inl before ↦ rw (elsewhere p q other) ((is p q).1 before) | inr same ↦ absurd (other same) ],
    )

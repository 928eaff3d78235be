-- The quotient is over the roles that the structure is over, and begins where it begins.
use Rattle.std.proofs.Common.{ℕ, ◌≡◌, ◌<◌, ◌+◌, ◌*◌, List, length, Some, All, Contains, get_or, arith, sym, ◌∙◌, subst, ap}
use Rattle.std.proofs.lemmas.List.{get_or_default}
use Rattle.std.proofs.lemmas.List.Elements.{All-contains}
use Rattle.std.proofs.lemmas.Option.{slice_get-get_or, slice_get_within}
use Rattle.pair_structure.specs.declared.side.Move.{Move}
use Rattle.pair_structure.specs.Role.{RoleParts, IsRole, start_at}
use Rattle.pair_structure.specs.Structure.{Structure, GoesOn, HaveStarts, IsOver, IsLabel, IsLawfulMove, IsRising, TakesArc, OtherStays, label_at}
use Rattle.pair_structure.proofs.StartRows.{start_among}
use Rattle.pair_quotient.specs.Quotient.{IsQuotient}
use Rattle.pair_quotient.proofs.StartClasses.{start_class}

pub IsOver-quotient : (m q : Structure) (classes : List ℕ) → GoesOn m → GoesOn q → IsRising q.moves → IsQuotient m classes q → (a b : RoleParts) → IsRole a → IsRole b → IsOver a b m → IsOver a b q
IsOver-quotient m q classes on goes rising is a b role_a role_b over = record { some = some; starts = starts; labels = labels; lawful = lawful; rising = rising; goes_on = goes }
  where
    some : 0 < length q.states
    some = let lt = is.within 0 over.some in omega (arith, lt)

    starts : HaveStarts a b q.states
    starts i j li lj =
        let label = over.starts i j li lj in
        let state = slice_get_within m.states (i * length b.starts + j) (start_at a.starts i, start_at b.starts j) label in
        let stays = start_class m q classes is a b role_a role_b over (i * length b.starts + j) (start_among i j (length a.starts) (length b.starts) li lj) in
        let there : i * length b.starts + j < length q.states = subst (λ c. c < length q.states) stays (is.within (i * length b.starts + j) state) in
        let e : label_at q.states (i * length b.starts + j) ≡ label_at m.states (i * length b.starts + j) = ap (λ c. label_at q.states c) (sym stays) ∙ is.labels (i * length b.starts + j) state in
        slice_get-get_or q.states (i * length b.starts + j) (0, 0) there ∙ ap (λ (l : ℕ × ℕ). Some l) e ∙ sym (slice_get-get_or m.states (i * length b.starts + j) (0, 0) state) ∙ label

    labels : All (IsLabel a b) q.states
    labels c d lc =
        let u = is.lowest c lc in
        let e : label_at m.states u.0 ≡ get_or q.states c d = sym (is.labels u.0 u.1.state) ∙ ap (λ x. label_at q.states x) u.1.member ∙ get_or_default q.states c (0, 0) d lc in
        subst (IsLabel a b) e (over.labels u.0 (0, 0) u.1.state)

    -- a move between classes is one between their members
    lawful_at : (x : Move) → Contains q.moves x → IsLawfulMove a b q.states x
    lawful_at x has =
        let u = (is.moves x.side x.from x.to).0 has in
        let from = on.leaves x.side u.0 u.1 u.2 in
        let to = on.within x.side u.0 u.1 u.2 in
        let law = All-contains (IsLawfulMove a b m.states) m.moves (record { from = u.0; side = x.side; to = u.1 }) over.lawful u.2 in
        let e : label_at m.states u.0 ≡ label_at q.states x.from = sym (is.labels u.0 from) ∙ ap (λ c. label_at q.states c) u.3 in
        let f : label_at m.states u.1 ≡ label_at q.states x.to = sym (is.labels u.1 to) ∙ ap (λ c. label_at q.states c) u.4 in
        record {
          from = goes.leaves x.side x.from x.to has;
          to = goes.within x.side x.from x.to has;
          arc = subst (λ l. TakesArc a.arcs b.arcs x.side (label_at q.states x.from) l) f (subst (λ k. TakesArc a.arcs b.arcs x.side k (label_at m.states u.1)) e law.arc);
          stays = subst (λ l. OtherStays x.side (label_at q.states x.from) l) f (subst (λ k. OtherStays x.side k (label_at m.states u.1)) e law.stays);
        }

    lawful : All (IsLawfulMove a b q.states) q.moves
    lawful k d lt = lawful_at (get_or q.moves k d) (k, lt, get_or_default q.moves k (get_or q.moves k d) d lt)

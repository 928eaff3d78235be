-- The locks that a network plans for a process, as the rule over words asks for them.
use Rattle.std.proofs.Common.{ℕ, suc, ◌≡◌, ◌<◌, inl, inr, List, [], ◌∷◌, length, arith, ◌∙◌, ap, subst, Contains}
use Rattle.std.specs.Prelude.{slice_index}
use Rattle.std.proofs.lemmas.List.{get_or_default}
use Rattle.interconnection.specs.Graph.{IsLockPlan}
use Rattle.interconnection.specs.declared.parts.Beside.{Beside}
use Rattle.interconnection.proofs.Locks.{few_locks}
use Rattle.conjunctive_compose.specs.System.{SystemParts, IsSystem, Joins, edge_count, process_count}
use Rattle.conjunctive_compose.proofs.Neighbours.{AreBeside}
use Rattle.firing_words.specs.Lists.{Has}
use Rattle.firing_hall.specs.inside.Locks.{IsPlan}
use Rattle.firing_words.specs.Stars.{beside_at, no_beside}
use Rattle.firing_hall.proofs.Same.{at_has}

has_at : (xs : List ℕ) (x : ℕ) → Has x xs → (i : ℕ) × (i < length xs) × (slice_index xs i ≡ x)
has_at [] x h = absurd h
has_at (y ∷ xs) x (inl e) = (0, omega arith, e)
has_at (y ∷ xs) x (inr h) = let r = has_at xs x h in (suc r.0, omega (arith, r.1), r.2)

has_contained : (xs : List ℕ) (x : ℕ) → Contains xs x → Has x xs
has_contained xs x (i, lt, is) = subst (λ (y : ℕ). Has y xs) (get_or_default xs i 0 x lt ∙ is) (at_has xs i lt)

contained_has : (xs : List ℕ) (x : ℕ) → Has x xs → Contains xs x
contained_has xs x has = let a = has_at xs x has in (a.0, a.1, get_or_default xs a.0 x 0 a.1 ∙ a.2)

-- an edge of the process stands among its neighbours
pub edge_among : (sys : SystemParts) (k : ℕ) (list : List Beside) (e : ℕ) → AreBeside sys k list → e < edge_count sys → Joins sys e k → (i : ℕ) × (i < length list) × ((beside_at list i).edge ≡ e)
edge_among sys k list e are lt (side, on) =
    let found = are.all e side lt on in
    (found.0, found.1, ap {B = ℕ} (λ (b : Beside). b.edge) (get_or_default list found.0 no_beside _ found.1 ∙ found.2))

pub plan_of : (sys : SystemParts) (k : ℕ) (plan : List ℕ) → IsSystem sys → k < process_count sys → IsLockPlan sys.network.edges k plan → IsPlan sys k plan
plan_of sys k plan system within planned = record {
  below = λ i lt. (few_locks sys.network system.network).within k (slice_index plan i) within ((planned.exactly (slice_index plan i)).0 (contained_has plan (slice_index plan i) (at_has plan i lt)));
  distinct = λ i j before lt same. let up = planned.rising i j 0 before lt in omega (arith, up, same);
  exactly = λ l. ((λ has. (planned.exactly l).0 (contained_has plan l has)), (λ is. has_contained plan l ((planned.exactly l).1 is)));
}

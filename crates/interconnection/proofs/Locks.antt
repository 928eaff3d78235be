-- The locks of a process.
use Rattle.std.proofs.Common.{ℕ, zero, suc, ◌==◌, ◌≡◌, ◌≢◌, ◌+◌, ◌∷◌, [], List, length, cond, count_by, Contains, arith, inl, inr, sym, ◌∙◌, ap, ne_eqb}
use Rattle.std.proofs.Math.Seq.{take-length}
use Rattle.pair_structure.specs.declared.side.Side.{Side}
use Rattle.pair_structure.specs.declared.side.Side.TheVariants.{A, B}
use Rattle.pair_structure.specs.Sides.{opposite}
use Rattle.interconnection.specs.declared.parts.Edge.{Edge}
use Rattle.interconnection.specs.declared.limits.TheConstants.{MAX_NEIGHBOURS}
use Rattle.interconnection.specs.Around.{Around, IsAround, AreAround, AreEdgesBelow, AreGiven, IsGiven, IsLocked, AreLocked, around_at}
use Rattle.interconnection.specs.Graph.{IsBeside, IsLockOf, IsLockPlan, degree_of, edge_at, end_of, joins}
use Rattle.interconnection.specs.Laws.{HasFewLocks, SharedLocksJoin}
use Rattle.interconnection.specs.Network.{NetworkParts, IsNetwork}
use Rattle.interconnection.proofs.Besides.{AreNeighbours-from_around}
use Rattle.interconnection.proofs.EdgeCount.{few_edges}

-- the edges of a process are its plan, and where there are none its own lock
IsLockPlan-from_edges : (edges : List Edge) (k : ℕ) (plan : List ℕ) → AreEdgesBelow (length edges) edges k plan → length plan ≡ degree_of edges k → IsLockPlan edges k (cond (length plan == 0) ((length edges + k) ∷ []) plan)
IsLockPlan-from_edges edges k [] are degree = record { rising = λ i j d before lt. absurd (omega (arith, lt, before)); exactly = λ lock. (to lock, from lock) }
  where
    to : (lock : ℕ) → Contains ((length edges + k) ∷ []) lock → IsLockOf edges k lock
    to lock (zero, lt, is) = inr (sym is, sym degree)
    to lock (suc i, lt, is) = absurd (omega (arith, lt))

    from : (lock : ℕ) → IsLockOf edges k lock → Contains ((length edges + k) ∷ []) lock
    from lock (inl edge) = absurd (omega (arith, ((are.exactly lock).1 edge).1))
    from lock (inr (is, none)) = (0, omega arith, sym is)
IsLockPlan-from_edges edges k (e ∷ plan) are degree = rw (ne_eqb (length (e ∷ plan)) 0 (λ none. cc)) (record { rising = are.rising; exactly = λ lock. (λ has. inl ((are.exactly lock).0 has), from lock) })
  where
    from : (lock : ℕ) → IsLockOf edges k lock → Contains (e ∷ plan) lock
    from lock (inl edge) = (are.exactly lock).1 edge
    from lock (inr (is, none)) = absurd (omega (arith, degree, none))

IsLocked-from_given : (edges : List Edge) (k : ℕ) (old new : Around) → IsAround (length edges) edges k old → IsGiven old (length edges + k) new → IsLocked edges k new
IsLocked-from_given edges k old new is given =
    let all = ap (λ es. count_by (joins k) es) (take-length edges) in
    record {
      neighbours = rw given.beside (AreNeighbours-from_around edges k old is);
      degree = rw given.beside (is.count ∙ all);
      plan = rw given.plan (IsLockPlan-from_edges edges k old.plan is.plan (is.plan.count ∙ all));
    }

-- the edges read, and own locks given, each process has its neighbours and its locks
pub AreLocked-from_given : (count : ℕ) (edges : List Edge) (old new : List Around) → AreAround count edges old → AreGiven (length edges) old new → AreLocked count edges new
AreLocked-from_given count edges old new around given = record {
  size = given.size ∙ around.size;
  each = λ k lt. IsLocked-from_given edges k (around_at old k) (around_at new k) (around.each k lt) (given.given k (omega (arith, lt, around.size)));
}

-- of two processes on one edge each is on the other's other side
other_side : (edge : Edge) (j k : ℕ) (s t : Side) → j ≢ k → end_of edge s ≡ j → end_of edge t ≡ k → end_of edge (opposite t) ≡ j
other_side edge j k A A differ on_j on_k = absurd (differ (sym on_j ∙ on_k))
other_side edge j k A B differ on_j on_k = on_j
other_side edge j k B A differ on_j on_k = on_j
other_side edge j k B B differ on_j on_k = absurd (differ (sym on_j ∙ on_k))

pub shared_locks : SharedLocksJoin
shared_locks edges j k lock differ = (λ both. to both.0 both.1, λ is. (inl (is.1.within, (opposite is.0, is.1.other)), inl (is.1.within, (is.0, is.1.own))))
  where
    to : IsLockOf edges j lock → IsLockOf edges k lock → (side : Side) × IsBeside edges k (record { process = j; edge = lock; side = side })
    to (inl (lt, (s, on_j))) (inl (within, (t, on_k))) = (t, record { within = within; own = on_k; other = other_side (edge_at edges lock) j k s t differ on_j on_k })
    to (inl (lt, on)) (inr (is, none)) = absurd (omega (arith, lt, is))
    to (inr (is, none)) (inl (lt, on)) = absurd (omega (arith, lt, is))
    to (inr (is, none)) (inr (same, also)) = absurd (differ (omega (arith, is, same)))

pub few_locks : (net : NetworkParts) → IsNetwork net → HasFewLocks net
few_locks net lawful =
    let few = few_edges net MAX_NEIGHBOURS lawful lawful.degrees in
    record {
      within = λ k lock lt is. elim is [ inl edge ↦ omega (arith, edge.0) | inr own ↦ omega (arith, own.0, lt) ];
      each = omega (arith, few);
      all = omega (arith, few, lawful.few_processes);
    }

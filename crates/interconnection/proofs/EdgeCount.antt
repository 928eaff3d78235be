-- A network has few edges: each of them counts at two processes.
use Rattle.std.proofs.Common.{ℕ, zero, suc, ◌≡◌, ◌≢◌, ◌<◌, ◌≤◌, ◌+◌, ◌*◌, true, ltb, List, [], ◌∷◌, length, refl, arith, All, add-one}
use Rattle.std.specs.Prelude.{◌==◌, ◌||◌, cond, sum_by}
use Rattle.std.proofs.Math.Nat.{mul-suc, mul-zero}
use Rattle.std.proofs.lemmas.Bool.{lt-ltb}
use Rattle.std.proofs.lemmas.Bool.Decides.{nat_tests}
use Rattle.std.proofs.lemmas.List.Sums.{sum_by-cons}
use Rattle.interconnection.specs.declared.parts.Edge.{Edge}
use Rattle.interconnection.specs.Graph.{degree_of, joins}
use Rattle.interconnection.specs.Network.{JoinsTwo, NetworkParts, IsNetwork}

-- how many of the edge's two processes have a number below n
abbrev ends_below : ℕ → Edge → ℕ
ends_below n edge = cond (ltb edge.a n) 1 0 + cond (ltb edge.b n) 1 0

next_number : (a b n : ℕ) → a ≢ b → (cond (ltb a (n + 1)) 1 0) + (cond (ltb b (n + 1)) 1 0) ≤ (cond (ltb a n) 1 0) + (cond (ltb b n) 1 0) + cond ((a == n) || (b == n)) 1 0
next_number a b n differ = grind (arith, nat_tests)

-- the ends at process n come on top
next_process : (n : ℕ) (edges : List Edge) → All JoinsTwo edges → sum_by (ends_below (n + 1)) edges ≤ sum_by (ends_below n) edges + degree_of edges n
next_process n [] two = omega arith
next_process n (edge ∷ edges) two =
    let now = sum_by-cons (ends_below (n + 1)) edge edges in
    let before = sum_by-cons (ends_below n) edge edges in
    let degree = sum_by-cons (λ e. cond (joins n e) 1 0) edge edges in
    let here = next_number edge.a edge.b n (two 0 edge (omega arith)) in
    let later = next_process n edges (λ i d lt. two (suc i) d (omega arith)) in
    omega arith

end_nowhere : (edges : List Edge) → sum_by (ends_below 0) edges ≤ 0
end_nowhere [] = omega arith
end_nowhere (edge ∷ edges) =
    let now = sum_by-cons (ends_below 0) edge edges in
    let a : cond (ltb edge.a 0) 1 0 ≤ 0 = grind (arith, nat_tests) in
    let b : cond (ltb edge.b 0) 1 0 ≤ 0 = grind (arith, nat_tests) in
    let later = end_nowhere edges in
    omega arith

end_below : (n most : ℕ) (edges : List Edge) → All JoinsTwo edges → ((k : ℕ) → k < n → degree_of edges k ≤ most) → sum_by (ends_below n) edges ≤ most * n
end_below zero most edges two few = rw (mul-zero most) (end_nowhere edges)
end_below (suc n) most edges two few =
    let before = end_below n most edges two (λ k lt. few k (omega arith)) in
    let here : degree_of edges n ≤ most = few n (omega arith) in
    let more = rw add-one at (next_process n edges two) in
    rw (mul-suc most n) (omega arith)

all_end : (n : ℕ) (edges : List Edge) → All (λ (e : Edge). (e.a < n) × (e.b < n)) edges → 2 * length edges ≤ sum_by (ends_below n) edges
all_end n [] all = omega arith
all_end n (edge ∷ edges) all =
    let now = sum_by-cons (ends_below n) edge edges in
    let both = all 0 edge (omega arith) in
    let a : ltb edge.a n ≡ true = lt-ltb edge.a n both.0 in
    let b : ltb edge.b n ≡ true = lt-ltb edge.b n both.1 in
    let here_a : ◌≡◌ {A = ℕ} (cond (ltb edge.a n) 1 0) 1 = rw a refl in
    let here_b : ◌≡◌ {A = ℕ} (cond (ltb edge.b n) 1 0) 1 = rw b refl in
    let later = all_end n edges (λ i d lt. all (suc i) d (omega arith)) in
    omega (arith, here_a, here_b)

-- half the greatest degree of edges a process
pub few_edges : (net : NetworkParts) (most : ℕ) → IsNetwork net → ((k : ℕ) → k < length net.processes → degree_of net.edges k ≤ most) → 2 * length net.edges ≤ most * length net.processes
few_edges net most lawful few =
    let n = length net.processes in
    let all = all_end n net.edges (λ i d lt. (let within = lawful.in_range i d lt in (within.0, within.1))) in
    let below = end_below n most net.edges lawful.joins_two few in
    omega arith

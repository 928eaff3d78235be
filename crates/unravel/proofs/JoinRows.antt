-- The turns of the start states, row by row.
use Rattle.std.proofs.Common.{ℕ, ◌≡◌, ◌<◌, ◌+◌, ◌-◌, ◌*◌, Some, length, arith, refl, subst, slice_get, slice_index_or, All}
use Rattle.std.proofs.lemmas.Option.{slice_get_within}
use Rattle.pair_structure.specs.Role.{RoleParts, start_at, starting_at}
use Rattle.pair_structure.specs.Structure.{Structure, start_count}
use Rattle.ctl_form.specs.NormalParts.{NormalParts, formula_of}
use Rattle.ctl_form.specs.Truth.{Holds}
use Rattle.ctl_form.proofs.BoundedMorphism.{morphism_keeps_truth}
use Rattle.unravel.specs.inside.Joining.{HaveRoots, IsAtRow, IsJoined, with_joined}
use Rattle.unravel.specs.Outcome.{SatisfiesRoots}
use Rattle.unravel.proofs.JoinedNext.{joined_more, roots_more}
use Rattle.unravel.proofs.Renumbered.{renumbered, renumbered_inside, renumbered_over, swap, swap_there}

pub below_product : (i k m n : ℕ) → i < m → k < n → i * n + k < m * n
below_product i k m n li lk = let same : i + 1 + (m - (i + 1)) ≡ m = omega (arith, li) in subst (λ x. i * n + k < x * n) same (within (m - (i + 1)))
  where
    within : (d : ℕ) → i * n + k < (i + 1 + d) * n
    within d = let whole : (i + 1 + d) * n ≡ i * n + n + d * n = omega arith in omega (arith, whole, lk)

module _ (a b : RoleParts) (n : NormalParts) (start begun0 k begun : ℕ) (row : IsAtRow a b start begun0) (within : k < length b.starts) (turn : begun ≡ begun0 + k) where
  place : begun ≡ row.0 * length b.starts + k
  place = omega (arith, turn, row.3)

  pub turn_within : begun < start_count a b
  turn_within = let lt = below_product row.0 k (length a.starts) (length b.starts) row.1 within in omega (arith, lt, place)

  stands : (w : Structure) → IsJoined a b begun w → slice_get w.states begun ≡ Some (start, start_at b.starts k)
  stands w j = rw (place, row.2) (j.starts row.0 k row.1 within)

  module _ (w m : Structure) (j : IsJoined a b begun w) (sat : SatisfiesRoots (starting_at a start) (starting_at b (start_at b.starts k)) n m) where
    pub joined_next : IsJoined a b (begun + 1) (with_joined begun w m)
    joined_next = joined_more a b n begun w m start (start_at b.starts k) j turn_within (stands w j) sat

    pub roots_next : HaveRoots n begun w → HaveRoots n (begun + 1) (with_joined begun w m)
    roots_next = roots_more a b n begun w m start (start_at b.starts k) j turn_within (stands w j) sat

  -- where there is none that begins here, there is none at all
  pub none_here : ((m : Structure) → SatisfiesRoots (starting_at a start) (starting_at b (start_at b.starts k)) n m → ⊥) → (m : Structure) → SatisfiesRoots a b n m → ⊥
  none_here none m sat = none (renumbered a b m sat.over begun lt) (record { over = renumbered_over a b m sat.over begun lt start (start_at b.starts k) there; roots = roots })
    where
      there : slice_get m.states begun ≡ Some (start, start_at b.starts k)
      there = rw (place, row.2) (sat.over.starts row.0 k row.1 within)

      lt : begun < length m.states
      lt = slice_get_within m.states begun (start, start_at b.starts k) there

      here : (root : ℕ) → Holds m (formula_of n root) begun → Holds (renumbered a b m sat.over begun lt) (formula_of n root) 0
      here root h =
          subst (Holds (renumbered a b m sat.over begun lt) (formula_of n root)) (swap_there begun begun refl)
          ((morphism_keeps_truth m (renumbered a b m sat.over begun lt) (λ s. s < length m.states) (swap begun) (renumbered_inside a b m sat.over begun lt) (formula_of n root) begun lt).0 h)

      roots : (s : ℕ) → s < start_count (starting_at a start) (starting_at b (start_at b.starts k)) → All (λ root. Holds (renumbered a b m sat.over begun lt) (formula_of n root) s) n.roots
      roots s l i d li =
          let first : 0 ≡ s = omega (arith, l) in
          subst (Holds (renumbered a b m sat.over begun lt) (formula_of n (slice_index_or n.roots i d))) first (here (slice_index_or n.roots i d) (sat.roots begun turn_within i d li))

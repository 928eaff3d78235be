-- The arcs that leave a local state, in the role's order.
use Rattle.std.specs.Prelude.{ℕ, ◌≡◌, ◌==◌, ◌<◌, Bool, List, length, take, count_by}
use Rattle.pair_structure.specs.declared.side.LocalArc.{LocalArc}
use Rattle.pair_structure.specs.Parts.{arc_at}

abbrev pub leaves : ℕ → LocalArc → Bool
leaves local arc = arc.from == local

-- how many arcs leave the local state
abbrev pub leaving_count : List LocalArc → ℕ → ℕ
leaving_count arcs local = count_by (leaves local) arcs

-- this arc leaves the local state, and n arcs before it do
pub record IsLeavingArc (arcs : List LocalArc) (local n arc : ℕ) : Type 0 where
  pub within : arc < length arcs
  pub leaving : (arc_at arcs arc).from ≡ local
  pub before : leaving_count (take arc arcs) local ≡ n

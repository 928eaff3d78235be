-- A full row has a next-time of some path.
use Rattle.std.proofs.Common.{ℕ, ◌≡◌, inl, inr, false}
use Rattle.pair_structure.specs.declared.side.Side.{Side}
use Rattle.pair_structure.specs.declared.side.Side.TheVariants.{A, B}
use Rattle.ctl_form.specs.declared.part.Part.TheVariants.{Next}
use Rattle.closure_sets.specs.ClosureParts.{ClosureParts, IsClosureParts, some_move}
use Rattle.closure_sets.specs.Full.{Has, IsFull}
use Rattle.closure_sets.specs.Label.{part_of}
use Rattle.closure_sets.specs.Row.{Members}

-- a full row has some EXs h
pub full_has_some_next : (c : ClosureParts) → IsClosureParts c → (row : Members) → IsFull c row → (i : ℕ) × (h : ℕ) × (side : Side) × Has row i × (part_of c i ≡ Next false side h)
full_has_some_next c k row full = let m = k.moves in elim full.onward [ inl a ↦ (some_move c A, m.0, A, a, (m.3 A).1) | inr b ↦ (some_move c B, m.0, B, b, (m.3 B).1) ]

-- Sides, and the parts of labels.
use Rattle.std.proofs.Common.{ℕ, ◌≡◌, true, refl, sym}
use Rattle.pair_structure.specs.declared.side.Side.{Side}
use Rattle.pair_structure.specs.declared.side.Side.TheVariants.{A, B}
use Rattle.pair_structure.specs.Ordinal.{is_same_side}
use Rattle.pair_structure.specs.Structure.{OtherStays}
use Rattle.pair_structure.specs.Sides.{opposite, local_of, with_local}

pub is_same_side_itself : (side : Side) → is_same_side side side ≡ true
is_same_side_itself A = refl
is_same_side_itself B = refl

pub side_from_is_same : (side other : Side) → is_same_side side other ≡ true → side ≡ other
side_from_is_same A A same = refl
side_from_is_same A B same = absurd (cc)
side_from_is_same B A same = absurd (cc)
side_from_is_same B B same = refl

pub same_pairs : (a b c d : ℕ) → a ≡ c → b ≡ d → ◌≡◌ {A = ℕ × ℕ} (a, b) (c, d)
same_pairs a b c d p q = cc

pair_same : (x y : ℕ × ℕ) → x.0 ≡ y.0 → x.1 ≡ y.1 → x ≡ y
pair_same x y p q = same_pairs x.0 x.1 y.0 y.1 p q

-- a label is known by a side's part and the other's
pub label_from_locals : (side : Side) (x y : ℕ × ℕ) → local_of side x ≡ local_of side y → local_of (opposite side) x ≡ local_of (opposite side) y → x ≡ y
label_from_locals A x y p q = pair_same x y p q
label_from_locals B x y p q = pair_same x y q p

pub opposite_local_stays : (side : Side) (x y : ℕ × ℕ) → OtherStays side x y → local_of (opposite side) x ≡ local_of (opposite side) y
opposite_local_stays A x y stays = stays
opposite_local_stays B x y stays = stays

pub with_local_from_locals : (side : Side) (x y : ℕ × ℕ) (q : ℕ) → local_of side y ≡ q → local_of (opposite side) x ≡ local_of (opposite side) y → y ≡ with_local side x q
with_local_from_locals A x y q e f = pair_same y (q, x.1) e (sym f)
with_local_from_locals B x y q e f = pair_same y (x.0, q) (sym f) e

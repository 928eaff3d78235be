-- What contracts see of a closure: its members by their parts, its roots, and the next-times that the expansion looks up.
use Rattle.std.specs.Prelude.{ℕ, ◌≡◌, ◌<◌, Bool, false, List, length, All, slice_index_or}
use Rattle.pair_structure.specs.declared.side.Side.{Side}
use Rattle.pair_structure.specs.declared.side.Side.TheVariants.{A, B}
use Rattle.ctl_form.specs.Members.{part_at}
use Rattle.ctl_form.specs.MemberTable.{IsNumbering}
use Rattle.ctl_form.specs.declared.part.Part.{Part}
use Rattle.ctl_form.specs.declared.part.Part.TheVariants.{Yes, Next, Until}

pub record ClosureParts : Type 0 where
  pub parts : List Part
  pub roots : List ℕ
  pub after_a : List ℕ
  pub after_b : List ℕ
  pub some_a : ℕ
  pub some_b : ℕ

-- the number of members
abbrev pub count : ClosureParts → ℕ
count c = length c.parts

-- the member AXs u or EXs u of an until u
abbrev pub after : ClosureParts → Side → ℕ → ℕ
after c A i = slice_index_or c.after_a i 0
after c B i = slice_index_or c.after_b i 0

-- the member EXs true
abbrev pub some_move : ClosureParts → Side → ℕ
some_move c A = c.some_a
some_move c B = c.some_b

-- a member is the next-time of this kind and side of member u
abbrev pub IsNextOf : List Part → Bool → Side → ℕ → ℕ → Type 0
IsNextOf parts all side u n = (n < length parts) × (part_at parts n ≡ Next all side u)

-- of each until, the lists have its next-times of the two sides
abbrev pub HasNexts : List Part → (Side → ℕ → ℕ) → Type 0
HasNexts parts after = (i f g : ℕ) (all weak : Bool) (side : Side) → i < length parts → part_at parts i ≡ Until all weak f g → IsNextOf parts all side i (after side i)

-- EXs true, for both sides, over one member that is true
abbrev pub HasMoves : List Part → (Side → ℕ) → Type 0
HasMoves parts some_move = (truth : ℕ) × (truth < length parts) × (part_at parts truth ≡ Yes) × ((side : Side) → IsNextOf parts false side truth (some_move side))

pub record IsClosureParts (c : ClosureParts) : Type 0 where
  pub numbering : IsNumbering c.parts
  pub rooted : All (λ root. root < length c.parts) c.roots
  pub long_a : length c.after_a ≡ length c.parts
  pub long_b : length c.after_b ≡ length c.parts
  pub nexts : HasNexts c.parts (after c)
  pub moves : HasMoves c.parts (some_move c)

-- some member has this part
abbrev pub HasPart : List Part → Part → Type 0
HasPart parts part = (n : ℕ) × (n < length parts) × (part_at parts n ≡ part)

-- n is the next-time of this side of member i, where that is an until
abbrev pub IsNextAt : List Part → Side → ℕ → ℕ → Type 0
IsNextAt parts side i n = (f g : ℕ) (all weak : Bool) → part_at parts i ≡ Until all weak f g → IsNextOf parts all side i n

abbrev pub AreNexts : List Part → Side → List ℕ → Type 0
AreNexts parts side nexts = (length nexts ≡ length parts) × ((i : ℕ) → i < length parts → IsNextAt parts side i (slice_index_or nexts i 0))

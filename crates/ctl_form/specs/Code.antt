-- A formula's tree as a list of numbers, and back.
use Rattle.std.specs.Prelude.{ℕ, zero, suc, Bool, true, false, Option, Some, None, List, [], ◌∷◌, ◌++◌}
use Rattle.pair_structure.specs.declared.side.Side.{Side}
use Rattle.pair_structure.specs.declared.side.Side.TheVariants.{A, B}
use Rattle.ctl_form.specs.Form.{Form, truth, falsity, at, neg, both, either, implies, next, always, sometime, until}

abbrev pub bit : Bool → ℕ
bit true = 1
bit false = 0

abbrev pub is_one : ℕ → Bool
is_one zero = false
is_one (suc n) = true

abbrev pub side_digit : Option Side → ℕ
side_digit None = 0
side_digit (Some A) = 1
side_digit (Some B) = 2

abbrev pub side_of : ℕ → Option Side
side_of zero = None
side_of (suc zero) = Some A
side_of (suc (suc n)) = Some B

abbrev pub one_side : ℕ → Side
one_side zero = A
one_side (suc n) = B

abbrev pub one_digit : Side → ℕ
one_digit A = 0
one_digit B = 1

-- each operator with its number, then what it says, then its parts
abbrev pub numbers : Form → List ℕ
numbers truth = 0 ∷ []
numbers falsity = 1 ∷ []
numbers (at s p) = 2 ∷ one_digit s ∷ p ∷ []
numbers (neg f) = 3 ∷ numbers f
numbers (both f g) = 4 ∷ numbers f ++ numbers g
numbers (either f g) = 5 ∷ numbers f ++ numbers g
numbers (implies f g) = 6 ∷ numbers f ++ numbers g
numbers (next all s f) = 7 ∷ bit all ∷ side_digit s ∷ numbers f
numbers (always all f) = 8 ∷ bit all ∷ numbers f
numbers (sometime all f) = 9 ∷ bit all ∷ numbers f
numbers (until all weak f g) = 10 ∷ bit all ∷ bit weak ∷ numbers f ++ numbers g

-- the tree that a list begins with, and what follows it; at most so many operators deep
abbrev pub read : ℕ → List ℕ → Form × List ℕ
read zero ns = (truth, ns)
read (suc d) [] = (truth, [])
read (suc d) (zero ∷ ns) = (truth, ns)
read (suc d) (suc zero ∷ ns) = (falsity, ns)
read (suc d) (suc (suc zero) ∷ s ∷ p ∷ ns) = (at (one_side s) p, ns)
read (suc d) (suc (suc (suc zero)) ∷ ns) = (neg (read d ns).0, (read d ns).1)
read (suc d) (suc (suc (suc (suc zero))) ∷ ns) = (both (read d ns).0 (read d (read d ns).1).0, (read d (read d ns).1).1)
read (suc d) (suc (suc (suc (suc (suc zero)))) ∷ ns) = (either (read d ns).0 (read d (read d ns).1).0, (read d (read d ns).1).1)
read (suc d) (suc (suc (suc (suc (suc (suc zero))))) ∷ ns) = (implies (read d ns).0 (read d (read d ns).1).0, (read d (read d ns).1).1)
read (suc d) (suc (suc (suc (suc (suc (suc (suc zero)))))) ∷ b ∷ s ∷ ns) = (next (is_one b) (side_of s) (read d ns).0, (read d ns).1)
read (suc d) (suc (suc (suc (suc (suc (suc (suc (suc zero))))))) ∷ b ∷ ns) = (always (is_one b) (read d ns).0, (read d ns).1)
read (suc d) (suc (suc (suc (suc (suc (suc (suc (suc (suc zero)))))))) ∷ b ∷ ns) = (sometime (is_one b) (read d ns).0, (read d ns).1)
read (suc d) (suc (suc (suc (suc (suc (suc (suc (suc (suc (suc n))))))))) ∷ b ∷ w ∷ ns) = (until (is_one b) (is_one w) (read d ns).0 (read d (read d ns).1).0, (read d (read d ns).1).1)
read (suc d) (n ∷ ns) = (truth, ns)

-- The order by which commands are sorted, against that in which they rise.
use Rattle.std.proofs.Common.{ℕ, ◌≡◌, [], ◌∷◌, List, arith, true, AllPairs, Ordering, Less}
use Rattle.std.specs.List.Sorted.{IsStrictlySortedBy}
use Rattle.std.proofs.lemmas.Bool.Decides.{nat_tests}
use Rattle.std.proofs.lemmas.List.Kept.{AllPairs-cons}
use Rattle.std.proofs.lemmas.Map.Keys.{sorted_tail}
use Rattle.std.proofs.lemmas.Map.Views.{All-after_first}
use Rattle.skeleton_extract.specs.contracts.command.CommandOrd.TheImpl as command_ord
use Rattle.skeleton_extract.specs.contracts.command.CommandPartialEq.TheImpl as command_eq
use Rattle.skeleton_extract.specs.declared.command.Command.{Command}
use Rattle.skeleton_extract.specs.Commands.{IsBelow, IsRising}

-- each element of a strictly sorted list is less than each later one
AllPairs-from_sorted : {K : Type 0} (c : K → K → Ordering) (xs : List K) → IsStrictlySortedBy c xs → AllPairs (λ x y. c x y ≡ Less) xs
AllPairs-from_sorted c [] sorted = λ i j d before lt. absurd (omega (arith, lt))
AllPairs-from_sorted c (x ∷ xs) sorted = AllPairs-cons (λ x y. c x y ≡ Less) x xs (All-after_first c x xs sorted) (AllPairs-from_sorted c xs (sorted_tail c x xs sorted))

abbrev command : ℕ → ℕ → ℕ → Command
command other x set = record { other = other; x = x; set = set }

below_from_less : (other x set other' x' set' : ℕ) → (command_ord.ghosts).cmp (command other x set) (command other' x' set') ≡ Less → IsBelow (command other x set) (command other' x' set')
below_from_less other x set other' x' set' less = grind (arith, nat_tests)

same_from_equal : (other x set other' x' set' : ℕ) → (command_eq.ghosts).eq (command other x set) (command other' x' set') ≡ true → command other x set ≡ command other' x' set'
same_from_equal other x set other' x' set' same = grind (arith, nat_tests)

pub IsSame-from_equal : (c d : Command) → (command_eq.ghosts).eq c d ≡ true → c ≡ d
IsSame-from_equal c d = same_from_equal c.other c.x c.set d.other d.x d.set

pub IsRising-from_sorted : (commands : List Command) → IsStrictlySortedBy (command_ord.ghosts).cmp commands → IsRising commands
IsRising-from_sorted commands sorted i j d before lt = below_from_less _ _ _ _ _ _ (AllPairs-from_sorted (command_ord.ghosts).cmp commands sorted i j d before lt)

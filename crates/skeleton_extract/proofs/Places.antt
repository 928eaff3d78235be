-- Where the permitted commands stand among commands that rise.
use Rattle.std.proofs.Common.{ℕ, ◌≡◌, ◌≤◌, ◌+◌, Bool, true, false, List, length, get_or, take, drop, arith, inl, inr, ap, sym, ◌∙◌}
use Rattle.std.specs.List.Sorted.{IsPartitionPoint, IsPartitionedBy}
use Rattle.std.proofs.lemmas.Bool.{cases_lt}
use Rattle.std.proofs.lemmas.Bool.Decides.{nat_tests}
use Rattle.std.proofs.lemmas.List.{get_or-drop, length-drop}
use Rattle.pair_structure.proofs.Middle.{take_is_filter}
use Rattle.skeleton_extract.specs.declared.command.Command.{Command}
use Rattle.skeleton_extract.specs.Commands.{IsBelow, IsRising}
use Rattle.skeleton_extract.specs.Permission.{is_permitted, permitted_of}
use Rattle.skeleton_extract.specs.inside.Place.{comes_before, comes_by}

-- a test that each lower command passes with a higher one
parted : (p : Command → Bool) (commands : List Command) → ((c d : Command) → IsBelow c d → p d ≡ true → p c ≡ true) → IsRising commands → IsPartitionedBy p commands
parted p commands down rising i j d le lt passes =
    elim (cases_lt i j) [
      | inl before ↦ down (get_or commands i d) (get_or commands j d) (rising i j d before lt) passes
      | inr after ↦ (let same : j ≡ i = omega arith in ap (λ k. p (get_or commands k d)) (sym same) ∙ passes)
    ]

before_down : (other x : ℕ) (c d : Command) → IsBelow c d → comes_before other x d ≡ true → comes_before other x c ≡ true
before_down other x c d below before = grind (arith, nat_tests)

by_down : (other x : ℕ) (c d : Command) → IsBelow c d → comes_by other x d ≡ true → comes_by other x c ≡ true
by_down other x c d below by = grind (arith, nat_tests)

pub parted_before : (other x : ℕ) (commands : List Command) → IsRising commands → IsPartitionedBy (comes_before other x) commands
parted_before other x commands = parted (comes_before other x) commands (before_down other x)

pub parted_by : (other x : ℕ) (commands : List Command) → IsRising commands → IsPartitionedBy (comes_by other x) commands
parted_by other x commands = parted (comes_by other x) commands (by_down other x)

pub IsRising-drop : (commands : List Command) (n : ℕ) → IsRising commands → IsRising (drop n commands)
IsRising-drop commands n rising i j d before lt = rw (get_or-drop n commands i d, get_or-drop n commands j d) (rising (n + i) (n + j) d (omega arith) (omega (arith, length-drop n commands)))

not_before : (other x : ℕ) (c : Command) → comes_before other x c ≡ true → is_permitted other x c ≡ false
not_before other x c before = grind (arith, nat_tests)

not_after : (other x : ℕ) (c : Command) → comes_by other x c ≡ false → is_permitted other x c ≡ false
not_after other x c after = grind (arith, nat_tests)

between : (other x : ℕ) (c : Command) → comes_before other x c ≡ false → comes_by other x c ≡ true → is_permitted other x c ≡ true
between other x c before by = grind (arith, nat_tests)

-- of the commands from a place on that no lower one reaches, those that come by
pub take_is_permitted : (commands : List Command) (other x begin count : ℕ)
    → IsPartitionPoint (λ (c : Command). comes_before other x c ≡ true) (λ (c : Command). comes_before other x c ≡ false) commands begin
    → IsPartitionPoint (λ (c : Command). comes_by other x c ≡ true) (λ (c : Command). comes_by other x c ≡ false) (drop begin commands) count
    → count ≤ length (drop begin commands) → take count (drop begin commands) ≡ permitted_of commands other x
take_is_permitted commands other x begin count before by within = take_is_filter (is_permitted other x) commands begin count
    (λ k d low lt. not_before other x (get_or commands k d) (before.0 k d low lt))
    (λ k d low lt. between other x (get_or (drop begin commands) k d) (rw (get_or-drop begin commands k d) (before.1 (begin + k) d (omega arith) (omega (arith, length-drop begin commands)))) (by.0 k d low lt))
    (λ k d low lt. not_after other x (get_or (drop begin commands) k d) (by.1 k d low lt))

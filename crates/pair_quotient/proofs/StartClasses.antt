-- The start states keep their numbers, since each of them has a label of its own.
use Rattle.std.proofs.Common.{ℕ, zero, suc, ◌≡◌, ◌<◌, ◌≤◌, inl, inr, List, length, slice_index, ap, ◌-◌, arith}
use Rattle.std.proofs.lemmas.Bool.{cases_lt}
use Rattle.pair_structure.specs.Role.{RoleParts, IsRole}
use Rattle.pair_structure.specs.Structure.{Structure, IsOver, start_count}
use Rattle.pair_structure.proofs.StartRows.{start_within, starts_apart}
use Rattle.pair_quotient.specs.Quotient.{IsQuotient}

-- no two of the first n states are of one class
abbrev StandApart : List ℕ → ℕ → Type 0
StandApart classes n = (s t : ℕ) → s < n → t < n → slice_index classes s ≡ slice_index classes t → s ≡ t

-- the class of a state has no higher number, where those before it keep theirs
not_above : (m q : Structure) (classes : List ℕ) → IsQuotient m classes q → (s : ℕ) → s < length m.states → ((t : ℕ) → t < s → slice_index classes t ≡ t) → s < slice_index classes s → ⊥
not_above m q classes is s ls earlier above =
    let there = is.within s ls in
    let u = is.lowest s (omega (arith, above, there)) in
    let low = u.1 in
    elim (cases_lt s u.0) [
      | inl before ↦ omega (arith, above, low.before s before)
      | inr from ↦ elim (cases_lt u.0 s) [
        | inl after ↦ (let stays = earlier u.0 after in let member = low.member in omega (arith, stays, member, after))
        | inr level ↦ (let same : u.0 ≡ s = omega (arith, from, level) in let member = low.member in let at = ap (λ x. slice_index classes x) same in omega (arith, member, at, above))
      ]
    ]

-- such states keep their numbers
class_stays : (m q : Structure) (classes : List ℕ) → IsQuotient m classes q → (n : ℕ) → n ≤ length m.states → StandApart classes n → (k s : ℕ) → s < n → s < k → slice_index classes s ≡ s
class_stays m q classes is n few apart zero s ls lk = absurd (omega (arith, lk))
class_stays m q classes is n few apart (suc k) s ls lk =
    let earlier : (t : ℕ) → t < s → slice_index classes t ≡ t = λ t lt. class_stays m q classes is n few apart k t (omega (arith, lt, ls)) (omega (arith, lt, lk)) in
    elim (cases_lt (slice_index classes s) s) [
      | inl below ↦ apart (slice_index classes s) s (omega (arith, below, ls)) ls (earlier (slice_index classes s) below)
      | inr from ↦ elim (cases_lt s (slice_index classes s)) [ inl above ↦ absurd (not_above m q classes is s (omega (arith, ls, few)) earlier above) | inr level ↦ omega (arith, from, level) ]
    ]

-- each start state is the only one in its class among them, and so it keeps its number
pub start_class : (m q : Structure) (classes : List ℕ) → IsQuotient m classes q → (a b : RoleParts) → IsRole a → IsRole b → IsOver a b m → (s : ℕ) → s < start_count a b → slice_index classes s ≡ s
start_class m q classes is a b role_a role_b over s lt = class_stays m q classes is (start_count a b) few apart (suc s) s lt (omega arith)
  where
    in_states : (t : ℕ) → t < start_count a b → t < length m.states
    in_states t l = start_within a b m.states t over.starts l

    few : start_count a b ≤ length m.states
    few = omega (arith, in_states (start_count a b - 1) (omega (arith, lt)))

    apart : StandApart classes (start_count a b)
    apart t u l k e = starts_apart a b m.states role_a role_b over.starts t u l k (let alike = (is.same t u (in_states t l) (in_states u k)).0 e in alike.1.labels t u alike.2)

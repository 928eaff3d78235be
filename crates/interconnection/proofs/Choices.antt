-- The next choice of labels.
use Rattle.std.proofs.Common.{ℕ, suc, ◌≡◌, ◌<◌, ◌≤◌, ◌+◌, ◌-◌, ◌==◌, ◌&&◌, ◌⊎◌, Bool, true, false, List, length, get_or, take, drop, arith, inl, inr, refl, sym, ◌∙◌, ap, subst, cond, ltb, length-append, length-drop, ne_eqb}
use Rattle.std.specs.List.Sorted.{IsNonDecreasingBy}
use Rattle.std.proofs.lemmas.Bool.{cases_lt, lt-ltb, ltb-true}
use Rattle.std.proofs.lemmas.List.{get_or_default, get_or-take, get_or-drop, get_or_append_left, get_or-append_right, length-take, length-take-le}
use Rattle.std.proofs.lemmas.List.Sums.{sum_by-append, sum_by-take-le, sum_by-take-drop}
use Rattle.pair_structure.specs.declared.side.Side.{Side}
use Rattle.pair_structure.specs.declared.side.Side.TheVariants.{A}
use Rattle.interconnection.specs.Shape.{IsBelow, IsChoice, rank, rank_at, times}
use Rattle.interconnection.specs.inside.Choice.{IsFirstChoice, IsLastChoice, IsLastRaise, IsNextChoice, IsStuck, raised}
use Rattle.interconnection.proofs.Counting.{count_none, count_run_all, count_window, count_within}

abbrev Label : Type 0
Label = ℕ × Side

abbrev none : Label
none = (0, A)

sorted_at : (labels : List Label) (i j : ℕ) → IsNonDecreasingBy rank labels → i ≤ j → j < length labels → rank_at labels i ≤ rank_at labels j
sorted_at labels i j sorted le lt = sorted i j none le lt

-- where too few labels are above a leaf, no choice has a higher label in its place
pub stuck_stays : (labels leaves other : List Label) (p : ℕ) → IsChoice labels other → length other ≡ length leaves → p < length leaves → IsStuck labels leaves p → rank_at leaves p < rank_at other p → ⊥
stuck_stays labels leaves other p choice same lt (from, past, short) higher =
    let r : ℕ = rank_at leaves p in
    let run = count_run_all (λ x. ltb (rank_at leaves p) (rank x)) other p (length other) none (omega arith) (λ i ge in'. lt-ltb (rank_at leaves p) (rank_at other i) (omega (arith, higher, sorted_at other p i choice.sorted ge in'))) in
    let all = count_within rank (ltb (rank_at leaves p)) other labels choice.chosen in
    let window = count_window (λ x. ltb (rank_at leaves p) (rank x)) labels from (length labels) none past.within (λ i in' passes. (lies i in' passes, in')) in
    omega (arith, run, all, window, short, same, past.within)
  where
    lies : (i : ℕ) → i < length labels → ltb (rank_at leaves p) (rank_at labels i) ≡ true → from ≤ i
    lies i in' passes = elim (cases_lt i from) [ inl low ↦ absurd (omega (arith, past.low i low, ltb-true (rank_at leaves p) (rank_at labels i) passes)) | inr ge ↦ ge ]

pub all_stuck : (labels leaves : List Label) → ((p : ℕ) → p < length leaves → IsStuck labels leaves p) → IsLastChoice labels leaves
all_stuck labels leaves stuck other choice same (p, lt, agree, higher) = stuck_stays labels leaves other p choice same lt (stuck p lt) higher

-- the raised list by its places
pub raised_count : (labels leaves : List Label) (p from : ℕ) → p ≤ length leaves → from + (length leaves - p) ≤ length labels → length (raised labels leaves p from) ≡ length leaves
raised_count labels leaves p from le room = omega (arith, length-append (take p leaves) (take (length leaves - p) (drop from labels)), length-take p leaves, length-take (length leaves - p) (drop from labels), length-drop from labels)

pub raised_before : (labels leaves : List Label) (p from i : ℕ) → p ≤ length leaves → i < p → rank_at (raised labels leaves p from) i ≡ rank_at leaves i
raised_before labels leaves p from i le lt =
    let in' : i < length (take p leaves) = omega (arith, length-take p leaves) in
    ap {B = ℕ} rank (get_or_append_left (take p leaves) (take (length leaves - p) (drop from labels)) none i in' ∙ get_or-take p leaves i none lt)

pub raised_behind : (labels leaves : List Label) (p from i : ℕ) → p ≤ i → i < length leaves → rank_at (raised labels leaves p from) i ≡ rank_at labels (from + (i - p))
raised_behind labels leaves p from i ge lt =
    let size : length (take p leaves) ≡ p = omega (arith, length-take p leaves) in
    ap {B = ℕ} rank (get_or-append_right (take p leaves) (take (length leaves - p) (drop from labels)) p i none size ge ∙ get_or-take (length leaves - p) (drop from labels) (i - p) none (omega arith) ∙ get_or-drop from labels (i - p) none)

raised_sorted : (labels leaves : List Label) (p from : ℕ) → IsNonDecreasingBy rank labels → IsChoice labels leaves → IsLastRaise labels leaves p from → IsNonDecreasingBy rank (raised labels leaves p from)
raised_sorted labels leaves p from sorted choice raise i j d le lt =
    let in' : j < length leaves = omega (arith, lt, raised_count labels leaves p from (omega (arith, raise.within)) raise.room) in
    omega (arith, ap {B = ℕ} rank (get_or_default (raised labels leaves p from) i d none (omega (arith, le, lt))), ap {B = ℕ} rank (get_or_default (raised labels leaves p from) j d none lt), at in' (cases_lt j p) (cases_lt i p))
  where
    at : j < length leaves → (j < p) ⊎ (p ≤ j) → (i < p) ⊎ (p ≤ i) → rank_at (raised labels leaves p from) i ≤ rank_at (raised labels leaves p from) j
    at in' (inl jp) c = omega (arith, raised_before labels leaves p from i (omega (arith, raise.within)) (omega (arith, le, jp)), raised_before labels leaves p from j (omega (arith, raise.within)) jp, sorted_at leaves i j choice.sorted le in')
    at in' (inr pj) (inl ip) = omega (arith, raised_before labels leaves p from i (omega (arith, raise.within)) ip, raised_behind labels leaves p from j pj in', sorted_at leaves i p choice.sorted (omega (arith, ip)) raise.within, raise.past.high (from + (j - p)) (omega arith) (omega (arith, raise.room, in', pj)))
    at in' (inr pj) (inr pi) = omega (arith, raised_behind labels leaves p from i pi (omega (arith, le, in')), raised_behind labels leaves p from j pj in', sorted_at labels (from + (i - p)) (from + (j - p)) sorted (omega (arith, le)) (omega (arith, raise.room, in', pj)))

raised_chosen : (labels leaves : List Label) (p from : ℕ) → IsChoice labels leaves → IsLastRaise labels leaves p from → (r : ℕ) → times r (raised labels leaves p from) ≤ times r labels
raised_chosen labels leaves p from choice raise r =
    let split = sum_by-append (λ x. cond (rank x == r) 1 0) (take p leaves) (take (length leaves - p) (drop from labels)) in
    let before = sum_by-take-le (λ x. cond (rank x == r) 1 0) leaves p in
    let behind = sum_by-take-le (λ x. cond (rank x == r) 1 0) (drop from labels) (length leaves - p) in
    let halves = sum_by-take-drop (λ x. cond (rank x == r) 1 0) labels from in
    elim (cases_lt (rank_at leaves p) r) [
      | inl higher ↦ omega (arith, split, behind, halves, none_before higher)
      | inr lower ↦ omega (arith, split, before, choice.chosen r, none_behind lower)
    ]
  where
    none_before : rank_at leaves p < r → times r (take p leaves) ≡ 0
    none_before higher = count_none (λ x. rank x == r) (take p leaves) none (λ i lt. let in' : i < p = omega (arith, lt, length-take p leaves) in ne_eqb (rank_at (take p leaves) i) r (λ is. omega (arith, higher, is, ap {B = ℕ} rank (get_or-take p leaves i none in'), sorted_at leaves i p choice.sorted (omega (arith, in')) raise.within)))

    none_behind : r ≤ rank_at leaves p → times r (take (length leaves - p) (drop from labels)) ≡ 0
    none_behind lower = count_none (λ x. rank x == r) (take (length leaves - p) (drop from labels)) none (λ i lt. let in' : i < length leaves - p = omega (arith, lt, length-take (length leaves - p) (drop from labels)) in ne_eqb (rank_at (take (length leaves - p) (drop from labels)) i) r (λ is. omega (arith, lower, is, ap {B = ℕ} rank (get_or-take (length leaves - p) (drop from labels) i none in' ∙ get_or-drop from labels i none), raise.past.high (from + i) (omega arith) (omega (arith, raise.room, in')))))

raised_choice : (labels leaves : List Label) (p from : ℕ) → IsNonDecreasingBy rank labels → IsChoice labels leaves → IsLastRaise labels leaves p from → IsChoice labels (raised labels leaves p from)
raised_choice labels leaves p from sorted choice raise = record { sorted = raised_sorted labels leaves p from sorted choice raise; chosen = raised_chosen labels leaves p from choice raise }

-- a choice with higher labels from place p on is not below the labels that stand there
filled : (labels other : List Label) (p from s r : ℕ) → IsNonDecreasingBy rank labels → IsChoice labels other → ((i : ℕ) → i < from → rank_at labels i ≤ r) → p ≤ s → s < length other → r < rank_at other p → rank_at other s < rank_at labels (from + (s - p)) → from + (s - p) < length labels → ⊥
filled labels other p from s r sorted choice low le in' higher lower room =
    let t : ℕ = rank_at labels (from + (s - p)) in
    let run = count_run_all test_label other p (suc s) none (omega (arith, in')) (λ i ge lt. pass i ge (omega (arith, lt))) in
    let all = count_within rank (λ c. ltb r c && ltb c (rank_at labels (from + (s - p)))) other labels choice.chosen in
    let window = count_window test_label labels from (from + (s - p)) none (omega arith) lies in
    omega (arith, run, all, window, le)
  where
    test_label : Label → Bool
    test_label = λ x. ltb r (rank x) && ltb (rank x) (rank_at labels (from + (s - p)))

    both : (a b : Bool) → a ≡ true → b ≡ true → (a && b) ≡ true
    both a b e f = rw (e, f) refl

    first : (a b : Bool) → (a && b) ≡ true → a ≡ true
    first true b e = refl
    first false b e = e

    second : (a b : Bool) → (a && b) ≡ true → b ≡ true
    second true b e = e
    second false b e = cc

    pass : (i : ℕ) → p ≤ i → i ≤ s → test_label (get_or other i none) ≡ true
    pass i ge le' = both _ _ (lt-ltb r (rank_at other i) (omega (arith, higher, sorted_at other p i choice.sorted ge (omega (arith, le', in'))))) (lt-ltb (rank_at other i) (rank_at labels (from + (s - p))) (omega (arith, lower, sorted_at other i s choice.sorted le' in')))

    lies : (i : ℕ) → i < length labels → test_label (get_or labels i none) ≡ true → (from ≤ i) × (i < from + (s - p))
    lies i lt passes =
        let up = ltb-true r (rank_at labels i) (first (ltb r (rank_at labels i)) (ltb (rank_at labels i) (rank_at labels (from + (s - p)))) passes) in
        let down = ltb-true (rank_at labels i) (rank_at labels (from + (s - p))) (second (ltb r (rank_at labels i)) (ltb (rank_at labels i) (rank_at labels (from + (s - p)))) passes) in (
          elim (cases_lt i from) [ inl l ↦ absurd (omega (arith, low i l, up)) | inr ge ↦ ge ],
          elim (cases_lt i (from + (s - p))) [ inl l ↦ l | inr ge ↦ absurd (omega (arith, down, sorted_at labels (from + (s - p)) i sorted ge lt)) ],
        )

pub raised_next : (labels leaves : List Label) (p from : ℕ) → IsNonDecreasingBy rank labels → IsChoice labels leaves → IsLastRaise labels leaves p from → IsNextChoice labels leaves (raised labels leaves p from)
raised_next labels leaves p from sorted choice raise = record {
  choice = raised_choice labels leaves p from sorted choice raise;
  count = raised_count labels leaves p from (omega (arith, raise.within)) raise.room;
  above = (p, raise.within, λ i lt. sym (raised_before labels leaves p from i (omega (arith, raise.within)) lt), omega (arith, raised_behind labels leaves p from p (omega arith) raise.within, raise.past.high (from + (p - p)) (omega arith) (omega (arith, raise.room, raise.within))));
  between = λ other is same above below. between other is same above below;
}
  where
    new : List Label
    new = raised labels leaves p from

    before : (i : ℕ) → i < p → rank_at (raised labels leaves p from) i ≡ rank_at leaves i
    before i lt = raised_before labels leaves p from i (omega (arith, raise.within)) lt

    -- they differ from the leaves at place q, and from the new ones at place s
    differ : (other : List Label) (q s : ℕ) → IsChoice labels other → length other ≡ length leaves → q < length leaves → ((i : ℕ) → i < q → rank_at leaves i ≡ rank_at other i) → rank_at leaves q < rank_at other q
        → s < length other → ((i : ℕ) → i < s → rank_at other i ≡ rank_at (raised labels leaves p from) i) → rank_at other s < rank_at (raised labels leaves p from) s
        → (q < p) ⊎ (p ≤ q) → (p < q) ⊎ (q ≤ p) → (s < p) ⊎ (p ≤ s) → (q < s) ⊎ (s ≤ q) → (s < q) ⊎ (q ≤ s) → ⊥
    differ other q s is same qin agree up sin agree' down (inl qp) c d (inl qs) f = omega (arith, up, agree' q qs, before q qp)
    differ other q s is same qin agree up sin agree' down (inl qp) c d (inr sq) (inl lt) = omega (arith, down, agree s lt, before s (omega (arith, lt, qp)))
    differ other q s is same qin agree up sin agree' down (inl qp) c d (inr sq) (inr qs) = let e : s ≡ q = omega (arith, sq, qs) in omega (arith, up, down, ap {B = ℕ} (λ i. rank_at other i) e, ap {B = ℕ} (λ i. rank_at (raised labels leaves p from) i) e, before q qp)
    differ other q s is same qin agree up sin agree' down (inr pq) (inl lt) d e f = stuck_stays labels leaves other q is same qin (raise.stuck q lt qin) up
    differ other q s is same qin agree up sin agree' down (inr pq) (inr qp) (inl sp) e f = omega (arith, down, agree s (omega (arith, sp, pq)), before s sp)
    differ other q s is same qin agree up sin agree' down (inr pq) (inr qp) (inr ps) e f =
        let at : q ≡ p = omega (arith, pq, qp) in
        let higher : rank_at leaves p < rank_at other p = subst (λ i. rank_at leaves i < rank_at other i) at up in
        let in' : s < length leaves = omega (arith, sin, same) in
        filled labels other p from s (rank_at leaves p) sorted is raise.past.low ps sin higher (omega (arith, down, raised_behind labels leaves p from s ps in')) (omega (arith, raise.room, in', ps))

    between : (other : List Label) → IsChoice labels other → length other ≡ length leaves → IsBelow leaves other → IsBelow other (raised labels leaves p from) → ⊥
    between other is same (q, qin, agree, up) (s, sin, agree', down) = differ other q s is same qin agree up sin agree' down (cases_lt q p) (cases_lt p q) (cases_lt s p) (cases_lt q s) (cases_lt s q)

-- the first choice
pub take_first : (labels : List Label) (n : ℕ) → IsNonDecreasingBy rank labels → n ≤ length labels → IsFirstChoice labels n (take n labels)
take_first labels n sorted le = record {
  choice = record {
    sorted = λ i j d le' lt. sorted_take i j d le' lt;
    chosen = λ r. sum_by-take-le (λ x. cond (rank x == r) 1 0) labels n;
  };
  count = length-take-le n labels le;
  first = λ other is same below. first other is same below;
}
  where
    sorted_take : IsNonDecreasingBy rank (take n labels)
    sorted_take i j d le' lt =
        let in' : j < n = omega (arith, lt, length-take n labels) in
        omega (arith, ap {B = ℕ} rank (get_or-take n labels i d (omega (arith, le', in'))), ap {B = ℕ} rank (get_or-take n labels j d in'), sorted i j d le' (omega (arith, in', le)))

    lowest : (labels other : List Label) (s : ℕ) → IsNonDecreasingBy rank labels → IsChoice labels other → s < length other → rank_at other s < rank_at labels s → s < length labels → ⊥
    lowest labels other s sorted is in' lower room =
        let run = count_run_all (λ x. ltb (rank x) (rank_at labels s)) other 0 (suc s) none (omega (arith, in')) (λ i ge lt. lt-ltb (rank_at other i) (rank_at labels s) (omega (arith, lower, sorted_at other i s is.sorted (omega (arith, lt)) in'))) in
        let all = count_within rank (λ c. ltb c (rank_at labels s)) other labels is.chosen in
        let window = count_window (λ x. ltb (rank x) (rank_at labels s)) labels 0 s none (omega arith) (λ i lt passes. (omega arith, under i lt passes)) in
        omega (arith, run, all, window)
      where
        under : (i : ℕ) → i < length labels → ltb (rank_at labels i) (rank_at labels s) ≡ true → i < s
        under i lt passes = elim (cases_lt i s) [ inl l ↦ l | inr ge ↦ absurd (omega (arith, ltb-true (rank_at labels i) (rank_at labels s) passes, sorted_at labels s i sorted ge lt)) ]

    first : (other : List Label) → IsChoice labels other → length other ≡ n → IsBelow other (take n labels) → ⊥
    first other is same (s, sin, agree, down) =
        let in' : s < n = omega (arith, sin, same) in
        let at = ap {B = ℕ} rank (get_or-take n labels s none in') in
        lowest labels other s sorted is sin (omega (arith, down, at)) (omega (arith, in', le))

-- What looks show.
use Rattle.std.proofs.Common.{ℕ, zero, suc, ◌≡◌, ◌<◌, ◌≤◌, ◌+◌, ◌==◌, inl, inr, Bool, true, false, Option, Some, None, List, [], ◌∷◌, length, take, cond, arith, refl, sym, ap, ◌∙◌, subst}
use Rattle.std.specs.Prelude.{count_by, is_some, slice_get}
use Rattle.std.proofs.Math.Seq.{take-length}
use Rattle.std.proofs.lemmas.Bool.{cases_lt, eqb-false}
use Rattle.std.proofs.lemmas.List.Sums.{sum_by-cons, sum_by-take-le}
use Rattle.pair_structure.specs.declared.side.Side.{Side}
use Rattle.conjunctive_compose.specs.declared.wish.Wish.{Wish}
use Rattle.conjunctive_compose.specs.declared.wish.PairMove.{PairMove}
use Rattle.conjunctive_compose.specs.System.{SystemParts, IsSystem, edge_at, edge_count, side_on, structure_at}
use Rattle.conjunctive_compose.specs.Whole.{WholeParts, HasPair, IsProper, local_at, start_of, start_state}
use Rattle.conjunctive_compose.specs.Firing.{fired}
use Rattle.conjunctive_compose.specs.Laws.{PairStep}
use Rattle.conjunctive_compose.specs.Looks.{IsShown}
use Rattle.conjunctive_compose.specs.Projection.{Begins, IsProjection}
use Rattle.conjunctive_compose.specs.Reply.{ReplyHolds, after_first, count_of, count_on, seen_pair}
use Rattle.conjunctive_compose.specs.Run.{IsRun, whole_after}
use Rattle.conjunctive_compose.proofs.Pairs.{fired_pairs, fired_proper, one_pair, other_local}
use Rattle.conjunctive_compose.proofs.Starts.{start_is_proper}

-- the wish is one of a process of the edge, or one of this process
abbrev is_on : SystemParts → ℕ → Wish → Bool
is_on sys e wish = is_some (side_on (edge_at sys e) wish.process)

abbrev is_of : ℕ → Wish → Bool
is_of k wish = wish.process == k

count-cons : (test : Wish → Bool) (wish : Wish) (wishes : List Wish) → count_by test (wish ∷ wishes) ≡ cond (test wish) 1 0 + count_by test wishes
count-cons test wish wishes = sum_by-cons (λ x. cond (test x) 1 0) wish wishes

begun_by : (sys : SystemParts) (w : WholeParts) (e : ℕ) (side : Option Side) (moves later : List PairMove) → Begins sys w e side moves later → length moves ≡ cond (is_some side) 1 0 + length later
begun_by sys w e None moves later begins =
    let same : moves ≡ later = begins in
    let long : length moves ≡ length later = ap length same in
    omega arith
begun_by sys w e (Some side) moves later (s, pair, is) = rw is (omega arith)

length-projection : (sys : SystemParts) (w : WholeParts) (e : ℕ) (wishes : List Wish) (moves : List PairMove) → IsProjection sys w e wishes moves → length moves ≡ count_by (is_on sys e) wishes
length-projection sys w e [] moves is = ap length is
length-projection sys w e (wish ∷ wishes) moves (later, begins, is) =
    let first = begun_by sys (fired sys w wish) e (side_on (edge_at sys e) wish.process) moves later begins in
    let rest = length-projection sys (fired sys w wish) e wishes later is in
    let one = count-cons (is_on sys e) wish wishes in
    omega (arith, first, rest, one)

pub projection_counts : (sys : SystemParts) (w : WholeParts) (run : List Wish) (e : ℕ) (moves : List PairMove) → IsProjection sys w e run moves → length moves ≡ count_on sys run e (length run)
projection_counts sys w run e moves is = rw (take-length run) (length-projection sys w e run moves is)

-- the state after the first m moves of a path from s
abbrev state_after : ℕ → ℕ → List PairMove → ℕ
state_after s zero moves = s
state_after s (suc m) [] = s
state_after s (suc m) (move ∷ later) = state_after move.state m later

item_at : (s : ℕ) (moves : List PairMove) (before : ℕ) → before < length moves → (side : Side) × (slice_get moves before ≡ Some (record { side = side; state = state_after s (suc before) moves }))
item_at s [] before lt = absurd (omega (arith, lt))
item_at s (move ∷ later) zero lt = (move.side, refl)
item_at s (move ∷ later) (suc before) lt = item_at move.state later before (omega (arith, lt))

-- one firing further along the path
stepped : (sys : SystemParts) (w : WholeParts) (e s t m c : ℕ) (side : Option Side) (moves later : List PairMove) → HasPair sys w e t → PairStep (structure_at sys e) side s t → Begins sys w e side moves later → m ≡ cond (is_some side) 1 0 + c → state_after s m moves ≡ state_after t c later
stepped sys w e s t m c None moves later there step begins count =
    let count_is : m ≡ c = omega (arith, count) in
    let same : s ≡ t = step in
    let moves_are : moves ≡ later = begins in
    rw (count_is, same, moves_are) refl
stepped sys w e s t m c (Some side) moves later there step (u, pair, is) count =
    let count_is : m ≡ suc c = omega (arith, count) in
    let same : u ≡ t = one_pair sys w e u t pair there in
    rw (count_is, is, same) refl

shown : (sys : SystemParts) (w : WholeParts) (e s t : ℕ) (wishes : List Wish) (p : ℕ) (moves : List PairMove) → IsSystem sys → IsProper sys w → IsRun sys w wishes → e < edge_count sys → HasPair sys w e s → IsProjection sys w e wishes moves
    → HasPair sys (whole_after sys w (take p wishes)) e t → t ≡ state_after s (count_by (is_on sys e) (take p wishes)) moves
shown sys w e s t [] zero moves lawful proper run lt from is there = one_pair sys w e t s there from
shown sys w e s t [] (suc p) moves lawful proper run lt from is there = one_pair sys w e t s there from
shown sys w e s t (wish ∷ wishes) zero moves lawful proper run lt from is there = one_pair sys w e t s there from
shown sys w e s t (wish ∷ wishes) (suc p) moves lawful proper run lt from (later, begins, is) there =
    let proper' = fired_proper sys w wish lawful proper run.0 in
    let u = (proper'.pairs e lt).0 in
    let here = (proper'.pairs e lt).1 in
    let side = side_on (edge_at sys e) wish.process in
    let step = fired_pairs sys w wish lawful proper run.0 e s u lt from here in
    let rest = shown sys (fired sys w wish) e u t wishes p later lawful proper' run.1 lt here is there in
    let c = count_by (is_on sys e) (take p wishes) in
    let one : count_by (is_on sys e) (take (suc p) (wish ∷ wishes)) ≡ cond (is_some side) 1 0 + c = count-cons (is_on sys e) wish (take p wishes) in
    let along = stepped sys (fired sys w wish) e s u (count_by (is_on sys e) (take (suc p) (wish ∷ wishes))) c side moves later here step begins one in
    rest ∙ sym along

pub look_shows_projection : (sys : SystemParts) (run : List Wish) (e m s : ℕ) (moves : List PairMove) → IsSystem sys → IsRun sys (start_of sys) run → IsProjection sys (start_of sys) e run moves → ReplyHolds sys run (seen_pair e m s) → IsShown sys moves e m s
look_shows_projection sys run e m s moves lawful is_run is (p, look) = record { start = at_start; item = at_item }
  where
    start : IsProper sys (start_of sys)
    start = (start_is_proper sys lawful).proper

    is_after : s ≡ state_after (start_state sys e) m moves
    is_after = shown sys (start_of sys) e (start_state sys e) s run p moves lawful start is_run look.edge_in ((start_is_proper sys lawful).pairs e look.edge_in) is look.shows ∙ ap (λ (n : ℕ). state_after (start_state sys e) n moves) look.count

    few : m ≤ length moves
    few = omega (arith, look.count, length-projection sys (start_of sys) e run moves is, sum_by-take-le (λ x. cond (is_on sys e x) 1 0) run p)

    at_start : m ≡ 0 → s ≡ start_state sys e
    at_start none = is_after ∙ ap (λ (n : ℕ). state_after (start_state sys e) n moves) none

    at_item : (before : ℕ) → before + 1 ≡ m → (side : Side) × (slice_get moves before ≡ Some (record { side = side; state = s }))
    at_item before next =
        let suc_is : m ≡ suc before = omega (arith, next) in
        let state_is : state_after (start_state sys e) (suc before) moves ≡ s = sym (is_after ∙ ap (λ (n : ℕ). state_after (start_state sys e) n moves) suc_is) in
        subst (λ (x : ℕ). (side : Side) × (slice_get moves before ≡ Some (record { side = side; state = x }))) state_is (item_at (start_state sys e) moves before (omega (arith, next, few)))

-- a count of none, item by item
none_counted : (b : Bool) (n total : ℕ) → total ≡ cond b 1 0 + n → total ≡ 0 → (b ≡ false) × (n ≡ 0)
none_counted true n total is none = absurd (omega (arith, is, none))
none_counted false n total is none = (refl, omega (arith, is, none))

-- who has not fired is where it was
local_stays : (sys : SystemParts) (w : WholeParts) (k : ℕ) (wishes : List Wish) → count_by (is_of k) wishes ≡ 0 → local_at (whole_after sys w wishes) k ≡ local_at w k
local_stays sys w k [] none = refl
local_stays sys w k (wish ∷ wishes) none =
    let split = none_counted (is_of k wish) (count_by (is_of k) wishes) (count_by (is_of k) (wish ∷ wishes)) (count-cons (is_of k) wish wishes) none in
    local_stays sys (fired sys w wish) k wishes split.1 ∙ other_local sys w wish k (λ same. eqb-false wish.process k split.0 (sym same))

local_same : (sys : SystemParts) (w : WholeParts) (k : ℕ) (wishes : List Wish) (p q : ℕ) → p ≤ q → count_by (is_of k) (take p wishes) ≡ count_by (is_of k) (take q wishes) → local_at (whole_after sys w (take p wishes)) k ≡ local_at (whole_after sys w (take q wishes)) k
local_same sys w k [] zero zero le same = refl
local_same sys w k [] zero (suc q) le same = refl
local_same sys w k [] (suc p) zero le same = refl
local_same sys w k [] (suc p) (suc q) le same = refl
local_same sys w k (wish ∷ wishes) zero q le same = sym (local_stays sys w k (take q (wish ∷ wishes)) (sym same))
local_same sys w k (wish ∷ wishes) (suc p) zero le same = absurd (omega (arith, le))
local_same sys w k (wish ∷ wishes) (suc p) (suc q) le same =
    local_same sys (fired sys w wish) k wishes p q (omega (arith, le)) (omega (arith, same, count-cons (is_of k) wish (take p wishes), count-cons (is_of k) wish (take q wishes)))

pub equal_counts_equal_locals : (sys : SystemParts) (run : List Wish) (k p q : ℕ) → count_of run k p ≡ count_of run k q → local_at (after_first sys run p) k ≡ local_at (after_first sys run q) k
equal_counts_equal_locals sys run k p q same = elim (cases_lt p q) [
  | inl lt ↦ local_same sys (start_of sys) k run p q (omega (arith, lt)) same
  | inr ge ↦ sym (local_same sys (start_of sys) k run q p ge (sym same))
]

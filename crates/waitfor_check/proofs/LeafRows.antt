-- The steps of one leaf.
use Rattle.std.proofs.Common.{ℕ, ◌≡◌, ◌<◌, ◌≤◌, ◌+◌, List, [], length, get_or, map, set, inl, inr, arith, sym, ◌∙◌, ap, subst, Contains, get_or-set_same}
use Rattle.std.proofs.lemmas.List.{get_or-map, get_or_default, length-map, set-get_or}
use Rattle.std.proofs.lemmas.Bool.{cases_eq}
use Rattle.pair_structure.specs.declared.side.Move.{Move}
use Rattle.pair_structure.specs.declared.side.Side.TheVariants.{A}
use Rattle.interconnection.specs.Shape.{ShapeParts}
use Rattle.conjunctive_compose.specs.System.{SystemParts, IsSystem}
use Rattle.waitfor_check.specs.Star.{leaf_at, leaf_side, leaf_structure}
use Rattle.waitfor_check.specs.Steps.{HasKinds, reached}
use Rattle.waitfor_check.specs.Closed.{IsFirstMissing}
use Rattle.waitfor_check.specs.inside.Walk.{AreMembers, Differ}
use Rattle.waitfor_check.proofs.Risings.{Differ-map, reached_differ}

abbrev pub moved : List ℕ → ℕ → List Move → List (List ℕ)
moved start i moves = map (set start i) (map (λ (m : Move). m.to) moves)

moved_count : (start : List ℕ) (i : ℕ) (moves : List Move) → length (moved start i moves) ≡ length moves
moved_count start i moves = length-map (map (λ (m : Move). m.to) moves) (set start i) ∙ length-map moves (λ (m : Move). m.to)

moved_at : (start : List ℕ) (i k : ℕ) (moves : List Move) (d : Move) → k < length moves → get_or (moved start i moves) k [] ≡ set start i (get_or moves k d).to
moved_at start i k moves d lt = get_or-map (set start i) (map (λ (m : Move). m.to) moves) k 0 [] (omega (arith, lt, length-map moves (λ (m : Move). m.to))) ∙ ap (set start i) (get_or-map (λ (m : Move). m.to) moves k d 0 lt)

-- the first n moves reach members
abbrev pub AllReach : List (List ℕ) → List ℕ → ℕ → List Move → ℕ → Type 0
AllReach members start i moves n = (k : ℕ) (d : Move) → k < n → Contains members (set start i (get_or moves k d).to)

pub reach_more : (members : List (List ℕ)) (start : List ℕ) (i : ℕ) (moves : List Move) (n : ℕ) (d : Move) → n < length moves → AllReach members start i moves n → Contains members (set start i (get_or moves n d).to) → AllReach members start i moves (n + 1)
reach_more members start i moves n d lt all here k d' le = elim (cases_eq k n) [
  | inl same ↦ (let at : get_or moves n d ≡ get_or moves k d' = get_or_default moves n d d' lt ∙ ap {B = Move} (λ k. get_or moves k d') (sym same) in subst (λ (m : Move). Contains members (set start i m.to)) at here)
  | inr differ ↦ all k d' (omega arith)
]

pub moves_members : (members : List (List ℕ)) (start : List ℕ) (i : ℕ) (moves : List Move) (n : ℕ) → length moves ≤ n → AllReach members start i moves n → AreMembers members (moved start i moves) (length moves)
moves_members members start i moves n end all = record {
  all = λ k lt. (let in' : k < length moves = omega (arith, lt, moved_count start i moves) in subst (Contains members) (sym (moved_at start i k moves (record { from = 0; side = A; to = 0 }) in')) (all k (record { from = 0; side = A; to = 0 }) (omega (arith, in', end))));
  count_is = sym (moved_count start i moves);
}

pub moves_missing : (members : List (List ℕ)) (start : List ℕ) (i : ℕ) (moves : List Move) (n : ℕ) (d : Move) → n < length moves → AllReach members start i moves n → (Contains members (set start i (get_or moves n d).to) → ⊥) → IsFirstMissing members (moved start i moves) n
moves_missing members start i moves n d lt all not = record {
  within = omega (arith, lt, moved_count start i moves);
  missing = λ has. not (subst (Contains members) (moved_at start i n moves d lt) has);
  first = λ k low. subst (Contains members) (sym (moved_at start i k moves d (omega (arith, low, lt)))) (all k d low);
}

-- a leaf's steps differ
pub leaf_rows_differ : (sys : SystemParts) (shape : ShapeParts) (xs : List ℕ) (i : ℕ) → IsSystem sys → HasKinds sys shape → i < length shape.leaves → i < length xs → Differ (map (set xs i) (reached (leaf_structure sys shape i) (leaf_side shape i) (get_or xs i 0)))
leaf_rows_differ sys shape xs i lawful kinds lt in' = Differ-map (set xs i) (reached (leaf_structure sys shape i) (leaf_side shape i) (get_or xs i 0)) (reached_differ (leaf_structure sys shape i) (leaf_side shape i) (get_or xs i 0) (lawful.structures.over (leaf_at shape i).0 (kinds.kinds i lt)).rising)
    (λ x y hx hy e. sym (get_or-set_same xs i x 0 in') ∙ ap {B = ℕ} (λ l. get_or l i 0) e ∙ get_or-set_same xs i y 0 in')

-- with its own number back a list is as before
pub set_back : (new start : List ℕ) (i : ℕ) → ((x : ℕ) → set new i x ≡ set start i x) → set new i (get_or start i 0) ≡ start
set_back new start i same = same (get_or start i 0) ∙ set-get_or start i 0

-- Rows of steps, one after another.
use Rattle.std.proofs.Common.{ℕ, ◌≡◌, ◌<◌, ◌≤◌, ◌+◌, ◌==◌, Bool, true, false, cond, List, [], ◌∷◌, ◌++◌, length, get_or, map, take, drop, arith, refl, sym, ◌∙◌, ap, subst, Contains}
use Rattle.std.specs.Prelude.{filter}
use Rattle.std.specs.List.{flat_map, range_with_len}
use Rattle.std.proofs.lemmas.Grind.{flat_map-append}
use Rattle.std.proofs.lemmas.List.{append-nil, map-id, take-append-drop}
use Rattle.std.proofs.lemmas.List.FromFn.{length-map-range_with_len, map-range_with_len_more, take-map-range_with_len}
use Rattle.interconnection.specs.Shape.{ShapeParts}
use Rattle.conjunctive_compose.specs.System.{SystemParts, IsSystem}
use Rattle.pair_structure.specs.Parts.{role_at}
use Rattle.waitfor_check.specs.Choices.{choices}
use Rattle.waitfor_check.specs.Star.{arc_numbered, centre_at, centre_side, leaf_at, leaf_structure}
use Rattle.waitfor_check.specs.Steps.{HasKinds, centre_steps, reached_at, reached_by, steps_on}
use Rattle.waitfor_check.specs.Closed.{IsFirstMissing}
use Rattle.waitfor_check.specs.inside.Walk.{AreMembers, Differ, EachDiffer}
use Rattle.waitfor_check.proofs.Distinct.{Contains-later}
use Rattle.waitfor_check.proofs.Risings.{reached_at_differ}
use Rattle.waitfor_check.proofs.Selecting.{range_below}
use Rattle.waitfor_check.proofs.Walks.{members_more, missing_more}

range_more : (n : ℕ) → range_with_len 0 (n + 1) ≡ range_with_len 0 n ++ n ∷ []
range_more n = sym (map-id (range_with_len 0 (n + 1))) ∙ map-range_with_len_more (λ (i : ℕ). i) 0 n n (omega arith) ∙ ap (λ l. l ++ n ∷ []) (map-id (range_with_len 0 n))

pub rows_more : (g : ℕ → List (List ℕ)) (n : ℕ) → flat_map g (range_with_len 0 (n + 1)) ≡ flat_map g (range_with_len 0 n) ++ g n
rows_more g n = ap (flat_map g) (range_more n) ∙ flat_map-append g (range_with_len 0 n) (n ∷ []) ∙ ap (λ b. flat_map g (range_with_len 0 n) ++ b) (append-nil (g n))

range_take : (i n : ℕ) → i ≤ n → take i (range_with_len 0 n) ≡ range_with_len 0 i
range_take i n le = ap (take i) (sym (map-id (range_with_len 0 n))) ∙ take-map-range_with_len (λ (j : ℕ). j) 0 n i le ∙ map-id (range_with_len 0 i)

pub rows_split : (g : ℕ → List (List ℕ)) (i n : ℕ) → i < n → flat_map g (range_with_len 0 n) ≡ (flat_map g (range_with_len 0 i) ++ g i) ++ flat_map g (drop (i + 1) (range_with_len 0 n))
rows_split g i n lt =
    ap (flat_map g) (sym (take-append-drop (i + 1) (range_with_len 0 n))) ∙ flat_map-append g (take (i + 1) (range_with_len 0 n)) (drop (i + 1) (range_with_len 0 n)) ∙ ap (λ b. b ++ flat_map g (drop (i + 1) (range_with_len 0 n))) (ap (flat_map g) (range_take (i + 1) n (omega (arith, lt))) ∙ rows_more g i)

-- one row more, all of members
pub row_members : (members : List (List ℕ)) (g : ℕ → List (List ℕ)) (i count more : ℕ) → AreMembers members (flat_map g (range_with_len 0 i)) count → AreMembers members (g i) more → AreMembers members (flat_map g (range_with_len 0 (i + 1))) (count + more)
row_members members g i count more before here = subst (λ xs. AreMembers members xs (count + more)) (sym (rows_more g i)) (members_more members (flat_map g (range_with_len 0 i)) (g i) count more before here)

-- one row more, in which one is missing
pub row_missing : (members : List (List ℕ)) (g : ℕ → List (List ℕ)) (i n count at : ℕ) → i < n → AreMembers members (flat_map g (range_with_len 0 i)) count → IsFirstMissing members (g i) at → IsFirstMissing members (flat_map g (range_with_len 0 n)) (count + at)
row_missing members g i n count at lt before here = subst (λ xs. IsFirstMissing members xs (count + at)) (sym (rows_split g i n lt)) (missing_more members (flat_map g (range_with_len 0 i)) (g i) (flat_map g (drop (i + 1) (range_with_len 0 n))) count at before here)

-- a filter as empty rows
filtered_rows : (p : ℕ → Bool) (g : ℕ → List (List ℕ)) (xs : List ℕ) → flat_map g (filter p xs) ≡ flat_map (λ x. cond (p x) (g x) []) xs
filtered_rows p g [] = refl
filtered_rows p g (x ∷ xs) = by (p x) refl (filtered_rows p g xs)
  where
    by : (b : Bool) → p x ≡ b → flat_map g (filter p xs) ≡ flat_map (λ x. cond (p x) (g x) []) xs → flat_map g (filter p (x ∷ xs)) ≡ flat_map (λ x. cond (p x) (g x) []) (x ∷ xs)
    by true e rest = rw e (ap (λ b. g x ++ b) rest)
    by false e rest = rw e rest

-- the centre's steps are those on each arc
pub centre_rows : (sys : SystemParts) (shape : ShapeParts) (xs : List ℕ) → centre_steps sys shape xs ≡ flat_map (steps_on sys shape xs) (range_with_len 0 (length (role_at sys.network.roles shape.role).arcs))
centre_rows sys shape xs = filtered_rows (λ arc. (arc_numbered sys shape.role arc).from == centre_at sys shape xs 0) (λ arc. choices (reached_by sys shape xs arc)) (range_with_len 0 (length (role_at sys.network.roles shape.role).arcs))

pub each_differ : (f : ℕ → List ℕ) (is : List ℕ) → ((i : ℕ) → Contains is i → Differ (f i)) → EachDiffer (map f is)
each_differ f [] differ = tt
each_differ f (i ∷ is) differ = (differ i (0, omega arith, refl), each_differ f is (λ j h. differ j (Contains-later i is j h)))

-- what an arc reaches differs in each leaf
pub reached_by_differ : (sys : SystemParts) (shape : ShapeParts) (xs : List ℕ) (arc : ℕ) → IsSystem sys → HasKinds sys shape → EachDiffer (reached_by sys shape xs arc)
reached_by_differ sys shape xs arc lawful kinds = each_differ (λ i. reached_at (leaf_structure sys shape i) (centre_side shape i) (arc_numbered sys shape.role arc).to (get_or xs i 0)) (range_with_len 0 (length shape.leaves))
    (λ i has. reached_at_differ (leaf_structure sys shape i) (centre_side shape i) (arc_numbered sys shape.role arc).to (get_or xs i 0) (lawful.structures.over (leaf_at shape i).0 (kinds.kinds i (range_below (length shape.leaves) i has))).rising)

pub length-reached_by : (sys : SystemParts) (shape : ShapeParts) (xs : List ℕ) (arc : ℕ) → length (reached_by sys shape xs arc) ≡ length shape.leaves
length-reached_by sys shape xs arc = length-map-range_with_len (λ i. reached_at (leaf_structure sys shape i) (centre_side shape i) (arc_numbered sys shape.role arc).to (get_or xs i 0)) 0 (length shape.leaves)

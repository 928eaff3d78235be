-- No two steps of the centre reach the same star state.
use Rattle.std.proofs.Common.{ℕ, zero, suc, ◌≡◌, ◌<◌, ◌≤◌, ◌+◌, ◌==◌, inl, inr, Bool, true, false, cond, List, [], ◌∷◌, ◌++◌, length, get_or, map, arith, refl, sym, ◌∙◌, ap, subst, Contains, eqb-true}
use Rattle.std.specs.Prelude.{filter}
use Rattle.std.specs.List.{flat_map, range_with_len}
use Rattle.std.proofs.lemmas.List.Elements.{All-contains, filter_passes}
use Rattle.pair_structure.specs.Parts.{arc_at, role_at}
use Rattle.pair_structure.specs.Role.{IsRole}
use Rattle.pair_structure.specs.Sides.{local_of}
use Rattle.pair_structure.specs.Structure.{label_at}
use Rattle.interconnection.specs.Shape.{ShapeParts}
use Rattle.conjunctive_compose.specs.System.{IsSystem, SystemParts}
use Rattle.waitfor_check.specs.Choices.{choices}
use Rattle.waitfor_check.specs.Star.{arc_numbered, centre_at, centre_side, leaf_structure}
use Rattle.waitfor_check.specs.Steps.{HasKinds, centre_steps, places, reached, reached_at, reached_by, steps_on}
use Rattle.waitfor_check.specs.inside.Walk.{Differ}
use Rattle.waitfor_check.proofs.Distinct.{Differ-append, completions_differ}
use Rattle.waitfor_check.proofs.Rows.{centre_rows, reached_by_differ, rows_more}
use Rattle.waitfor_check.proofs.Selecting.{range_below}
use Rattle.waitfor_check.proofs.Spelling.{completions_are}
use Rattle.waitfor_check.proofs.StepLists.{choices_take, flat_map_from, zip_at}

-- a step on an arc leads the centre from the arc's one end to the other
pub arc_leads : (sys : SystemParts) (shape : ShapeParts) (xs ys : List ℕ) (arc : ℕ) → 0 < length shape.leaves → Contains (steps_on sys shape xs arc) ys → ((arc_numbered sys shape.role arc).from ≡ centre_at sys shape xs 0) × ((arc_numbered sys shape.role arc).to ≡ centre_at sys shape ys 0)
arc_leads sys shape xs ys arc some has = by ((arc_numbered sys shape.role arc).from == centre_at sys shape xs 0) refl has
  where
    f : ℕ → List ℕ
    f i = reached_at (leaf_structure sys shape i) (centre_side shape i) (arc_numbered sys shape.role arc).to (get_or xs i 0)

    by : (b : Bool) → ((arc_numbered sys shape.role arc).from == centre_at sys shape xs 0) ≡ b → Contains (cond b (choices (reached_by sys shape xs arc)) []) ys → ((arc_numbered sys shape.role arc).from ≡ centre_at sys shape xs 0) × ((arc_numbered sys shape.role arc).to ≡ centre_at sys shape ys 0)
    by false e none = absurd (omega (arith, none.1))
    by true e among =
        let at = zip_at f (length shape.leaves) 0 ys (choices_take (map f (places shape)) ys among) in
        let side = centre_side shape 0 in
        let m = leaf_structure sys shape 0 in
        let test = λ (t : ℕ). local_of side (label_at m.states t) == (arc_numbered sys shape.role arc).to in
        (eqb-true _ _ e, sym (eqb-true _ _ (All-contains (λ (t : ℕ). test t ≡ true) (filter test (reached m side (get_or xs 0 0))) (get_or ys 0 0) (filter_passes test (reached m side (get_or xs 0 0))) (at.1 0 some))))

row_differs : (sys : SystemParts) (shape : ShapeParts) (xs : List ℕ) (arc : ℕ) → IsSystem sys → HasKinds sys shape → Differ (steps_on sys shape xs arc)
row_differs sys shape xs arc lawful kinds = by ((arc_numbered sys shape.role arc).from == centre_at sys shape xs 0)
  where
    by : (b : Bool) → Differ (cond b (choices (reached_by sys shape xs arc)) [])
    by false = tt
    by true = subst (λ (c : List (List ℕ)). Differ c) (completions_are (reached_by sys shape xs arc)) (completions_differ [] (reached_by sys shape xs arc) (reached_by_differ sys shape xs arc lawful kinds))

-- the steps on the first n arcs differ
pub rows_differ : (sys : SystemParts) (shape : ShapeParts) (xs : List ℕ) (n : ℕ) → IsSystem sys → HasKinds sys shape → 0 < length shape.leaves → n ≤ length (role_at sys.network.roles shape.role).arcs → Differ (flat_map (steps_on sys shape xs) (range_with_len 0 n))
rows_differ sys shape xs zero lawful kinds some le = tt
rows_differ sys shape xs (suc n) lawful kinds some le = subst (λ (l : List (List ℕ)). Differ l) (sym more) (Differ-append (flat_map (steps_on sys shape xs) (range_with_len 0 n)) (steps_on sys shape xs n) (rows_differ sys shape xs n lawful kinds some (omega (arith, le))) (row_differs sys shape xs n lawful kinds) apart)
  where
    more : flat_map (steps_on sys shape xs) (range_with_len 0 (suc n)) ≡ flat_map (steps_on sys shape xs) (range_with_len 0 n) ++ steps_on sys shape xs n
    more = let e : suc n ≡ n + 1 = omega arith in ap (λ (n : ℕ). flat_map (steps_on sys shape xs) (range_with_len 0 n)) e ∙ rows_more (steps_on sys shape xs) n

    role : IsRole (role_at sys.network.roles shape.role)
    role = lawful.roles shape.role kinds.role

    apart : (z : List ℕ) → Contains (flat_map (steps_on sys shape xs) (range_with_len 0 n)) z → Contains (steps_on sys shape xs n) z → ⊥
    apart z here there =
        let found = flat_map_from (steps_on sys shape xs) (range_with_len 0 n) z here in
        let one = arc_leads sys shape xs z found.0 some found.2 in
        let two = arc_leads sys shape xs z n some there in
        role.ends_differ found.0 n (record { from = 0; to = 0; free = false }) (range_below n found.0 found.1) (omega (arith, le)) (one.0 ∙ sym two.0) (one.1 ∙ sym two.1)

pub centre_steps_differ : (sys : SystemParts) (shape : ShapeParts) (xs : List ℕ) → IsSystem sys → HasKinds sys shape → 0 < length shape.leaves → Differ (centre_steps sys shape xs)
centre_steps_differ sys shape xs lawful kinds some = subst (λ (l : List (List ℕ)). Differ l) (sym (centre_rows sys shape xs)) (rows_differ sys shape xs (length (role_at sys.network.roles shape.role).arcs) lawful kinds some (omega arith))

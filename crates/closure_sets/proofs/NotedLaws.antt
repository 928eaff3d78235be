-- Rows noted one after another.
use Rattle.std.proofs.Common.{ℕ, zero, suc, ◌≡◌, ◌-◌, inl, inr, Bool, false, Option, Some, None, List, [], ◌∷◌, ◌++◌, refl, subst, sym, ap, ◌∙◌, arith, append-nil}
use Rattle.pair_structure.specs.declared.side.Side.{Side}
use Rattle.closure_sets.specs.ClosureParts.{ClosureParts, count}
use Rattle.std.specs.Prelude.{if◌then◌else◌}
use Rattle.closure_sets.specs.Expansion.{expand, expansion_along, ways, lowest, is_open, clashes, finish, at_lowest, rows_of, no_members}
use Rattle.closure_sets.specs.Firsts.{IsOneOf, IsNoted, AreNoted, AreFirsts}
use Rattle.closure_sets.specs.Full.{EachRow, Among}
use Rattle.closure_sets.specs.Label.{part_of, is_plain}
use Rattle.closure_sets.specs.Row.{Members, add, set_of}
use Rattle.closure_sets.specs.inside.Ways.{ways_rows, with_row, treat_rows}
use Rattle.closure_sets.specs.declared.row.Row.{Row}
use Rattle.closure_sets.specs.declared.ways.Ways.{Ways}
use Rattle.closure_sets.proofs.FullRows.{each_append}

pub noted_append : (before between after xs ys : List Members) → AreNoted before xs between → AreNoted between ys after → AreNoted before (xs ++ ys) after
noted_append before between after [] ys h k = subst (λ (b : List Members). AreNoted b ys after) h k
noted_append before between after (x ∷ xs) ys h k = (h.0, h.1, noted_append h.0 between after xs ys h.2 k)

pub noted_one : (before after : List Members) (r : Members) → IsNoted before r after → AreNoted before (r ∷ []) after
noted_one before after r h = (after, h, refl)

each_noted : (X : Members → Type 0) (before after : List Members) (r : Members) → IsNoted before r after → EachRow X before → X r → EachRow X after
each_noted X before after r (inl h) each x = subst (EachRow X) (sym h.1) each
each_noted X before after r (inr h) each x = subst (EachRow X) (sym h.1) (each_append X before (r ∷ []) each (x, tt))

-- what holds of each row of a list holds of each that is noted
pub each_of_noted : (X : Members → Type 0) (before all after : List Members) → AreNoted before all after → EachRow X before → EachRow X all → EachRow X after
each_of_noted X before [] after h each k = subst (EachRow X) (sym h) each
each_of_noted X before (r ∷ rs) after h each k = each_of_noted X h.0 rs after h.2 (each_noted X before h.0 r h.1 each k.0) k.1

among_left : (X : Members → Type 0) (rs qs : List Members) → Among X rs → Among X (rs ++ qs)
among_left X [] qs h = absurd h
among_left X (r ∷ rs) qs (inl x) = inl x
among_left X (r ∷ rs) qs (inr h) = inr (among_left X rs qs h)

among_last : (X : Members → Type 0) (rs : List Members) (q : Members) → X q → Among X (rs ++ q ∷ [])
among_last X [] q x = inl x
among_last X (r ∷ rs) q x = inr (among_last X rs q x)

among_stands : (X : Members → Type 0) (rs : List Members) (q : Members) → IsOneOf rs q → X q → Among X rs
among_stands X [] q h x = absurd h
among_stands X (r ∷ rs) q (inl e) x = inl (subst X (sym e) x)
among_stands X (r ∷ rs) q (inr h) x = inr (among_stands X rs q h x)

noted_keeps : (X : Members → Type 0) (before after : List Members) (r : Members) → IsNoted before r after → Among X before → Among X after
noted_keeps X before after r (inl h) a = subst (Among X) (sym h.1) a
noted_keeps X before after r (inr h) a = subst (Among X) (sym h.1) (among_left X before (r ∷ []) a)

noted_has : (X : Members → Type 0) (before after : List Members) (r : Members) → IsNoted before r after → X r → Among X after
noted_has X before after r (inl h) x = subst (Among X) (sym h.1) (among_stands X before r h.0 x)
noted_has X before after r (inr h) x = subst (Among X) (sym h.1) (among_last X before r x)

kept_noted : (X : Members → Type 0) (before all after : List Members) → AreNoted before all after → Among X before → Among X after
kept_noted X before [] after h a = subst (Among X) (sym h) a
kept_noted X before (r ∷ rs) after h a = kept_noted X h.0 rs after h.2 (noted_keeps X before h.0 r h.1 a)

-- what holds of some row of a list holds of some that is noted
pub among_noted : (X : Members → Type 0) (before all after : List Members) → AreNoted before all after → Among X all → Among X after
among_noted X before [] after h a = absurd a
among_noted X before (r ∷ rs) after h (inl x) = kept_noted X h.0 rs after h.2 (noted_has X before h.0 r h.1 x)
among_noted X before (r ∷ rs) after h (inr a) = among_noted X h.0 rs after h.2 a

with_noted : (f : Members → List Members) (way : Option Row) (rows before between after : List Members) → AreNoted before (rows_of f (with_row way [])) between → AreNoted between (rows_of f rows) after → AreNoted before (rows_of f (with_row way rows)) after
with_noted f (Some r) rows before between after h k = noted_append before between after (f (set_of r.words)) (rows_of f rows) (subst (λ (l : List Members). AreNoted before l between) (append-nil (f (set_of r.words))) h) k
with_noted f None rows before between after h k = subst (λ (b : List Members). AreNoted b (rows_of f rows) after) h k

-- a row, then one more where there is one, then a third
pub ways_noted : (f : Members → List Members) (w : Ways) (before one two after : List Members) → AreNoted before (f (set_of w.first.words)) one → AreNoted one (rows_of f (with_row w.second [])) two → AreNoted two (rows_of f (with_row w.third [])) after → AreNoted before (rows_of f (ways_rows w)) after
ways_noted f w before one two after h k l = noted_append before one after (f (set_of w.first.words)) (rows_of f (with_row w.second (with_row w.third []))) h (with_noted f w.second (with_row w.third []) one two after k l)

-- one row alone
pub way_noted : (f : Members → List Members) (way : Option Row) (r : Row) (before after : List Members) → way ≡ Some r → AreNoted before (f (set_of r.words)) after → AreNoted before (rows_of f (with_row way [])) after
way_noted f way r before after e h = subst (λ (o : Option Row). AreNoted before (rows_of f (with_row o [])) after) (sym e) (subst (λ (l : List Members). AreNoted before l after) (sym (append-nil (f (set_of r.words)))) h)

-- an expansion that treats its lowest open member
pub expand_noted : (c : ClosureParts) (only : Option Side) (easy : ℕ → Bool) (clash : Members → Bool) (left : ℕ) (row treated more : Members) (member : ℕ) (rows before after : List Members) → clash row ≡ false → (left ≡ 0 → ⊥) → lowest (count c) (is_open row treated) ≡ Some member → more ≡ add treated member → rows ≡ ways c only easy row member (part_of c member)
    → AreNoted before (treat_rows c only easy clash (left - 1) more rows) after → AreNoted before (expand c only easy clash left row treated) after
expand_noted c only easy clash zero row treated more member rows before after fits some e f g h = absurd (some refl)
expand_noted c only easy clash (suc d) row treated more member rows before after fits some e f g h = subst (λ (l : List Members). AreNoted before l after) whole h
  where
    expansions : Option ℕ → List Members
    expansions o = at_lowest o (finish c row) (λ m. rows_of (λ r. expand c only easy clash d r (add treated m)) (ways c only easy row m (part_of c m)))

    less : suc d - 1 ≡ d
    less = omega arith

    whole : treat_rows c only easy clash (suc d - 1) more rows ≡ (if clash row then [] else expansions (lowest (count c) (is_open row treated)))
    whole = ap (λ k. treat_rows c only easy clash k more rows) less ∙ ap (λ (t : Members). treat_rows c only easy clash d t rows) f ∙ ap (treat_rows c only easy clash d (add treated member)) g ∙ ap expansions (sym e) ∙ ap (λ b. if b then [] else expansions (lowest (count c) (is_open row treated))) (sym fits)

-- an expansion along the side and at the label that were noted
pub noted_along : (c : ClosureParts) (only said : Option Side) (a b x y left : ℕ) (seed treated : Members) (before after : List Members) → said ≡ only → x ≡ a → y ≡ b → left ≡ count c → treated ≡ no_members → AreNoted before (expand c said (is_plain c (x, y)) (clashes c (x, y)) left seed treated) after → AreNoted before (expansion_along only c (a, b) seed) after
noted_along c only said a b x y left seed treated before after o d e f g h =
    subst (λ (l : List Members). AreNoted before l after) (ap (λ (s : Option Side). expand c s (is_plain c (x, y)) (clashes c (x, y)) left seed treated) o ∙ ap (λ (n : ℕ). expand c only (is_plain c (n, y)) (clashes c (n, y)) left seed treated) d ∙ ap (λ (n : ℕ). expand c only (is_plain c (a, n)) (clashes c (a, n)) left seed treated) e ∙ ap (λ k. expand c only (is_plain c (a, b)) (clashes c (a, b)) k seed treated) f ∙ ap (expand c only (is_plain c (a, b)) (clashes c (a, b)) (count c) seed) g) h

-- what was noted from nothing
pub noted_firsts : (all before after rows : List Members) → before ≡ [] → after ≡ rows → AreNoted before all after → AreFirsts all rows
noted_firsts all before after rows p q h = subst (AreNoted [] all) q (subst (λ (w : List Members). AreNoted w all after) p h)

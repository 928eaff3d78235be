-- The table of marks.
use Rattle.std.proofs.Common.{ℕ, ◌≡◌, ◌<◌, ◌+◌, ◌++◌, Bool, false, Option, List, [], ◌∷◌, length, length-append, subst, sym, ◌∙◌, ap, arith}
use Rattle.std.specs.Global.{Vec}
use Rattle.std.proofs.Math.Decide.{dec_lt}
use Rattle.std.proofs.lemmas.List.{get_or_append_left, get_or_push, map-append}
use Rattle.ctl_form.specs.declared.part.Part.TheVariants.{Until}
use Rattle.closure_sets.specs.ClosureParts.{ClosureParts, IsClosureParts, count}
use Rattle.closure_sets.specs.Label.{part_of}
use Rattle.closure_sets.proofs.MarkLaws.{below_of}
use Rattle.tableau_graph.specs.Graph.{Graph}
use Rattle.deletion_rules.specs.Marks.{lists_of, marks_at, AreMarksOf, AreTable}
use Rattle.deletion_rules.specs.Targets.{IsTarget}

pub target_is : (c : ClosureParts) → IsClosureParts c → (all : Bool) (u f g : ℕ) → u < count c → part_of c u ≡ Until all false f g → IsTarget c (record { all = all; member = u; f = f; g = g })
target_is c k all u f g lt p = let below = below_of c k u (Until all false f g) lt p in record { part = p; member = lt; f = below.0; g = below.1 }

until_same : {all all' : Bool} {f f' g g' : ℕ} → Until all false f g ≡ Until all' false f' g' → (all ≡ all') × (f ≡ f') × (g ≡ g')
until_same e = (cc, cc, cc)

pub table_push : (c : ClosureParts) (g : Graph) (lives : ℕ → Bool) (k : ℕ) (table more : List (Vec (Option ℕ))) (x : Vec (Option ℕ)) → AreTable c g lives k (lists_of table) → more ≡ table ++ x ∷ [] → AreMarksOf c g lives k x.items → AreTable c g lives (k + 1) (lists_of more)
table_push c g lives k table more x h e new = record { long = ap length same ∙ long; each = each }
  where
    same : lists_of more ≡ lists_of table ++ x.items ∷ []
    same = ap lists_of e ∙ map-append (λ (marks : Vec (Option ℕ)). marks.items) table (x ∷ [])

    long : length (lists_of table ++ x.items ∷ []) ≡ k + 1
    long = let l : length (lists_of table) ≡ k = h.long in omega (arith, l, length-append (lists_of table) (x.items ∷ []))

    here : marks_at (lists_of more) k ≡ x.items
    here = ap (λ (l : List (List (Option ℕ))). marks_at l k) same ∙ get_or_push (lists_of table) x.items [] k h.long

    before : (u : ℕ) → u < k → marks_at (lists_of more) u ≡ marks_at (lists_of table) u
    before u lt = ap (λ (l : List (List (Option ℕ))). marks_at l u) same ∙ get_or_append_left (lists_of table) (x.items ∷ []) [] u (let l = h.long in omega (arith, lt, l))

    each : (u : ℕ) → u < k + 1 → AreMarksOf c g lives u (marks_at (lists_of more) u)
    each u lt = elim (dec_lt u k) [ yes b ↦ subst (AreMarksOf c g lives u) (sym (before u b)) (h.each u b) | no o ↦ (let q : k ≡ u = omega (arith, lt, o) in subst (λ j. AreMarksOf c g lives j (marks_at (lists_of more) j)) q (subst (AreMarksOf c g lives k) (sym here) new)) ]

-- The numbers of arcs, put into rows one after another.
use Rattle.std.proofs.Common.{ℕ, ◌≡◌, ◌<◌, ◌+◌, List, length, AllPairs, below_more, ◌∙◌, sym}
use Rattle.pair_structure.specs.declared.side.LocalArc.{LocalArc}
use Rattle.pair_structure.specs.Parts.{arc_at}
use Rattle.skeleton_extract.specs.inside.ArcNumbers.{AreApart, IsNumberingBelow, number_at}

-- one more arc; its ends are not those of an earlier one
pub IsNumberingBelow-more : (rows put : List (List ℕ)) (arcs : List LocalArc) (n : ℕ) → n < length arcs → AllPairs AreApart arcs → number_at put (arc_at arcs n).from (arc_at arcs n).to ≡ n
    → ((p q : ℕ) → (((arc_at arcs n).from ≡ p) × ((arc_at arcs n).to ≡ q) → ⊥) → number_at put p q ≡ number_at rows p q) → IsNumberingBelow n rows arcs → IsNumberingBelow (n + 1) put arcs
IsNumberingBelow-more rows put arcs n lt apart here elsewhere is =
    below_more _ n (λ arc before. elsewhere (arc_at arcs arc).from (arc_at arcs arc).to (λ same. apart arc n _ before lt (sym same.0) (sym same.1)) ∙ is arc before) here

-- Neighbours that are past: they permit an arc, or are placed.
use Rattle.std.proofs.Common.{ℕ, ◌≡◌, ◌<◌, ◌≤◌, ◌+◌, ◌⊎◌, ◌↔◌, inl, inr, Bool, List, length, get_or, set, arith, sym, ◌∙◌, ap, subst, length-set, get_or-set_same, get_or-set_other}
use Rattle.std.proofs.lemmas.Bool.{cases_eq, cases_lt}
use Rattle.std.proofs.lemmas.List.{get_or_default}
use Rattle.pair_structure.specs.declared.limits.TheConstants.{MAX_ARCS}
use Rattle.pair_structure.specs.declared.side.Side.TheVariants.{A}
use Rattle.interconnection.specs.declared.parts.Beside.{Beside}
use Rattle.interconnection.specs.Graph.{AreNeighbours, IsBeside, end_of, opposite}
use Rattle.conjunctive_compose.specs.System.{SystemParts, IsSystem, edge_at}
use Rattle.conjunctive_compose.specs.Whole.{WholeParts}
use Rattle.conjunctive_compose.specs.Firing.{Fits}
use Rattle.conjunctive_compose.specs.Peel.{IsClear}
use Rattle.conjunctive_compose.specs.inside.Peeling.{ArePast, IsMarked, IsPast, IsPeeling, PeelingParts, passed_at, place_of}
use Rattle.conjunctive_compose.proofs.Edges.{role_lawful}
use Rattle.conjunctive_compose.proofs.Neighbours.{AreBeside}
use Rattle.conjunctive_compose.proofs.SameNeighbours.{same_neighbours}

abbrev pub nobody : Beside
nobody = record { process = 0; edge = 0; side = A }

-- all are past: the arc is clear
pub all_clear : (sys : SystemParts) (w : WholeParts) (marks : List Bool) (k arc : ℕ) (list : List Beside) → AreBeside sys k list → ArePast sys w marks arc list (length list) → IsClear sys w (IsMarked marks) k arc
all_clear sys w marks k arc list are past e side lt on =
    let b : Beside = record { process = end_of (edge_at sys e) (opposite side); edge = e; side = side } in
    let found = are.all e side lt on in
    subst (IsPast sys w marks arc) found.2 (past found.0 b found.1)

-- one more is past
pub past_further : (sys : SystemParts) (w : WholeParts) (marks : List Bool) (arc : ℕ) (list : List Beside) (n : ℕ) (d : Beside) → n < length list → ArePast sys w marks arc list n → IsPast sys w marks arc (get_or list n d) → ArePast sys w marks arc list (n + 1)
past_further sys w marks arc list n d lt past here i d' le = elim (cases_eq i n) [
  | inl same ↦ (let at : get_or list n d ≡ get_or list i d' = get_or_default list n d d' lt ∙ ap {B = Beside} (λ k. get_or list k d') (sym same) in subst (IsPast sys w marks arc) at here)
  | inr differ ↦ past i d' (omega arith)
]

-- each neighbour is past where an arc is clear
pub clear_at : (sys : SystemParts) (w : WholeParts) (marks : List Bool) (k arc : ℕ) (b : Beside) → IsBeside sys.network.edges k b → IsClear sys w (IsMarked marks) k arc → IsPast sys w marks arc b
clear_at sys w marks k arc b is clear = elim (clear b.edge b.side is.within is.own) [ inl permit ↦ inl permit | inr gone ↦ inr (subst (IsMarked marks) is.other gone) ]

-- the first that is not past is past the end exactly where the arc is clear
pub clear_exactly : (sys : SystemParts) (w : WholeParts) (marks : List Bool) (k arc : ℕ) (list : List Beside) (n : ℕ) → AreBeside sys k list → n ≤ length list → ArePast sys w marks arc list n → ((d : Beside) → n < length list → IsPast sys w marks arc (get_or list n d) → ⊥)
    → (n ≡ length list) ↔ IsClear sys w (IsMarked marks) k arc
clear_exactly sys w marks k arc list n are within past stops = (λ all. all_clear sys w marks k arc list are (subst (ArePast sys w marks arc list) all past), back)
  where
    back : IsClear sys w (IsMarked marks) k arc → n ≡ length list
    back clear = elim (cases_lt n (length list)) [
      | inl lt ↦ absurd (stops nobody lt (clear_at sys w marks k arc _ (are.each n nobody lt) clear))
      | inr ge ↦ omega (arith, ge, within)
    ]

-- each arc of each process has a count of its own
pub count_within : (sys : SystemParts) (w : WholeParts) (p : PeelingParts) (k arc : ℕ) → IsSystem sys → IsPeeling sys w p → Fits sys k arc → (arc < MAX_ARCS) × (place_of k arc < length p.passed)
count_within sys w p k arc lawful is fits =
    let few = (role_lawful sys k lawful fits.process_in).few_arcs in
    (omega (arith, few, fits.arc_in), omega (arith, few, fits.arc_in, fits.process_in, is.room))

place_known : (k j arc other : ℕ) → arc < MAX_ARCS → other < MAX_ARCS → place_of k arc ≡ place_of j other → (k ≡ j) × (arc ≡ other)
place_known k j arc other lt lt' same = (omega (arith, lt, lt', same), omega (arith, lt, lt', same))

-- one more count
pub counted : (sys : SystemParts) (w : WholeParts) (p : PeelingParts) (k arc n : ℕ) (list : List Beside) → IsPeeling sys w p → arc < MAX_ARCS → place_of k arc < length p.passed → AreNeighbours sys.network.edges k list → ArePast sys w p.marks arc list n
    → IsPeeling sys w (record { order = p.order; marks = p.marks; passed = set p.passed (place_of k arc) n })
counted sys w p k arc n list is lt within are past = record {
  size = is.size;
  within = is.within;
  marked = is.marked;
  once = is.once;
  turns = is.turns;
  count = is.count;
  room = length-set p.passed (place_of k arc) n ∙ is.room;
  past = λ j other list' lt' are'. by j other list' lt' are' (cases_eq (place_of j other) (place_of k arc));
}
  where
    by : (j other : ℕ) (list' : List Beside) → other < MAX_ARCS → AreNeighbours sys.network.edges j list' → (place_of j other ≡ place_of k arc) ⊎ (place_of j other ≡ place_of k arc → ⊥) → ArePast sys w p.marks other list' (passed_at (set p.passed (place_of k arc) n) j other)
    by j other list' lt' are' (inr differ) = subst (ArePast sys w p.marks other list') (sym (get_or-set_other p.passed (place_of k arc) (place_of j other) n 0 differ)) (is.past j other list' lt' are')
    by j other list' lt' are' (inl same) =
        let known = place_known j k other arc lt' lt same in
        let lists : list ≡ list' = same_neighbours sys.network.edges k list list' are (subst (λ j. AreNeighbours sys.network.edges j list') known.0 are') in
        let here : ArePast sys w p.marks other list' n = subst (λ a. ArePast sys w p.marks a list' n) (sym known.1) (subst (λ l. ArePast sys w p.marks arc l n) lists past) in
        subst (ArePast sys w p.marks other list') (sym (ap {B = ℕ} (λ i. get_or (set p.passed (place_of k arc) n) i 0) same ∙ get_or-set_same p.passed (place_of k arc) n 0 within)) here

-- The neighbours of a process, one after another.
use Rattle.std.proofs.Common.{ℕ, ◌≡◌, ◌<◌, ◌+◌, inl, inr, List, length, get_or, arith, refl, sym, ◌∙◌, ap, subst, AllPairs, Contains}
use Rattle.std.proofs.lemmas.Bool.{cases_eq, cases_order}
use Rattle.std.proofs.lemmas.List.{get_or_default}
use Rattle.std.proofs.lemmas.List.Elements.{Contains-get_or}
use Rattle.pair_structure.specs.declared.side.Side.{Side}
use Rattle.interconnection.specs.declared.parts.Beside.{Beside}
use Rattle.interconnection.specs.Graph.{AreNeighbours, IsBeside, end_of}
use Rattle.pair_structure.specs.Sides.{opposite}
use Rattle.conjunctive_compose.specs.declared.wish.Wish.{Wish}
use Rattle.conjunctive_compose.specs.System.{SystemParts, IsOn, edge_at, edge_count}
use Rattle.conjunctive_compose.specs.Whole.{WholeParts}
use Rattle.conjunctive_compose.specs.Firing.{AllPermit, Blocks, IsFirstBlocker, Permits}

-- the list of neighbours by its places
pub record AreBeside (sys : SystemParts) (k : ℕ) (list : List Beside) : Type 0 where
  pub each : (i : ℕ) (d : Beside) → i < length list → IsBeside sys.network.edges k (get_or list i d)
  pub rising : AllPairs (λ (x y : Beside). x.process < y.process) list
  pub all : (e : ℕ) (side : Side) → e < edge_count sys → IsOn sys k side e → Contains list (record { process = end_of (edge_at sys e) (opposite side); edge = e; side = side })

pub are_beside : (sys : SystemParts) (k : ℕ) (list : List Beside) → AreNeighbours sys.network.edges k list → AreBeside sys k list
are_beside sys k list are = record {
  each = λ i d lt. (are.exactly (get_or list i d)).0 (Contains-get_or list i d lt);
  rising = are.rising;
  all = λ e side lt on. (are.exactly (record { process = end_of (edge_at sys e) (opposite side); edge = e; side = side })).1 (record { within = lt; own = on; other = refl });
}

abbrev pub AllSo : SystemParts → WholeParts → ℕ → List Beside → ℕ → Type 0
AllSo sys w arc list n = (i : ℕ) (d : Beside) → i < n → Permits sys w (get_or list i d).side arc (get_or list i d).edge

pub all_permit : (sys : SystemParts) (w : WholeParts) (k arc : ℕ) (list : List Beside) → AreBeside sys k list → AllSo sys w arc list (length list) → AllPermit sys w k arc
all_permit sys w k arc list are so e side lt on =
    let b : Beside = record { process = end_of (edge_at sys e) (opposite side); edge = e; side = side } in
    let found = are.all e side lt on in
    subst (λ (b : Beside). Permits sys w b.side arc b.edge) found.2 (so found.0 b found.1)

pub so_more : (sys : SystemParts) (w : WholeParts) (arc : ℕ) (list : List Beside) (n : ℕ) (d : Beside) → n < length list → AllSo sys w arc list n → Permits sys w (get_or list n d).side arc (get_or list n d).edge → AllSo sys w arc list (n + 1)
so_more sys w arc list n d lt so here i d' le = elim (cases_eq i n) [
  | inl same ↦ (let at : get_or list n d ≡ get_or list i d' = get_or_default list n d d' lt ∙ ap {B = Beside} (λ k. get_or list k d') (sym same) in subst (λ (x : Beside). Permits sys w x.side arc x.edge) at here)
  | inr ne ↦ so i d' (omega arith)
]

pub first_is : (sys : SystemParts) (w : WholeParts) (wish : Wish) (list : List Beside) (n : ℕ) (d : Beside) → AreBeside sys wish.process list → n < length list → AllSo sys w wish.arc list n → (Permits sys w (get_or list n d).side wish.arc (get_or list n d).edge → ⊥) → IsFirstBlocker sys w wish (get_or list n d).process
first_is sys w wish list n d are lt so not =
    let b = get_or list n d in
    let is = are.each n d lt in
    ((b.edge, b.side, is.within, is.own, is.other, not), λ j below blocks. none j below blocks)
  where
    none : (j : ℕ) → j < (get_or list n d).process → Blocks sys w wish j → ⊥
    none j below (e, side, in', on, is, not') =
        let b : Beside = record { process = end_of (edge_at sys e) (opposite side); edge = e; side = side } in
        let found = are.all e side in' on in
        let i = found.0 in
        elim (cases_order i n) [
          | inl same ↦ (let at : get_or list n d ≡ b = get_or_default list n d b lt ∙ (rw (← same) found.2) in omega (arith, below, is, ap {B = ℕ} (λ (b : Beside). b.process) at))
          | inr o ↦ elim o [
            | inl l ↦ not' (subst (λ (b : Beside). Permits sys w b.side wish.arc b.edge) found.2 (so i b l))
            | inr l ↦ (let up = are.rising n i d l found.1 in let at : get_or list i d ≡ b = get_or_default list i d b found.1 ∙ found.2 in omega (arith, up, below, is, ap {B = ℕ} (λ (b : Beside). b.process) at))
          ]
        ]

-- A tableau's children cover what states make true.
use Rattle.std.proofs.Common.{ℕ, ◌≡◌, ◌<◌, inl, inr, Option, Some, None, List, [], ◌∷◌, length, refl, subst, sym, ◌∙◌, ap, arith, slice_get}
use Rattle.std.proofs.lemmas.List.Elements.{All-contains}
use Rattle.std.proofs.lemmas.Option.{slice_get-get_or, get_or_from_slice_get}
use Rattle.pair_structure.specs.Role.{RoleParts, first_start}
use Rattle.pair_structure.proofs.FirstState.{first_state}
use Rattle.pair_structure.specs.Structure.{Structure, HasMove, IsOver, IsLawfulMove, label_at}
use Rattle.pair_structure.specs.declared.side.Move.{Move}
use Rattle.pair_structure.specs.declared.side.Side.{Side}
use Rattle.closure_sets.specs.ClosureParts.{ClosureParts}
use Rattle.closure_sets.specs.Cover.{ExpansionCovers, IsMetRow, IsTrueAt}
use Rattle.closure_sets.specs.Expansion.{expansion}
use Rattle.closure_sets.specs.Full.{EachRow, Among}
use Rattle.closure_sets.specs.Row.{Members}
use Rattle.tableau_graph.specs.Graph.{Graph, graph_of, HasChild, HasMetChild, TableauCovers, TableauRootCovers}
use Rattle.tableau_graph.specs.Rules.{Follows, LeadsTo}
use Rattle.tableau_graph.specs.TableauParts.{offered, or_at, seed_of, origin_of}
use Rattle.tableau_graph.specs.declared.breadth.Breadth.{Breadth}
use Rattle.tableau_graph.proofs.Expanded.{tableau_has_children}

both_of : (X Y : Members → Type 0) (rows : List Members) → Among X rows → EachRow Y rows → (row : Members) × X row × Y row
both_of X Y [] h k = absurd h
both_of X Y (r ∷ rows) (inl x) k = (r, x, k.0)
both_of X Y (r ∷ rows) (inr h) k = both_of X Y rows h k.1

-- rows that cover, each of them a child's, give a child that is met
met_child : (c : ClosureParts) (g : Graph) (m : Structure) (o s : ℕ) (label : ℕ × ℕ) (chosen : ℕ → Side) (rows : List Members) → slice_get m.states s ≡ Some label → Among (IsMetRow c chosen (IsTrueAt m c s)) rows → EachRow (HasChild g o label) rows → HasMetChild c g m chosen o s
met_child c g m o s label chosen rows at cover each =
    let v = both_of (IsMetRow c chosen (IsTrueAt m c s)) (HasChild g o label) rows cover each in
    let same = v.2 in
    (same.0, same.1, at ∙ ap (λ (l : ℕ × ℕ). Some l) (sym same.2), subst (IsMetRow c chosen (IsTrueAt m c s)) (sym same.3) v.1)

-- where a move of this side leads from a state with this label
follows_move : (a b : RoleParts) (m : Structure) → IsOver a b m → (side : Side) (s t : ℕ) (from : ℕ × ℕ) → slice_get m.states s ≡ Some from → HasMove m side s t → Follows a b side from (label_at m.states t)
follows_move a b m over side s t from at step =
    let move : Move = record { from = s; side = side; to = t } in
    let lawful : IsLawfulMove a b m.states move = All-contains (IsLawfulMove a b m.states) m.moves move over.lawful step in
    let same : label_at m.states s ≡ from = get_or_from_slice_get m.states s from (0, 0) at in
    subst (λ l. Follows a b side l (label_at m.states t)) same (lawful.arc, lawful.stays)

pub tableau_covers : ExpansionCovers → TableauCovers
tableau_covers covers t k whole m over n i h side is s s' at step holds chosen lawful =
    let lt : s' < length m.states = over.goes_on.within side s s' step in
    let label : ℕ × ℕ = label_at m.states s' in
    let seed : Members = seed_of (or_at t.ors ((graph_of t).next_or n i)) in
    let follows : Follows t.a t.b side ((graph_of t).label n) label = follows_move t.a t.b m over side s s' ((graph_of t).label n) at step in
    met_child t.closure (graph_of t) m ((graph_of t).next_or n i) s' label chosen (expansion t.closure label seed) (slice_get-get_or m.states s' (0, 0) lt) (covers t.closure label seed k.rules.closure m over.goes_on s' lt refl holds chosen lawful) (tableau_has_children t k whole n i h side is label follows)

root_reached : (a b : RoleParts) (found : Option Side) (origin to : ℕ × ℕ) → found ≡ None → to ≡ origin → LeadsTo a b found origin to
root_reached a b found origin to e same = subst (λ o. LeadsTo a b o origin to) (sym e) same

pub tableau_root_covers : ExpansionCovers → TableauRootCovers
tableau_root_covers covers t k whole m over holds chosen lawful =
    let start : ℕ × ℕ = (first_start t.a, first_start t.b) in
    let first : slice_get m.states 0 ≡ Some start = first_state t.a t.b m.states over.starts k.rules.role_a.begins k.rules.role_b.begins in
    let label : label_at m.states 0 ≡ start = get_or_from_slice_get m.states 0 start (0, 0) first in
    let seed : Members = seed_of (or_at t.ors 0) in
    let some : 0 < length t.ors = k.rules.some in
    let same : length t.children ≡ length t.ors = k.all_ors in
    let leads : LeadsTo t.a t.b (or_at t.ors 0).side (origin_of (or_at t.ors 0)) start = root_reached t.a t.b (or_at t.ors 0).side (origin_of (or_at t.ors 0)) start k.rules.root.sided (sym k.rules.root.origin) in
    met_child t.closure (graph_of t) m 0 0 start chosen (expansion t.closure start seed) first (covers t.closure start seed k.rules.closure m over.goes_on 0 over.some label holds chosen lawful) (subst (λ (b : Breadth). EachRow (HasChild (graph_of t) 0 start) (offered b t.closure start seed)) whole ((k.rules.children 0 (omega (arith, some, same))).all start leads))

-- A firing on one edge.
use Rattle.std.proofs.Common.{ℕ, ◌≡◌, ◌≢◌, ◌<◌, inl, inr, Option, Some, None, List, false, length, arith, refl, sym, ◌∙◌, ap, subst, get_or-set_same, get_or-set_other}
use Rattle.std.proofs.lemmas.Bool.{cases_eq}
use Rattle.std.proofs.lemmas.List.{length-set}
use Rattle.std.proofs.lemmas.List.Elements.{All-get_or}
use Rattle.std.proofs.lemmas.List.FromFn.{get_or-map-range_with_len, length-map-range_with_len}
use Rattle.pair_structure.specs.declared.side.LocalArc.{LocalArc}
use Rattle.pair_structure.specs.declared.side.Side.{Side}
use Rattle.pair_structure.specs.declared.side.Side.TheVariants.{A, B}
use Rattle.pair_structure.specs.Ordinal.{IsStateAt}
use Rattle.pair_structure.specs.Role.{JoinsTwo}
use Rattle.pair_structure.specs.Parts.{arc_at}
use Rattle.pair_structure.specs.Sides.{arcs_of, opposite, local_of, with_local}
use Rattle.skeleton_extract.specs.Commands.{IsCommand, IsListed, commands_of}
use Rattle.skeleton_extract.specs.Permission.{picked}
use Rattle.skeleton_extract.proofs.Moving.{command_moves}
use Rattle.skeleton_extract.proofs.OnePairState.{one_pair_state}
use Rattle.skeleton_extract.proofs.Sides.{same_pairs}
use Rattle.interconnection.specs.Graph.{end_of}
use Rattle.conjunctive_compose.specs.declared.wish.Wish.{Wish}
use Rattle.conjunctive_compose.specs.System.{SystemParts, IsSystem, IsOn, edge_at, edge_count, lists_at, process_count, role_of, side_on, structure_at}
use Rattle.conjunctive_compose.specs.Whole.{WholeParts, IsProper, HasPair, label_on, local_at, value_at}
use Rattle.conjunctive_compose.specs.Firing.{Moves, across, arc_of, fired, permitted, value_after, value_by}
use Rattle.conjunctive_compose.specs.Laws.{KeepsPairs, PairStep}
use Rattle.conjunctive_compose.proofs.Edges.{IsLawfulEdge, edge_lawful, role_lawful}
use Rattle.conjunctive_compose.proofs.Filters.{picked_is}
use Rattle.conjunctive_compose.proofs.Sides.{across_differs, by_side, side_known, side_none}

pub value_fired : (sys : SystemParts) (w : WholeParts) (wish : Wish) (e : ℕ) → e < length w.shared → value_at (fired sys w wish) e ≡ value_after sys w wish e
value_fired sys w wish e lt = get_or-map-range_with_len (value_after sys w wish) 0 (length w.shared) e e 0 lt (omega arith)

pub other_local : (sys : SystemParts) (w : WholeParts) (wish : Wish) (k : ℕ) → k ≢ wish.process → local_at (fired sys w wish) k ≡ local_at w k
other_local sys w wish k ne = get_or-set_other w.locals wish.process k (arc_of sys wish.process wish.arc).to 0 ne

pub own_local : (sys : SystemParts) (w : WholeParts) (wish : Wish) → wish.process < length w.locals → local_at (fired sys w wish) wish.process ≡ (arc_of sys wish.process wish.arc).to
own_local sys w wish lt = get_or-set_same w.locals wish.process (arc_of sys wish.process wish.arc).to 0 lt

-- the label of an edge of the process that fires
pub label_fired : (sys : SystemParts) (w : WholeParts) (wish : Wish) (e : ℕ) (side : Side) → wish.process < length w.locals → end_of (edge_at sys e) side ≡ wish.process → end_of (edge_at sys e) (opposite side) ≢ wish.process
    → label_on sys (fired sys w wish) e ≡ with_local side (label_on sys w e) (arc_of sys wish.process wish.arc).to
label_fired sys w wish e A lt on off = same_pairs _ _ _ _ (rw on (own_local sys w wish lt)) (other_local sys w wish (edge_at sys e).b off)
label_fired sys w wish e B lt on off = same_pairs _ _ _ _ (other_local sys w wish (edge_at sys e).a off) (rw on (own_local sys w wish lt))

pub arcs_are : (sys : SystemParts) (e k : ℕ) (side : Side) → IsOn sys k side e → arcs_of side (role_of sys (edge_at sys e).a) (role_of sys (edge_at sys e).b) ≡ (role_of sys k).arcs
arcs_are sys e k A on = rw on refl
arcs_are sys e k B on = rw on refl

pub local_of-label_on : (sys : SystemParts) (w : WholeParts) (e : ℕ) (side : Side) → local_of side (label_on sys w e) ≡ local_at w (end_of (edge_at sys e) side)
local_of-label_on sys w e A = refl
local_of-label_on sys w e B = refl

-- what is known of the edge after the firing, where its label and value are these
pub pair_there : (sys : SystemParts) (w : WholeParts) (e s x : ℕ) (label : ℕ × ℕ) → IsStateAt (structure_at sys e).states label x s → label_on sys w e ≡ label → value_at w e ≡ x → HasPair sys w e s
pair_there sys w e s x label pair lab val = record { within = pair.within; label_is = pair.label_is ∙ sym lab; ordinal_is = pair.ordinal_is ∙ sym val }

abbrev Goes : SystemParts → WholeParts → Wish → ℕ → ℕ → Option Side → Type 0
Goes sys w wish e s side = (t : ℕ) × PairStep (structure_at sys e) side s t × HasPair sys (fired sys w wish) e t

pub edge_moves : (sys : SystemParts) (w : WholeParts) (wish : Wish) (e s : ℕ) (side : Side) → IsLawfulEdge sys e → IsProper sys w → Moves sys w wish → e < edge_count sys → HasPair sys w e s → IsOn sys wish.process side e → Goes sys w wish e s (Some side)
edge_moves sys w wish e s side lawful proper moves lt pair on =
    let a = role_of sys (edge_at sys e).a in
    let b = role_of sys (edge_at sys e).b in
    let m = structure_at sys e in
    let arc = arc_of sys wish.process wish.arc in
    let commands = commands_of (lists_at sys e) side wish.arc in
    let same : arcs_of side a b ≡ (role_of sys wish.process).arcs = arcs_are sys e wish.process side on in
    let known = picked_is commands (across sys w side e) (value_at w e) wish.pick (moves.permit e side lt on) in
    let c = picked (permitted sys w side wish.arc e) wish.pick in
    let in' : wish.arc < length (arcs_of side a b) = rw same moves.fits.arc_in in
    let listed : IsListed m side arc commands = subst (λ (arcs : List LocalArc). IsListed m side (arc_at arcs wish.arc) commands) same (lawful.skeleton.listed side wish.arc in') in
    let command : IsCommand m side arc c = (listed.exact c).0 known.among in
    let here : IsStateAt m.states (label_on sys w e) c.x s = rw known.x_is pair in
    let from : local_of side (label_on sys w e) ≡ arc.from = local_of-label_on sys w e side ∙ ap (local_at w) on ∙ sym moves.leaves in
    let other : local_of (opposite side) (label_on sys w e) ≡ c.other = local_of-label_on sys w e (opposite side) ∙ sym known.other_is in
    let gone = command_moves a b m side arc c (label_on sys w e) s lawful.over command here from other in
    let known_side : side_on (edge_at sys e) wish.process ≡ Some side = side_known (edge_at sys e) wish.process side lawful.differ on in
    let process_in : wish.process < length w.locals = rw proper.locals moves.fits.process_in in
    let value_in : e < length w.shared = rw proper.values lt in
    let lab = label_fired sys w wish e side process_in on (across_differs (edge_at sys e) wish.process side lawful.differ on) in
    let val : value_at (fired sys w wish) e ≡ c.set = value_fired sys w wish e value_in ∙ ap (value_by sys w wish e) known_side in
    (gone.0, gone.1, pair_there sys (fired sys w wish) e gone.0 c.set _ gone.2 lab val)

pub edge_stays : (sys : SystemParts) (w : WholeParts) (wish : Wish) (e s : ℕ) → IsProper sys w → e < edge_count sys → HasPair sys w e s → (edge_at sys e).a ≢ wish.process → (edge_at sys e).b ≢ wish.process → Goes sys w wish e s None
edge_stays sys w wish e s proper lt pair nea neb =
    let lab : label_on sys (fired sys w wish) e ≡ label_on sys w e = same_pairs _ _ _ _ (other_local sys w wish (edge_at sys e).a nea) (other_local sys w wish (edge_at sys e).b neb) in
    let value_in : e < length w.shared = rw proper.values lt in
    let val : value_at (fired sys w wish) e ≡ value_at w e = value_fired sys w wish e value_in ∙ ap (value_by sys w wish e) (side_none (edge_at sys e) wish.process nea neb) in
    (s, refl, pair_there sys (fired sys w wish) e s (value_at w e) (label_on sys w e) pair lab val)

-- one edge: the pair state after the firing, and how it is reached
pub edge_fired : (sys : SystemParts) (w : WholeParts) (wish : Wish) (e s : ℕ) → IsLawfulEdge sys e → IsProper sys w → Moves sys w wish → e < edge_count sys → HasPair sys w e s → Goes sys w wish e s (side_on (edge_at sys e) wish.process)
edge_fired sys w wish e s lawful proper moves lt pair =
    by_side (edge_at sys e) wish.process (Goes sys w wish e s)
    (λ side on. edge_moves sys w wish e s side lawful proper moves lt pair on)
    (λ nea neb. edge_stays sys w wish e s proper lt pair nea neb)

-- each process is in a local state of its role after the firing
pub local_within : (sys : SystemParts) (w : WholeParts) (wish : Wish) (k : ℕ) → IsSystem sys → IsProper sys w → Moves sys w wish → k < process_count sys → local_at (fired sys w wish) k < length (role_of sys k).locals
local_within sys w wish k system proper moves lt = elim (cases_eq k wish.process) [ inl same ↦ own same | inr ne ↦ rw (other_local sys w wish k ne) (proper.within k lt) ]
  where
    own : k ≡ wish.process → local_at (fired sys w wish) k < length (role_of sys k).locals
    own same =
        let role = role_of sys wish.process in
        let in' : wish.process < length w.locals = rw proper.locals moves.fits.process_in in
        let arc = All-get_or (JoinsTwo (length role.locals)) role.arcs wish.arc (record { from = 0; to = 0; free = false }) moves.fits.arc_in (role_lawful sys wish.process system moves.fits.process_in).joins in
        rw (same, own_local sys w wish in') arc.to

pub fired_proper : (sys : SystemParts) (w : WholeParts) (wish : Wish) → IsSystem sys → IsProper sys w → Moves sys w wish → IsProper sys (fired sys w wish)
fired_proper sys w wish system proper moves = record {
  locals = length-set w.locals wish.process (arc_of sys wish.process wish.arc).to ∙ proper.locals;
  values = length-map-range_with_len (value_after sys w wish) 0 (length w.shared) ∙ proper.values;
  within = λ k lt. local_within sys w wish k system proper moves lt;
  pairs = λ e lt. let there = edge_fired sys w wish e (proper.pairs e lt).0 (edge_lawful sys e system lt) proper moves lt (proper.pairs e lt).1 in (there.0, there.2);
}

pub one_pair : (sys : SystemParts) (w : WholeParts) (e s t : ℕ) → HasPair sys w e s → HasPair sys w e t → s ≡ t
one_pair sys w e s t from to = one_pair_state (structure_at sys e).states (label_on sys w e) (value_at w e) s t from to

pub fired_pairs : (sys : SystemParts) (w : WholeParts) (wish : Wish) → IsSystem sys → IsProper sys w → Moves sys w wish → (e s t : ℕ) → e < edge_count sys → HasPair sys w e s → HasPair sys (fired sys w wish) e t → PairStep (structure_at sys e) (side_on (edge_at sys e) wish.process) s t
fired_pairs sys w wish system proper moves e s t lt from to =
    let there = edge_fired sys w wish e s (edge_lawful sys e system lt) proper moves lt from in
    let same : there.0 ≡ t = one_pair sys (fired sys w wish) e there.0 t there.2 to in
    subst (PairStep (structure_at sys e) (side_on (edge_at sys e) wish.process) s) same there.1

pub firing_keeps_pairs : (sys : SystemParts) (w : WholeParts) (wish : Wish) → IsSystem sys → IsProper sys w → Moves sys w wish → KeepsPairs sys w wish
firing_keeps_pairs sys w wish system proper moves = record { proper = fired_proper sys w wish system proper moves; steps = fired_pairs sys w wish system proper moves }

-- What is permitted in a star and in the whole state.
use Rattle.std.proofs.Common.{ℕ, ◌≡◌, ◌<◌, ◌⊎◌, inl, inr, Bool, true, Option, List, length, get_or, arith, refl, sym, ◌∙◌, ap, subst, Contains}
use Rattle.std.specs.Prelude.{unwrap_or}
use Rattle.std.proofs.lemmas.Bool.{cases_lt, cases_eq, eq-eqb}
use Rattle.std.proofs.lemmas.List.Elements.{All-contains, All-get_or, Contains-get_or, filter_passes}
use Rattle.pair_structure.specs.declared.side.Side.{Side}
use Rattle.pair_structure.specs.declared.side.Side.TheVariants.{A, B}
use Rattle.pair_structure.specs.declared.side.LocalArc.{LocalArc}
use Rattle.skeleton_extract.specs.declared.command.Command.{Command}
use Rattle.pair_structure.specs.Ordinal.{ordinal_of}
use Rattle.pair_structure.specs.Parts.{arc_at}
use Rattle.pair_structure.specs.Structure.{label_at}
use Rattle.pair_structure.specs.Sides.{local_of}
use Rattle.interconnection.specs.Graph.{end_of, opposite}
use Rattle.interconnection.specs.Network.{HasRoles, ends_of, role_of as role_number}
use Rattle.skeleton_extract.specs.Permission.{is_permitted, no_command, permitted_of}
use Rattle.skeleton_extract.specs.Commands.{IsListed, commands_of}
use Rattle.pair_structure.specs.Sides.{arcs_of}
use Rattle.conjunctive_compose.specs.System.{SystemParts, IsSystem, IsOn, edge_at, edge_count, lists_at, role_of, structure_at, structure_of}
use Rattle.pair_structure.specs.Parts.{role_at}
use Rattle.conjunctive_compose.proofs.Edges.{IsLawfulEdge, edge_lawful}
use Rattle.conjunctive_compose.specs.Whole.{WholeParts, HasPair, label_on, local_at, value_at}
use Rattle.conjunctive_compose.specs.Firing.{Permits, across, arc_of}
use Rattle.conjunctive_compose.specs.Peel.{IsLeaving}
use Rattle.conjunctive_compose.proofs.Filters.{filter_has, filter_from, is_permitted-known}
use Rattle.conjunctive_compose.proofs.Sides.{side_known}
use Rattle.conjunctive_compose.proofs.Pairs.{arcs_are, local_of-label_on}
use Rattle.waitfor_check.proofs.LeafEdges.{leaf_of}
use Rattle.waitfor_check.specs.Star.{MayTake, arc_numbered}
use Rattle.waitfor_check.proofs.Simulation.{IsLeafEdge}

pub permit_or_not : (sys : SystemParts) (w : WholeParts) (side : Side) (arc e : ℕ) → Permits sys w side arc e ⊎ (Permits sys w side arc e → ⊥)
permit_or_not sys w side arc e = elim (cases_eq (length opens) 0) [ inl none ↦ inr (blocks none) | inr ne ↦ inl (first ne) ]
  where
    commands : List Command
    commands = commands_of (lists_at sys e) side arc

    test : Command → Bool
    test = is_permitted (across sys w side e) (value_at w e)

    opens : List Command
    opens = permitted_of commands (across sys w side e) (value_at w e)

    blocks : length opens ≡ 0 → Permits sys w side arc e → ⊥
    blocks none (i, c, lt, is, (o, x)) =
        let passes : test c ≡ true = rw (eq-eqb c.other (across sys w side e) o, eq-eqb c.x (value_at w e) x) refl in
        let has = filter_has test commands c (i, lt, is) passes in
        omega (arith, has.1, none)

    first : (length opens ≡ 0 → ⊥) → Permits sys w side arc e
    first ne =
        let c = get_or opens 0 no_command in
        let has : Contains opens c = Contains-get_or opens 0 no_command (omega (arith, ne)) in
        let known = is_permitted-known (across sys w side e) (value_at w e) c (All-contains (λ (c : Command). test c ≡ true) opens c (filter_passes test commands) has) in
        let among = filter_from test commands c has in
        (among.0, c, among.1, among.2, known)

pub leaving_or_not : (sys : SystemParts) (w : WholeParts) (k a : ℕ) → IsLeaving sys w k a ⊎ (IsLeaving sys w k a → ⊥)
leaving_or_not sys w k a = elim (cases_lt a (length (role_of sys k).arcs)) [
  | inr out ↦ inr (λ leaving. omega (arith, out, leaving.within))
  | inl in' ↦ elim (cases_eq (arc_of sys k a).from (local_at w k)) [ inl e ↦ inl (record { within = in'; leaves = e }) | inr ne ↦ inr (λ leaving. ne leaving.leaves) ]
]

-- a move of the pair is a permission
pub may_permit : (sys : SystemParts) (w : WholeParts) (e s : ℕ) (side : Side) (arc : ℕ) → IsLawfulEdge sys e → HasPair sys w e s → arc < length (role_of sys (end_of (edge_at sys e) side)).arcs → MayTake (structure_at sys e) side (arc_of sys (end_of (edge_at sys e) side) arc) s → Permits sys w side arc e
may_permit sys w e s side arc lawful pair lt (t, takes) =
    let k = end_of (edge_at sys e) side in
    let a = role_of sys (edge_at sys e).a in
    let b = role_of sys (edge_at sys e).b in
    let m = structure_at sys e in
    let commands = commands_of (lists_at sys e) side arc in
    let same : arcs_of side a b ≡ (role_of sys k).arcs = arcs_are sys e k side refl in
    let in' : arc < length (arcs_of side a b) = rw same lt in
    let listed : IsListed m side (arc_of sys k arc) commands = subst (λ (arcs : List LocalArc). IsListed m side (arc_at arcs arc) commands) same (lawful.skeleton.listed side arc in') in
    let c : Command = record { other = local_of (opposite side) (label_at m.states s); x = ordinal_of m.states s; set = ordinal_of m.states t } in
    let has : Contains commands c = (listed.exact c).1 (s, t, record { move = takes.move; from = takes.from; to = takes.to; other = refl; x = refl; set = refl }) in
    let o : local_of (opposite side) (label_at m.states s) ≡ across sys w side e = ap {B = ℕ} (local_of (opposite side)) pair.label_is ∙ local_of-label_on sys w e (opposite side) in
    let x : ordinal_of m.states s ≡ value_at w e = pair.ordinal_is in
    (has.0, c, has.1, has.2, (o, x))

pub end_role : (sys : SystemParts) (e : ℕ) (side : Side) → IsSystem sys → e < edge_count sys → role_number sys.network.processes (end_of (edge_at sys e) side) ≡ local_of side (ends_of sys.network.ends (edge_at sys e).kind)
end_role sys e side lawful lt = by side (All-get_or (HasRoles sys.network.ends sys.network.processes) sys.network.edges e (record { a = 0; b = 0; kind = 0 }) lt lawful.network.matching)
  where
    by : (side : Side) → HasRoles sys.network.ends sys.network.processes (edge_at sys e) → role_number sys.network.processes (end_of (edge_at sys e) side) ≡ local_of side (ends_of sys.network.ends (edge_at sys e).kind)
    by A roles = roles.0
    by B roles = roles.1

-- the centre's arc
pub centre_permitted : (sys : SystemParts) (w : WholeParts) (k e s r : ℕ) (leaf : ℕ × Side) (arc : ℕ) → IsSystem sys → IsLeafEdge sys k leaf e → HasPair sys w e s → r ≡ role_number sys.network.processes k → arc < length (role_at sys.network.roles r).arcs
    → MayTake (structure_of sys.structures leaf.0) leaf.1 (arc_numbered sys r arc) s → Permits sys w leaf.1 arc e
centre_permitted sys w k e s r leaf arc lawful is pair role lt takes =
    let same : r ≡ role_number sys.network.processes (end_of (edge_at sys e) leaf.1) = role ∙ ap {B = ℕ} (role_number sys.network.processes) (sym is.on) in
    let lt' : arc < length (role_of sys (end_of (edge_at sys e) leaf.1)).arcs = subst (λ (r : ℕ). arc < length (role_at sys.network.roles r).arcs) same lt in
    let here : MayTake (structure_at sys e) leaf.1 (arc_numbered sys r arc) s = subst (λ (kind : ℕ). MayTake (structure_of sys.structures kind) leaf.1 (arc_numbered sys r arc) s) (sym is.kind) takes in
    may_permit sys w e s leaf.1 arc (edge_lawful sys e lawful is.within) pair lt' (subst (λ (r : ℕ). MayTake (structure_at sys e) leaf.1 (arc_numbered sys r arc) s) same here)

-- the leaf's arc
pub leaf_permitted : (sys : SystemParts) (w : WholeParts) (k e s : ℕ) (leaf : ℕ × Side) (arc : ℕ) → IsSystem sys → IsLeafEdge sys k leaf e → HasPair sys w e s → IsLeaving sys w (end_of (edge_at sys e) (opposite leaf.1)) arc
    → (arc < length (role_at sys.network.roles (local_of (opposite leaf.1) (ends_of sys.network.ends leaf.0))).arcs → (arc_numbered sys (local_of (opposite leaf.1) (ends_of sys.network.ends leaf.0)) arc).from ≡ local_of (opposite leaf.1) (label_at (structure_of sys.structures leaf.0).states s) → MayTake (structure_of sys.structures leaf.0) (opposite leaf.1) (arc_numbered sys (local_of (opposite leaf.1) (ends_of sys.network.ends leaf.0)) arc) s)
    → Permits sys w (opposite leaf.1) arc e
leaf_permitted sys w k e s leaf arc lawful is pair leaving takes =
    let side = opposite leaf.1 in
    let j = end_of (edge_at sys e) side in
    let Takes = λ (kind r : ℕ). arc < length (role_at sys.network.roles r).arcs → (arc_numbered sys r arc).from ≡ local_of side (label_at (structure_of sys.structures kind).states s) → MayTake (structure_of sys.structures kind) side (arc_numbered sys r arc) s in
    let of_kind : Takes (edge_at sys e).kind (local_of side (ends_of sys.network.ends (edge_at sys e).kind)) = subst (λ (kind : ℕ). Takes kind (local_of side (ends_of sys.network.ends kind))) (sym is.kind) takes in
    let of_role : Takes (edge_at sys e).kind (role_number sys.network.processes j) = subst (Takes (edge_at sys e).kind) (sym (end_role sys e side lawful is.within)) of_kind in
    may_permit sys w e s side arc (edge_lawful sys e lawful is.within) pair leaving.within (of_role leaving.within (leaving.leaves ∙ sym (ap (local_of side) pair.label_is ∙ local_of-label_on sys w e side)))

pub side_is : (sys : SystemParts) (k e : ℕ) (side : Side) → IsSystem sys → e < edge_count sys → IsOn sys k side e → (leaf_of sys k e).1 ≡ side
side_is sys k e side lawful lt on = ap (λ (o : Option Side). unwrap_or o A) (side_known (edge_at sys e) k side (edge_lawful sys e lawful lt).differ on)

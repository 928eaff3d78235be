-- Whether an edge permits, as the code reads it.
use Rattle.std.proofs.Common.{ℕ, ◌≡◌, ◌<◌, Option, Some, None, [], length, get_or, arith, refl, sym, ap, subst, true, Contains}
use Rattle.std.specs.Prelude.{Bool, IfNone, IfSome, IsTrue, is_some, ◌↔◌}
use Rattle.std.proofs.lemmas.Bool.{eq-eqb}
use Rattle.std.proofs.lemmas.List.Elements.{All-contains, Contains-get_or, filter_passes}
use Rattle.pair_structure.specs.declared.side.Side.{Side}
use Rattle.skeleton_extract.specs.declared.command.Command.{Command}
use Rattle.skeleton_extract.specs.Commands.{commands_of}
use Rattle.skeleton_extract.specs.Permission.{is_permitted, no_command, picked}
use Rattle.interconnection.specs.declared.parts.Beside.{Beside}
use Rattle.interconnection.specs.Graph.{IsBeside}
use Rattle.conjunctive_compose.specs.System.{IsOn, IsSystem, SystemParts, edge_at, lists_at}
use Rattle.conjunctive_compose.specs.Whole.{WholeParts, value_at}
use Rattle.conjunctive_compose.specs.Firing.{Permits, across, permitted}
use Rattle.conjunctive_compose.proofs.Edges.{edge_lawful}
use Rattle.conjunctive_compose.proofs.Filters.{filter_from, filter_has, is_permitted-known}
use Rattle.conjunctive_compose.proofs.Sides.{one_side}

pub open_permits : (sys : SystemParts) (w : WholeParts) (side : Side) (arc e : ℕ) → 0 < length (permitted sys w side arc e) → Permits sys w side arc e
open_permits sys w side arc e some =
    let commands = commands_of (lists_at sys e) side arc in
    let test = is_permitted (across sys w side e) (value_at w e) in
    let opens = permitted sys w side arc e in
    let c = get_or opens 0 no_command in
    let has : Contains opens c = Contains-get_or opens 0 no_command some in
    let known = is_permitted-known (across sys w side e) (value_at w e) c (All-contains (λ (c : Command). test c ≡ true) opens c (filter_passes test commands) has) in
    let among = filter_from test commands c has in
    (among.0, c, among.1, among.2, known)

pub permits_open : (sys : SystemParts) (w : WholeParts) (side : Side) (arc e : ℕ) → Permits sys w side arc e → permitted sys w side arc e ≡ [] → ⊥
permits_open sys w side arc e (i, c, lt, is, (o, x)) none =
    let test = is_permitted (across sys w side e) (value_at w e) in
    let passes : test c ≡ true = rw (eq-eqb c.other (across sys w side e) o, eq-eqb c.x (value_at w e) x) refl in
    let has = filter_has test (commands_of (lists_at sys e) side arc) c (i, lt, is) passes in
    omega (arith, has.1, ap {B = ℕ} length none)

pub permits_told : (sys : SystemParts) (w : WholeParts) (side : Side) (arc e pick : ℕ) (r : Option ℕ) → IfNone r (permitted sys w side arc e ≡ []) → IfSome r (λ v. (0 < length (permitted sys w side arc e)) × (v ≡ (picked (permitted sys w side arc e) pick).set)) → IsTrue (is_some r) ↔ Permits sys w side arc e
permits_told sys w side arc e pick None none some = (λ never. cc, λ permit. absurd (permits_open sys w side arc e permit none))
permits_told sys w side arc e pick (Some v) none some = (λ yes. open_permits sys w side arc e some.0, λ permit. refl)

-- what is told of a neighbour, of the edge and the side of its process
pub told_on_side : (sys : SystemParts) (w : WholeParts) (k arc e : ℕ) (b : Beside) (told : Bool) → IsSystem sys → IsBeside sys.network.edges k b → b.edge ≡ e → IsTrue told ↔ Permits sys w b.side arc b.edge
    → (side : Side) → IsOn sys k side e → IsTrue told ↔ Permits sys w side arc e
told_on_side sys w k arc e b told system is same permits side on =
    let differ = (edge_lawful sys b.edge system is.within).differ in
    let here : IsOn sys k side b.edge = subst (λ (x : ℕ). IsOn sys k side x) (sym same) on in
    let one : b.side ≡ side = one_side (edge_at sys b.edge) k b.side side differ is.own here in
    subst (λ (x : ℕ). IsTrue told ↔ Permits sys w side arc x) same (subst (λ (s : Side). IsTrue told ↔ Permits sys w s arc b.edge) one permits)

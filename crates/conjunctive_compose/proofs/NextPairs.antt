-- What the state of an edge's pair decides.
use Rattle.std.proofs.Common.{ℕ, ◌≡◌, ◌<◌, Some, [], length, List, refl, sym, ◌∙◌, ap, subst, get_or, true, Any, Contains}
use Rattle.std.proofs.lemmas.List.Elements.{All-contains, Contains-get_or, filter_passes}
use Rattle.pair_structure.specs.declared.side.LocalArc.{LocalArc}
use Rattle.pair_structure.specs.Ordinal.{IsStateAt, ordinal_of}
use Rattle.pair_structure.specs.Parts.{arc_at}
use Rattle.pair_structure.specs.Sides.{arcs_of, local_of, opposite, with_local}
use Rattle.pair_structure.specs.Structure.{Structure, label_at}
use Rattle.skeleton_extract.specs.declared.command.Command.{Command}
use Rattle.skeleton_extract.specs.Commands.{IsCommand, IsListed, Lists, commands_of}
use Rattle.skeleton_extract.specs.Permission.{is_permitted, no_command, permitted_of, picked}
use Rattle.skeleton_extract.proofs.Moving.{command_moves}
use Rattle.interconnection.specs.declared.parts.Beside.{Beside}
use Rattle.interconnection.specs.Graph.{IsBeside}
use Rattle.conjunctive_compose.specs.declared.wish.Wish.{Wish}
use Rattle.conjunctive_compose.specs.System.{SystemParts, IsSystem, edge_at, lists_at, role_of, side_on, structure_at}
use Rattle.conjunctive_compose.specs.Whole.{WholeParts, HasPair, value_at}
use Rattle.conjunctive_compose.specs.Firing.{WishFits, across, arc_of, fired, permitted, value_by}
use Rattle.conjunctive_compose.specs.NextPair.{IsLeft, IsNextPair, NeverPermits, permitted_at}
use Rattle.conjunctive_compose.proofs.Edges.{edge_lawful}
use Rattle.conjunctive_compose.proofs.Filters.{filter_from, is_permitted-known, picked_is}
use Rattle.conjunctive_compose.proofs.Pairs.{arcs_are, label_fired, local_of-label_on, pair_there, value_fired}
use Rattle.conjunctive_compose.proofs.Permissions.{open_permits, permits_open}
use Rattle.conjunctive_compose.proofs.Sides.{across_differs, side_known}

some_open : (commands : List Command) (other x : ℕ) → 0 < length (permitted_of commands other x) → Any (λ (c : Command). (c.other ≡ other) × (c.x ≡ x)) commands
some_open commands other x some =
    let opens = permitted_of commands other x in
    let c = get_or opens 0 no_command in
    let has : Contains opens c = Contains-get_or opens 0 no_command some in
    let known = is_permitted-known other x c (All-contains (λ (c : Command). is_permitted other x c ≡ true) opens c (filter_passes (is_permitted other x) commands) has) in
    let among = filter_from (is_permitted other x) commands c has in
    (among.0, c, among.1, among.2, known)

module _ (sys : SystemParts) (wish : Wish) (b : Beside) (s : ℕ) (system : IsSystem sys) (fits : WishFits sys wish) (beside : IsBeside sys.network.edges wish.process b) (left : IsLeft sys wish b s) where
  abbrev pub states : List (ℕ × ℕ)
  states = (structure_at sys b.edge).states

  abbrev pub label : ℕ × ℕ
  label = label_at states s

  abbrev pub other : ℕ
  other = local_of (opposite b.side) label

  abbrev pub open_here : List Command
  open_here = permitted_at sys wish b s

  abbrev pub arc : LocalArc
  arc = arc_of sys wish.process wish.arc

  -- what is permitted depends on the pair state alone
  same_open : (w : WholeParts) → HasPair sys w b.edge s → permitted sys w b.side wish.arc b.edge ≡ open_here
  same_open w pair = λ i. permitted_of (commands_of (lists_at sys b.edge) b.side wish.arc) (sym other_is i) (sym pair.ordinal_is i)
    where
      other_is : other ≡ across sys w b.side b.edge
      other_is = ap (local_of (opposite b.side)) pair.label_is ∙ local_of-label_on sys w b.edge (opposite b.side)

  pub never_permits : open_here ≡ [] → NeverPermits sys wish b s
  never_permits none w pair may = permits_open sys w b.side wish.arc b.edge may (same_open w pair ∙ none)

  -- the picked command is a move from here
  pub next_there : (set : ℕ) → 0 < length open_here → set ≡ (picked open_here wish.pick).set → (t : ℕ) × IsStateAt states (with_local b.side label arc.to) set t
  next_there set some is =
      let lawful = edge_lawful sys b.edge system beside.within in
      let ra = role_of sys (edge_at sys b.edge).a in
      let rb = role_of sys (edge_at sys b.edge).b in
      let commands = commands_of (lists_at sys b.edge) b.side wish.arc in
      let same : arcs_of b.side ra rb ≡ (role_of sys wish.process).arcs = arcs_are sys b.edge wish.process b.side beside.own in
      let known = picked_is commands other (ordinal_of states s) wish.pick (some_open commands other (ordinal_of states s) some) in
      let in' : wish.arc < length (arcs_of b.side ra rb) = rw same fits.arc_in in
      let listed : IsListed (structure_at sys b.edge) b.side arc commands = subst (λ (arcs : List LocalArc). IsListed (structure_at sys b.edge) b.side (arc_at arcs wish.arc) commands) same (lawful.skeleton.listed b.side wish.arc in') in
      let command : IsCommand (structure_at sys b.edge) b.side arc (picked open_here wish.pick) = (listed.exact (picked open_here wish.pick)).0 known.among in
      let here : IsStateAt states label (picked open_here wish.pick).x s = record { within = left.within; label_is = refl; ordinal_is = sym known.x_is } in
      let gone = command_moves ra rb (structure_at sys b.edge) b.side arc (picked open_here wish.pick) label s lawful.over command here left.leaves (sym known.other_is) in
      (gone.0, subst (λ (x : ℕ). IsStateAt states (with_local b.side label arc.to) x gone.0) (sym is) gone.2)

  pub next_pair : (set t : ℕ) → 0 < length open_here → set ≡ (picked open_here wish.pick).set → IsStateAt states (with_local b.side label arc.to) set t → IsNextPair sys wish b s t
  next_pair set t some is there = record {
    within = there.within;
    permits = λ w pair. open_permits sys w b.side wish.arc b.edge (subst (λ (l : List Command). 0 < length l) (sym (same_open w pair)) some);
    goes = λ w proper pair moves.
        let lawful = edge_lawful sys b.edge system beside.within in
        let e = b.edge in
        let process_in : wish.process < length w.locals = rw proper.locals fits.process_in in
        let value_in : e < length w.shared = rw proper.values beside.within in
        let known_side : side_on (edge_at sys e) wish.process ≡ Some b.side = side_known (edge_at sys e) wish.process b.side lawful.differ beside.own in
        let lab = label_fired sys w wish e b.side process_in beside.own (across_differs (edge_at sys e) wish.process b.side lawful.differ beside.own) ∙ ap (λ (l : ℕ × ℕ). with_local b.side l arc.to) (sym pair.label_is) in
        let val : value_at (fired sys w wish) e ≡ set = value_fired sys w wish e value_in ∙ (ap (value_by sys w wish e) known_side ∙ (ap (λ (l : List Command). (picked l wish.pick).set) (same_open w pair) ∙ sym is)) in
        pair_there sys (fired sys w wish) e t set (with_local b.side label arc.to) there lab val;
  }

-- what is read of state s names the commands that it permits
pub permitted_at-read : (sys : SystemParts) (wish : Wish) (b : Beside) (s : ℕ) (m : Structure) (lists : Lists) (other x : ℕ) → m ≡ structure_at sys b.edge → lists ≡ lists_at sys b.edge
    → other ≡ local_of (opposite b.side) (label_at m.states s) → x ≡ ordinal_of m.states s → permitted_of (commands_of lists b.side wish.arc) other x ≡ permitted_at sys wish b s
permitted_at-read sys wish b s m lists other x m_is lists_are other_is x_is = rw (other_is, x_is, lists_are, m_is) refl

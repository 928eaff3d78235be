-- A permitted command as a move, and moves from commands.
use Rattle.std.proofs.Common.{ℕ, ◌≡◌, ◌↔◌, List, refl, ap, sym, ◌∙◌, Contains}
use Rattle.std.proofs.lemmas.List.Elements.{All-contains}
use Rattle.pair_structure.specs.declared.side.LocalArc.{LocalArc}
use Rattle.pair_structure.specs.declared.side.Side.{Side}
use Rattle.pair_structure.specs.Ordinal.{ordinal_of, IsStateAt}
use Rattle.pair_structure.specs.Role.{RoleParts}
use Rattle.pair_structure.specs.Structure.{Structure, HasMove, IsOver, IsLawfulMove, label_at}
use Rattle.skeleton_extract.specs.declared.command.Command.{Command}
use Rattle.skeleton_extract.specs.Commands.{IsCommand, IsListed}
use Rattle.skeleton_extract.specs.Laws.{JoinedBy}
use Rattle.pair_structure.specs.Sides.{opposite, local_of, with_local}
use Rattle.skeleton_extract.proofs.OnePairState.{one_pair_state, same_state}
use Rattle.skeleton_extract.proofs.Sides.{label_from_locals, opposite_local_stays, with_local_from_locals}

move_lawful : (a b : RoleParts) (m : Structure) (side : Side) (s t : ℕ) → IsOver a b m → HasMove m side s t → IsLawfulMove a b m.states (record { from = s; side = side; to = t })
move_lawful a b m side s t over move = All-contains (IsLawfulMove a b m.states) m.moves (record { from = s; side = side; to = t }) over.lawful move

pub command_moves : (a b : RoleParts) (m : Structure) (side : Side) (arc : LocalArc) (c : Command) (label : ℕ × ℕ) (s : ℕ) → IsOver a b m → IsCommand m side arc c
    → IsStateAt m.states label c.x s → local_of side label ≡ arc.from → local_of (opposite side) label ≡ c.other → (t : ℕ) × HasMove m side s t × IsStateAt m.states (with_local side label arc.to) c.set t
command_moves a b m side arc c label s over (s', t, g) here from other =
    let lawful = move_lawful a b m side s' t over g.move in
    let is : label_at m.states s' ≡ label = label_from_locals side (label_at m.states s') label (g.from ∙ sym from) (g.other ∙ sym other) in
    let same : s' ≡ s = one_pair_state m.states label c.x s' s (record { within = lawful.from; label_is = is; ordinal_is = g.x }) here in
    let there : label_at m.states t ≡ with_local side label arc.to = with_local_from_locals side label (label_at m.states t) arc.to g.to (ap (local_of (opposite side)) (sym is) ∙ opposite_local_stays side (label_at m.states s') (label_at m.states t) lawful.stays) in
    (t, rw (← same) g.move, record { within = lawful.to; label_is = there; ordinal_is = g.set })

pub moves_back : (a b : RoleParts) (m : Structure) (side : Side) (arc : LocalArc) (commands : List Command) (s t : ℕ) → IsOver a b m → IsListed m side arc commands → JoinedBy m side arc s t
    → HasMove m side s t ↔ Contains commands (record { other = local_of (opposite side) (label_at m.states s); x = ordinal_of m.states s; set = ordinal_of m.states t })
moves_back a b m side arc commands s t over listed joined = (
  λ move. (listed.exact c).1 (s, t, record { move = move; from = joined.from; to = joined.to; other = refl; x = refl; set = refl }),
  λ has. back ((listed.exact c).0 has),
)
  where
    c : Command
    c = record { other = local_of (opposite side) (label_at m.states s); x = ordinal_of m.states s; set = ordinal_of m.states t }

    back : IsCommand m side arc c → HasMove m side s t
    back (s', t', g) =
        let lawful = move_lawful a b m side s' t' over g.move in
        let from : label_at m.states s' ≡ label_at m.states s = label_from_locals side (label_at m.states s') (label_at m.states s) (g.from ∙ sym joined.from) g.other in
        let stays = opposite_local_stays side (label_at m.states s') (label_at m.states t') lawful.stays in
        let to : label_at m.states t' ≡ label_at m.states t = label_from_locals side (label_at m.states t') (label_at m.states t) (g.to ∙ sym joined.to) (sym stays ∙ g.other ∙ joined.stays) in
        let same : s' ≡ s = same_state m.states s' s lawful.from joined.from_in from g.x in
        let same' : t' ≡ t = same_state m.states t' t lawful.to joined.to_in to g.set in
        rw (← same, ← same') g.move

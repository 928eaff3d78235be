-- What is near a process decides what it is answered.
use Rattle.std.proofs.Common.{ℕ, ◌≡◌, ◌<◌, refl, sym, ◌∙◌, subst}
use Rattle.std.specs.Prelude.{Any}
use Rattle.pair_structure.specs.declared.side.Side.{Side}
use Rattle.skeleton_extract.specs.declared.command.Command.{Command}
use Rattle.skeleton_extract.specs.Commands.{commands_of}
use Rattle.conjunctive_compose.specs.declared.wish.StepAnswer.{StepAnswer}
use Rattle.conjunctive_compose.specs.declared.wish.StepAnswer.TheVariants.{Moved, Away, Blocked}
use Rattle.conjunctive_compose.specs.declared.wish.Wish.{Wish}
use Rattle.conjunctive_compose.specs.System.{SystemParts, IsOn, edge_count, lists_at}
use Rattle.conjunctive_compose.specs.Whole.{WholeParts, value_at}
use Rattle.conjunctive_compose.specs.Firing.{Blocks, IsAnswer, IsFirstBlocker, Moves, Permits, across, fired}
use Rattle.conjunctive_compose.specs.Laws.{AgreeNear}

agree_back : (sys : SystemParts) (k : ℕ) (v w : WholeParts) → AgreeNear sys k v w → AgreeNear sys k w v
agree_back sys k v w near = record { own = sym near.own; others = λ e side lt on. sym (near.others e side lt on); values = λ e side lt on. sym (near.values e side lt on) }

permits_alike : (sys : SystemParts) (v w : WholeParts) (k arc e : ℕ) (side : Side) → AgreeNear sys k v w → e < edge_count sys → IsOn sys k side e → Permits sys v side arc e → Permits sys w side arc e
permits_alike sys v w k arc e side near lt on permits =
    subst (λ (x : ℕ). Any (λ (c : Command). (c.other ≡ across sys w side e) × (c.x ≡ x)) (commands_of (lists_at sys e) side arc)) (near.values e side lt on)
    (subst (λ (p : ℕ). Any (λ (c : Command). (c.other ≡ p) × (c.x ≡ value_at v e)) (commands_of (lists_at sys e) side arc)) (near.others e side lt on) permits)

moves_alike : (sys : SystemParts) (v w : WholeParts) (wish : Wish) → AgreeNear sys wish.process v w → Moves sys v wish → Moves sys w wish
moves_alike sys v w wish near moves = record {
  fits = moves.fits;
  leaves = moves.leaves ∙ near.own;
  permit = λ e side lt on. permits_alike sys v w wish.process wish.arc e side near lt on (moves.permit e side lt on);
}

blocks_alike : (sys : SystemParts) (v w : WholeParts) (wish : Wish) (j : ℕ) → AgreeNear sys wish.process v w → Blocks sys v wish j → Blocks sys w wish j
blocks_alike sys v w wish j near (e, side, lt, on, other, closed) =
    (e, side, lt, on, other, λ permits. closed (permits_alike sys w v wish.process wish.arc e side (agree_back sys wish.process v w near) lt on permits))

first_alike : (sys : SystemParts) (v w : WholeParts) (wish : Wish) (j : ℕ) → AgreeNear sys wish.process v w → IsFirstBlocker sys v wish j → IsFirstBlocker sys w wish j
first_alike sys v w wish j near first = (
  blocks_alike sys v w wish j near first.0,
  λ i below blocks. first.1 i below (blocks_alike sys w v wish i (agree_back sys wish.process v w near) blocks),
)

pub near_decides_answers : (sys : SystemParts) (v w v' : WholeParts) (wish : Wish) (answer : StepAnswer) → AgreeNear sys wish.process v w → IsAnswer sys v wish answer v' → (w' : WholeParts) × IsAnswer sys w wish answer w'
near_decides_answers sys v w v' wish Moved near (moves, is) = (fired sys w wish, (moves_alike sys v w wish near moves, refl))
near_decides_answers sys v w v' wish (Away local) near (here, away, is) = (w, (here ∙ near.own, away, refl))
near_decides_answers sys v w v' wish (Blocked j) near (leaves, first, is) = (w, (leaves ∙ near.own, first_alike sys v w wish j near first, refl))

-- What a replay tells of wishes is one text.
use Rattle.std.proofs.Common.{ℕ, zero, suc, ◌≡◌, ◌<◌, ◌≤◌, ◌∙◌, List, [], ◌∷◌, length, take, refl, sym, ap, subst, arith}
use Rattle.std.proofs.lemmas.Grind.{same_number_lists}
use Rattle.std.proofs.lemmas.List.{take_all}
use Rattle.conjunctive_compose.specs.declared.wish.Wish.{Wish}
use Rattle.conjunctive_compose.specs.declared.wish.StepAnswer.{StepAnswer}
use Rattle.conjunctive_compose.specs.declared.wish.StepAnswer.TheVariants.{Moved, Away, Blocked}
use Rattle.conjunctive_compose.specs.Firing.{IsAnswer, Moves, fired}
use Rattle.conjunctive_compose.specs.Reply.{after_first}
use Rattle.conjunctive_compose.specs.Run.{IsRun, whole_after}
use Rattle.conjunctive_compose.specs.System.{SystemParts, edge_count}
use Rattle.conjunctive_compose.specs.Whole.{WholeParts, start_of}
use Rattle.conjunctive_compose.proofs.Pairs.{one_pair}
use Rattle.firing_journal.specs.Replay.{LeavesWhole, IsFirstStuck, wish_at}
use Rattle.skeleton_tool.specs.Replay.{AreStates, TellsRun, TellsStuck, run_text, stuck_text}
use Rattle.skeleton_tool.proofs.OneRefusal.{same_if_neither}

-- each wish of a run moves
run_moves : (sys : SystemParts) (w : WholeParts) (run : List Wish) (n at : ℕ) → IsRun sys w (take n run) → at < n → at < length run → Moves sys (whole_after sys w (take at run)) (wish_at run at)
run_moves sys w [] n at is below lt = absurd (omega (arith, lt))
run_moves sys w (wish ∷ later) zero at is below lt = absurd (omega (arith, below))
run_moves sys w (wish ∷ later) (suc n) zero is below lt = is.0
run_moves sys w (wish ∷ later) (suc n) (suc at) is below lt = run_moves sys (fired sys w wish) later n at is.1 (omega (arith, below)) (omega (arith, lt))

-- before the first wish that does not move each moves
not_before : (sys : SystemParts) (run : List Wish) (at bt : ℕ) (why y : StepAnswer) → IsFirstStuck sys run at why → IsFirstStuck sys run bt y → at < bt → ⊥
not_before sys run at bt why y a b lt = a.stuck (run_moves sys (start_of sys) run bt at b.before lt a.within)

pub runs_through : (sys : SystemParts) (run : List Wish) (at : ℕ) (why : StepAnswer) (w : WholeParts) (moves : List ℕ) → LeavesWhole sys run w moves → IsFirstStuck sys run at why → ⊥
runs_through sys run at why w moves leaves stuck =
    stuck.stuck (run_moves sys (start_of sys) run (length run) at (rw (take_all (length run) run (omega arith)) leaves.is_run) stuck.within stuck.within)

why_once : (sys : SystemParts) (w : WholeParts) (wish : Wish) (why y : StepAnswer) → (Moves sys w wish → ⊥) → IsAnswer sys w wish why w → IsAnswer sys w wish y w → why ≡ y
why_once sys w wish Moved y stuck a b = absurd (stuck a.0)
why_once sys w wish (Away local) Moved stuck a b = absurd (stuck b.0)
why_once sys w wish (Away local) (Away other) stuck a b = ap Away (a.0 ∙ sym b.0)
why_once sys w wish (Away local) (Blocked j) stuck a b = absurd (a.1 (b.0 ∙ sym a.0))
why_once sys w wish (Blocked i) Moved stuck a b = absurd (stuck b.0)
why_once sys w wish (Blocked i) (Away local) stuck a b = absurd (b.1 (a.0 ∙ sym b.0))
why_once sys w wish (Blocked i) (Blocked j) stuck a b = ap Blocked (same_if_neither i j (λ lt. b.1.1 i lt a.1.0) (λ lt. a.1.1 j lt b.1.0))

stuck_as : (sys : SystemParts) (run : List Wish) (at bt : ℕ) (why y : StepAnswer) → at ≡ bt → IsFirstStuck sys run at why → IsFirstStuck sys run bt y → why ≡ y
stuck_as sys run at bt why y same a b =
    let here : IsFirstStuck sys run at y = subst (λ n. IsFirstStuck sys run n y) (sym same) b in
    why_once sys (after_first sys run at) (wish_at run at) why y a.stuck a.answered here.answered

pub stuck_once : (sys : SystemParts) (run : List Wish) (text written : List ℕ) → TellsStuck sys run text → TellsStuck sys run written → text ≡ written
stuck_once sys run text written a b =
    let at : a.at ≡ b.at = same_if_neither a.at b.at (not_before sys run a.at b.at a.why b.why a.first b.first) (not_before sys run b.at a.at b.why a.why b.first a.first) in
    let why : a.why ≡ b.why = stuck_as sys run a.at b.at a.why b.why at a.first b.first in
    a.text_is ∙ ap (λ n. stuck_text sys n (wish_at run n).process a.why) at ∙ ap (λ y. stuck_text sys b.at (wish_at run b.at).process y) why ∙ sym b.text_is

states_once : (sys : SystemParts) (w : WholeParts) (states others : List ℕ) → AreStates sys w states → AreStates sys w others → states ≡ others
states_once sys w states others a b =
    same_number_lists states others (a.one_each ∙ sym b.one_each)
    (λ e lt.
    let within : e < edge_count sys = (let each = a.one_each in omega (arith, lt)) in
    one_pair sys w e _ _ (a.pairs e within) (b.pairs e within))

pub run_once : (sys : SystemParts) (run : List Wish) (text written : List ℕ) → TellsRun sys run text → TellsRun sys run written → text ≡ written
run_once sys run text written a b =
    let whole : a.whole ≡ b.whole = a.leaves.whole ∙ sym b.leaves.whole in
    let moves : a.moves ≡ b.moves = a.leaves.each ∙ sym b.leaves.each in
    let states : a.states ≡ b.states = states_once sys b.whole a.states b.states (subst (λ w. AreStates sys w a.states) whole a.are_states) b.are_states in
    a.text_is ∙ ap (λ w. run_text sys (length run) w a.moves a.states) whole ∙ ap (λ m. run_text sys (length run) b.whole m a.states) moves ∙ ap (λ s. run_text sys (length run) b.whole b.moves s) states ∙ sym b.text_is

-- What a cell shows fits its part of a word.
use Rattle.std.proofs.Common.{ℕ, zero, suc, ◌<◌, List, [], ◌∷◌, take}
use Rattle.conjunctive_compose.specs.declared.wish.Wish.{Wish}
use Rattle.conjunctive_compose.specs.System.{SystemParts, IsSystem}
use Rattle.conjunctive_compose.specs.Whole.{WholeParts, IsProper, start_of}
use Rattle.conjunctive_compose.specs.Firing.{fired}
use Rattle.conjunctive_compose.specs.Run.{IsRun, whole_after}
use Rattle.conjunctive_compose.proofs.Pairs.{fired_proper}
use Rattle.conjunctive_compose.proofs.Starts.{start_is_proper}
use Rattle.firing_words.specs.declared.limits.TheConstants.{HALF_WORD}
use Rattle.firing_words.specs.declared.cell.Cell.{Cell}
use Rattle.firing_words.specs.Cells.{IsCell}
use Rattle.firing_words.specs.History.{Shows}
use Rattle.firing_words.proofs.Cells.{content_small}

-- at each place of a run the whole state is proper
place_proper : (sys : SystemParts) (w : WholeParts) (run : List Wish) (p : ℕ) → IsSystem sys → IsProper sys w → IsRun sys w run → IsProper sys (whole_after sys w (take p run))
place_proper sys w [] zero system proper is = proper
place_proper sys w [] (suc p) system proper is = proper
place_proper sys w (wish ∷ run) zero system proper is = proper
place_proper sys w (wish ∷ run) (suc p) system proper is = place_proper sys (fired sys w wish) run p system (fired_proper sys w wish system proper is.0) is.1

pub proper_at : (sys : SystemParts) (run : List Wish) (p : ℕ) → IsSystem sys → IsRun sys (start_of sys) run → IsProper sys (whole_after sys (start_of sys) (take p run))
proper_at sys run p system is = place_proper sys (start_of sys) run p system (start_is_proper sys system).proper is

pub shows_small : (sys : SystemParts) (run : List Wish) (i : Cell) (m x : ℕ) → IsSystem sys → IsRun sys (start_of sys) run → IsCell sys i → Shows sys run i m x → x < HALF_WORD
shows_small sys run i m x system is cell s = content_small sys (whole_after sys (start_of sys) (take s.0 run)) i x system (proper_at sys run s.0 system is) cell s.3

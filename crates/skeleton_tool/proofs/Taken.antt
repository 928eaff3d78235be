-- Which files a command may ask for, and the texts of what is written in pieces.
use Rattle.std.proofs.Common.{ℕ, ◌≡◌, List, [], ◌∷◌, ◌++◌, All, Some, arith, sym, ap, ◌∙◌, append_assoc}
use Rattle.pair_structure.specs.Structure.{Structure}
use Rattle.ctl_text.specs.Value.{SpecParts}
use Rattle.solution_text.specs.SolutionText.{solution_text}
use Rattle.solution_text.specs.Text.{IsSolutionText}
use Rattle.skeleton_tool.specs.Answer.{AreLeast, IsSolved}
use Rattle.skeleton_tool.specs.Command.{Command, synth, migrate, asked_files, spec_limit, solution_limit}

-- the text that was written for structures that solve is the answer
pub solved_text : (v : SpecParts) (ms sol : List Structure) (old new : List ℕ) → AreLeast v.roles v.kinds ms → sol ≡ ms → old ≡ [] → new ≡ old ++ solution_text v.roles v.kinds sol → IsSolutionText v.roles v.kinds (solution_text v.roles v.kinds sol) sol → IsSolved v.roles v.kinds new
solved_text v ms sol old new least same empty written text = record {
  structures = ms;
  solves = least.solve;
  shrunk = least.shrunk;
  is_text = rw (written, empty, sym same) text;
}

pub synth_asks : (MayAsk : List ℕ × ℕ → Type 0) (command : Command) (spec : List ℕ) → command ≡ synth spec → All MayAsk (asked_files (Some command)) → MayAsk (spec, spec_limit)
synth_asks MayAsk command spec is allowed = let all = rw is at allowed in all 0 (spec, spec_limit) (omega arith)

pub migrate_asks : (MayAsk : List ℕ × ℕ → Type 0) (command : Command) (spec : List ℕ) → command ≡ migrate spec → All MayAsk (asked_files (Some command)) → MayAsk (spec, spec_limit)
migrate_asks MayAsk command spec is allowed = let all = rw is at allowed in all 0 (spec, spec_limit) (omega arith)

-- a command over a specification and a solution asks for both
pub both_asked : (MayAsk : List ℕ × ℕ → Type 0) (command : Command) (spec sol : List ℕ) → asked_files (Some command) ≡ (spec, spec_limit) ∷ (sol, solution_limit) ∷ [] → All MayAsk (asked_files (Some command)) → MayAsk (spec, spec_limit) × MayAsk (sol, solution_limit)
both_asked MayAsk command spec sol is allowed = let all = rw is at allowed in (all 0 (spec, spec_limit) (omega arith), all 1 (spec, spec_limit) (omega arith))

-- a command over a specification, a solution and a third file asks for all three
pub all_asked : (limit : ℕ) (MayAsk : List ℕ × ℕ → Type 0) (command : Command) (spec sol file : List ℕ) → asked_files (Some command) ≡ (spec, spec_limit) ∷ (sol, solution_limit) ∷ (file, limit) ∷ [] → All MayAsk (asked_files (Some command)) → MayAsk (spec, spec_limit) × MayAsk (sol, solution_limit) × MayAsk (file, limit)
all_asked limit MayAsk command spec sol file is allowed = let all = rw is at allowed in (all 0 (spec, spec_limit) (omega arith), all 1 (spec, spec_limit) (omega arith), all 2 (spec, spec_limit) (omega arith))

-- three pieces, one after another
pub three_pieces : (a x y w z b c d : List ℕ) → b ≡ a ++ x → c ≡ b ++ y → y ≡ w → d ≡ c ++ z → d ≡ a ++ (x ++ w ++ z)
three_pieces a x y w z b c d e f g h = h ∙ ap (λ t. t ++ z) (f ∙ ap (λ t. t ++ y) e ∙ append_assoc a x y ∙ ap (λ t. a ++ (x ++ t)) g) ∙ append_assoc a (x ++ w) z

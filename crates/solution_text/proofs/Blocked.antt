-- When nothing stands against states and moves.
use Rattle.std.proofs.Common.{ℕ, suc, ◌≡◌, List, [], ◌∷◌, All, arith}
use Rattle.pair_structure.specs.declared.side.Move.{Move}
use Rattle.pair_structure.specs.Role.{RoleParts}
use Rattle.pair_structure.specs.Structure.{IsPairStructure}
use Rattle.pair_structure.proofs.StructureFaultLaws.{none_against}
use Rattle.ctl_form.specs.declared.pair_spec.PairSpec.{PairSpec}
use Rattle.text_cause.specs.declared.cause.TextCause.{TextCause}
use Rattle.text_cause.specs.Cause.{IsFree}
use Rattle.text_cause.specs.declared.line_fault.LineFault.{LineFault}
use Rattle.solution_text.specs.State.{behind}
use Rattle.solution_text.specs.Cause.{PairBlocks}
use Rattle.text_cause.specs.Answers.{IsBadBy}

none_blocks : (a b : RoleParts) (states : List (ℕ × ℕ)) (moves : List Move) → IsPairStructure a b states moves → (cause : TextCause) → PairBlocks a b states moves cause → ⊥
none_blocks a b states moves lawful cause (fault, is, first) = none_against a b states moves lawful fault first.stands

pub pair_free : (a b : RoleParts) (states : List (ℕ × ℕ)) (moves : List Move) → IsPairStructure a b states moves → IsFree (PairBlocks a b states moves)
pair_free a b states moves lawful = record { free = none_blocks a b states moves lawful }

pub pair_free_along : (a b : RoleParts) (states others : List (ℕ × ℕ)) (moves steps : List Move) → states ≡ others → moves ≡ steps → IsFree (PairBlocks a b states moves) → IsFree (PairBlocks a b others steps)
pair_free_along a b states others moves steps e f free = rw (e, f) at free

pub pair_bad_along : (a b : RoleParts) (states others : List (ℕ × ℕ)) (moves steps : List Move) (fault : LineFault) → states ≡ others → moves ≡ steps → IsBadBy (PairBlocks a b states moves) fault → IsBadBy (PairBlocks a b others steps) fault
pair_bad_along a b states others moves steps fault e f bad = rw (e, f) at bad

-- what holds of each kind that is left holds of those behind the first
pub behind_all : (P : PairSpec → Type 0) (left : List PairSpec) → All P left → All P (behind left)
behind_all P [] h = h
behind_all P (kind ∷ left) h = λ k d lt. h (suc k) d (omega arith)

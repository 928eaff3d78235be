-- The system of a specification and a solution, and what is answered to a third file that is a text over it.
use Rattle.std.specs.Prelude.{ℕ, ◌≡◌, List}
use Rattle.pair_structure.specs.Structure.{Structure}
use Rattle.conjunctive_compose.specs.System.{SystemParts, IsSystem}
use Rattle.ctl_text.specs.Value.{SpecParts, network_of}
use Rattle.skeleton_tool.specs.declared.status.Status.{Status}
use Rattle.skeleton_tool.specs.Reading.{Grammar, ReadsAndAnswers}
use Rattle.skeleton_tool.specs.Taking.{ShelfSeen}

-- the processes of the specification, run by the commands of these structures
pub record IsSystemOf (v : SpecParts) (structures : List Structure) (sys : SystemParts) : Type 0 where
  pub network : sys.network ≡ network_of v
  pub structures_are : sys.structures ≡ structures
  pub system : IsSystem sys

-- a specification and structures make one system
abbrev pub OneSystem : Type 0
OneSystem = (v : SpecParts) (structures : List Structure) (one other : SystemParts) → IsSystemOf v structures one → IsSystemOf v structures other → one ≡ other

-- what is answered to a value that is told of a system
abbrev pub AnswersValue : Type 0 → Type 1
AnswersValue V = SpecParts → List Structure → SystemParts → V → Status → List ℕ → Type 0

-- the status and its text are an answer to this file as a text over the system of the solution; it is read before the
-- solution is judged
abbrev pub AnswersThird : {V : Type 0} → (SpecParts → SystemParts → Grammar V) → AnswersValue V → ShelfSeen → List ℕ → SpecParts → List Structure → Status → List ℕ → Type 0
AnswersThird grammar answers shelf file v structures status text = (sys : SystemParts) × IsSystemOf v structures sys × ReadsAndAnswers (grammar v sys) (answers v structures sys) shelf file status text

-- Why a line of a solution is refused: each cause with the rule that the line breaks.
use Rattle.std.specs.Prelude.{ℕ, ◌≡◌, ◌≢◌, ◌⊎◌, true, List, [], ◌∷◌}
use Rattle.pair_structure.specs.declared.structure_fault.StructureFault.{StructureFault}
use Rattle.pair_structure.specs.declared.side.Move.{Move}
use Rattle.pair_structure.specs.Role.{RoleParts}
use Rattle.pair_structure.specs.Structure.{IsPairStructure}
use Rattle.pair_structure.specs.StructureFault.{IsFirstStructureFault}
use Rattle.ctl_form.specs.declared.pair_spec.PairSpec.{PairSpec}
use Rattle.text_cause.specs.declared.cause.TextCause.{TextCause}
use Rattle.text_cause.specs.declared.cause.TextCause.TheVariants.{UnknownName, NotAPair}
use Rattle.text_cause.specs.Cause.{IsFree, LineStands}
use Rattle.ctl_text.specs.Cause.{UseStands}
use Rattle.strict_text.specs.Lines.{Line, IsStrict}
use Rattle.strict_text.specs.Words.{words_of}
use Rattle.solution_text.specs.Item.{Said, head_line, kind_line, state_line, end_line, words_for, Says}
use Rattle.solution_text.specs.State.{Group, before_head, in_kind, State, MayStand, after_line}

-- against the name of a kind, where these kinds are left
abbrev pub KindBlocks : List PairSpec → List ℕ → TextCause → Type 0
KindBlocks [] name cause = ⊥
KindBlocks (kind ∷ left) name cause = (cause ≡ UnknownName) × (name ≢ kind.name)

-- against a state that is labelled by local states of two roles
abbrev pub LabelBlocks : RoleParts → RoleParts → List ℕ → List ℕ → TextCause → Type 0
LabelBlocks a b p q cause = UseStands a.locals p cause ⊎ UseStands b.locals q cause

-- against a state of an open kind
abbrev pub StateBlocks : Group → List ℕ → List ℕ → TextCause → Type 0
StateBlocks (in_kind a b states moves) p q cause = LabelBlocks a b p q cause
StateBlocks group p q cause = ⊥

-- against states and moves over two roles: their first fault
abbrev pub PairBlocks : RoleParts → RoleParts → List (ℕ × ℕ) → List Move → TextCause → Type 0
PairBlocks a b states moves cause = (fault : StructureFault) × (cause ≡ NotAPair fault) × IsFirstStructureFault a b states moves fault

-- against the end of an open kind
abbrev pub EndBlocks : Group → TextCause → Type 0
EndBlocks (in_kind a b states moves) cause = PairBlocks a b states moves cause
EndBlocks group cause = ⊥

-- what stands against a line that may stand there
abbrev pub BarsLine : State → Said → TextCause → Type 0
BarsLine s (kind_line name) cause = KindBlocks s.left name cause
BarsLine s (state_line p q) cause = StateBlocks s.group p q cause
BarsLine s end_line cause = EndBlocks s.group cause
BarsLine s item cause = ⊥

-- the line ends, and its words say something that may stand there
pub record MaySay (s : State) (line : Line) (item : Said) : Type 0 where
  pub ended : line.is_ended ≡ true
  pub says : Says (words_of line.bytes) item
  pub may : MayStand s.group s.left item

-- the words of the first line are not those of the head
abbrev pub LacksHead : Group → List ℕ → Type 0
LacksHead group line = (group ≡ before_head) × (words_of line ≢ words_for head_line)

-- what stands against a line, below this state
abbrev pub Stands : State → Line → TextCause → Type 0
Stands s line = LineStands (IsStrict line.bytes → ⊥) (LacksHead s.group line.bytes) (MaySay s line) (BarsLine s)

-- an open group is whole: a kind's states and moves are a structure over its roles
abbrev pub IsWhole : Group → Type 0
IsWhole (in_kind a b states moves) = IsPairStructure a b states moves
IsWhole group = Unit {0}

-- what ends is whole
abbrev pub EndsWhole : Said → Group → Type 0
EndsWhole end_line group = IsWhole group
EndsWhole item group = Unit {0}

-- nothing stands against the line, and it leaves this state
pub record Takes (roles : List RoleParts) (s : State) (line : Line) (t : State) : Type 0 where
  pub free : IsFree (Stands s line)
  pub item : Said
  pub may : MaySay s line item
  pub whole : EndsWhole item s.group
  pub next : t ≡ after_line roles s item

-- What judging and taking a line gives.
use Rattle.std.specs.Prelude.{ℕ, ◌≡◌, ◌∷◌, List, ◌⊎◌, codes}
use Rattle.ctl_form.specs.Form.{Form}
use Rattle.text_cause.specs.declared.cause.TextCause.{TextCause}
use Rattle.text_cause.specs.declared.cause.TextCause.TheVariants.{BadHead, Long, BadLine, UnknownName}
use Rattle.text_cause.specs.declared.line_fault.LineFault.{LineFault}
use Rattle.text_cause.specs.declared.line_fault.LineFault.TheVariants.{Bad, Memory}
use Rattle.formula_text.specs.Long.{IsLong}
use Rattle.formula_text.specs.Sets.{Atoms}
use Rattle.ctl_text.specs.Required.{SpellsOver, AreKnownOver, IsUnspelled}
use Rattle.ctl_text.specs.Item.{Said, require_line, Says}
use Rattle.ctl_text.specs.State.{State, Group, before_head, MayStand, after_line}
use Rattle.ctl_text.specs.Text.{EndStands}
use Rattle.text_cause.specs.Cause.{IsFree}
use Rattle.ctl_text.specs.Cause.{WordsStand, MaySay, Leaves}
use Rattle.ctl_text.specs.inside.LineCause.{LineBlocks}
use Rattle.ctl_text.specs.inside.Sound.{IsSoundState}

-- nothing stands against the words, and they leave this state
pub record IsTakenAs (s : State) (words : List (List ℕ)) (t : State) : Type 0 where
  pub free : IsFree (WordsStand s words)
  pub item : Said
  pub leaves : Leaves s words item t

-- nothing stands against what the line says, and it leaves this state, which is sound
pub record IsSaidTaken (s : State) (item : Said) (t : State) : Type 0 where
  pub next : t ≡ after_line s item
  pub free : IsFree (LineBlocks s item)
  pub sound : IsSoundState t

-- the cause of a line that may not stand there and requires no clause
abbrev pub misplaced : Group → TextCause
misplaced before_head = BadHead
misplaced group = BadLine

-- the words require this clause, and nothing stands against them
pub record IsClauseOf (s : State) (words : List (List ℕ)) (form : Form) : Type 0 where
  pub may : MaySay s (codes "require" ∷ words) (require_line words form)
  pub free : IsFree (WordsStand s (codes "require" ∷ words))

-- what stands against tokens that are to spell a formula over what these atoms may name
abbrev pub SpellingStands : Atoms → Atoms → List (List ℕ) → TextCause → Type 0
SpellingStands a b tokens cause =
    ((cause ≡ Long) × IsLong a.sets b.sets tokens)
    ⊎ (((cause ≡ BadLine) × IsUnspelled a b tokens)
    ⊎ ((form : Form) × SpellsOver a b tokens form × ((cause ≡ UnknownName) × (AreKnownOver a b tokens → ⊥))))

-- the tokens spell this formula over what these atoms may name, and nothing stands against them
pub record IsSpelledOver (a b : Atoms) (tokens : List (List ℕ)) (form : Form) : Type 0 where
  pub spells : SpellsOver a b tokens form
  pub known : AreKnownOver a b tokens
  pub short : IsLong a.sets b.sets tokens → ⊥

-- the words say something, and the group is open where it stands
abbrev pub CanSay : Group → List (List ℕ) → Said → Type 0
CanSay group words item = Says words item × MayStand group item

-- want of memory, or what stands against the end of a text below this group
abbrev pub IsBadEnd : Group → LineFault → Type 0
IsBadEnd group Memory = Unit {0}
IsBadEnd group (Bad cause) = EndStands group cause

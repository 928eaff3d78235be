-- What `migrate` answers to a specification: its canonical text, which is of format 2.
use Rattle.std.specs.Prelude.{ℕ, ◌≡◌, List}
use Rattle.ctl_text.specs.SpecText.{spec_text}
use Rattle.ctl_text.specs.Text.{IsSpecText}
use Rattle.ctl_text.specs.Value.{SpecParts}
use Rattle.skeleton_tool.specs.declared.status.Status.{Status}
use Rattle.skeleton_tool.specs.declared.status.Status.TheVariants.{Done}

-- the canonical text of the specification, which is a text of it
pub record IsMigrated (v : SpecParts) (text : List ℕ) : Type 0 where
  pub text_is : text ≡ spec_text v
  pub is_text : IsSpecText text v

abbrev pub Migrates : SpecParts → Status → List ℕ → Type 0
Migrates v Done text = IsMigrated v text
Migrates v status text = ⊥

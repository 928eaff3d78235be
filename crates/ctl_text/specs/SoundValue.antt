-- What each specification keeps that is read of a text, so that its canonical text is read again.
use Rattle.std.specs.Prelude.{ℕ, ◌≢◌, ◌<◌, ◌≤◌, List, [], length, All, AllPairs}
use Rattle.interconnection.specs.declared.limits.TheConstants.{MAX_NEIGHBOURS}
use Rattle.pair_structure.specs.Parts.{Names, role_at}
use Rattle.pair_structure.specs.Name.{IsName}
use Rattle.pair_structure.specs.Role.{RoleParts, IsRole}
use Rattle.ctl_form.specs.declared.pair_spec.PairSpec.{PairSpec}
use Rattle.ctl_form.specs.Form.{Form}
use Rattle.interconnection.specs.declared.parts.Process.{Process}
use Rattle.interconnection.specs.Graph.{degree_of}
use Rattle.interconnection.specs.Network.{AreLawful}
use Rattle.formula_text.specs.Canonical.{IsOver}
use Rattle.formula_text.specs.FormulaText.{formula_text}
use Rattle.formula_text.specs.Long.{IsLong}
use Rattle.ctl_text.specs.Required.{IsClosureOver}
use Rattle.ctl_text.specs.SpecText.{spec_text}
use Rattle.ctl_text.specs.Text.{IsSpecText}
use Rattle.formula_text.specs.Token.{tokens_of}
use Rattle.ctl_text.specs.Value.{SpecParts, role_names, kind_names, kind_ends, process_names}

-- each name differs from those behind it
abbrev pub Differ : List (List ℕ) → Type 0
Differ names = AllPairs (λ x y. x ≢ y) names

-- a role with names
pub record IsNamedRole (r : RoleParts) : Type 0 where
  pub name : IsName r.name
  pub locals : All IsName r.locals
  pub role : IsRole r

-- a clause over the local states of the two sides, whose canonical text is not too long to be read
pub record IsReadable (a b : Names) (f : Form) : Type 0 where
  pub over : IsOver a b f
  pub short : IsLong [] [] (tokens_of (formula_text a b f)) → ⊥

pub record IsNamedKind (roles : List RoleParts) (k : PairSpec) : Type 0 where
  pub name : IsName k.name
  pub role_a : k.role_a < length roles
  pub role_b : k.role_b < length roles
  pub clauses : All (IsReadable (role_at roles k.role_a).locals (role_at roles k.role_b).locals) k.clauses
  pub closure : IsClosureOver (role_at roles k.role_a) (role_at roles k.role_b) k.clauses → ⊥

pub record IsNamedProcess (count : ℕ) (p : Process) : Type 0 where
  pub name : IsName p.name
  pub role : p.role < count

-- the two roles of a kind are among so many
pub record IsOverRoles (count : ℕ) (k : PairSpec) : Type 0 where
  pub role_a : k.role_a < count
  pub role_b : k.role_b < count

-- all that a specification keeps that is read of a text
pub record IsSoundValue (v : SpecParts) : Type 0 where
  pub roles : All IsNamedRole v.roles
  pub roles_differ : Differ (role_names v.roles)
  pub kinds : All (IsNamedKind v.roles) v.kinds
  pub kinds_differ : Differ (kind_names v.kinds)
  pub processes : All (IsNamedProcess (length v.roles)) v.processes
  pub processes_differ : Differ (process_names v.processes)
  pub network : AreLawful v.roles (kind_ends v.kinds) v.processes v.edges
  pub few_beside : (k : ℕ) → degree_of v.edges k ≤ MAX_NEIGHBOURS

-- each value that some bytes are a text of has a canonical text, and that is a text of the same value
abbrev pub CanonicalIsText : Type 0
CanonicalIsText = (bytes : List ℕ) (v : SpecParts) → IsSpecText bytes v → IsSpecText (spec_text v) v

-- What stands against each kind of line, as the code judges it, cause by cause; `Cause` states it by causes.
use Rattle.std.specs.Prelude.{ℕ, ◌≡◌, ◌≤◌, ◌⊎◌, Option, List, length, Any, Contains}
use Rattle.pair_structure.specs.declared.limits.TheConstants.{MAX_ARCS, MAX_LOCALS}
use Rattle.interconnection.specs.declared.limits.TheConstants.{MAX_KINDS, MAX_ROLES}
use Rattle.pair_structure.specs.declared.side.LocalArc.{LocalArc}
use Rattle.pair_structure.specs.Role.{RoleParts, HasArc}
use Rattle.ctl_form.specs.declared.pair_spec.PairSpec.{PairSpec}
use Rattle.pair_structure.specs.Parts.{role_at}
use Rattle.interconnection.specs.declared.parts.Process.{Process}
use Rattle.interconnection.specs.declared.parts.Edge.{Edge}
use Rattle.text_cause.specs.declared.cause.TextCause.{TextCause}
use Rattle.text_cause.specs.declared.cause.TextCause.TheVariants.{UnknownName, Twice, SelfArc, NoArc, TooMany, ClosureOver, SelfEdge, EdgeTwice, DegreeOver, RoleMismatch, NotAStart}
use Rattle.ctl_text.specs.Cause.{IsUnknown, Repeats, UseStands, IsFirstUnleft, IsFirstCrowded, AreOfKind, IsUnknownStart, IsNoStart}
use Rattle.ctl_text.specs.Required.{tokens_in, AreKnownOver, IsClosureOver}
use Rattle.ctl_text.specs.Item.{Said, role_line, local_line, start_line, set_line, arc_line, kind_line, require_line, end_line, process_line, edge_line}
use Rattle.ctl_text.specs.Value.{Declared, atoms_at, set_names, role_names, kind_names, process_names, number_in, AreJoined, role_named}
use Rattle.formula_text.specs.Sets.{SetParts}
use Rattle.ctl_text.specs.declared.format.TheConstants.{MAX_SETS}
use Rattle.ctl_text.specs.Format.{most_processes, most_neighbours}
use Rattle.ctl_text.specs.State.{Group, in_role, in_kind, State}

-- against a name that is declared below these, of which there may be so many
abbrev pub NameStands : List (List ℕ) → ℕ → List ℕ → TextCause → Type 0
NameStands names most name cause = ((cause ≡ Twice) × Contains names name) ⊎ ((cause ≡ TooMany most) × (most ≤ length names))

-- against a start of an open role with these starts
abbrev pub StartStands : List (List ℕ) → List ℕ → List ℕ → TextCause → Type 0
StartStands names starts name cause = UseStands names name cause ⊎ ((cause ≡ Twice) × Contains starts (number_in names name))

-- a set of this name is declared again, or has a member twice
abbrev pub IsSetAgain : List (List ℕ) → List SetParts → List ℕ → List (List ℕ) → Type 0
IsSetAgain names sets name members = Contains names name ⊎ (Contains (set_names sets) name ⊎ Repeats members)

-- against a set of an open role with these local states and sets
abbrev pub SetStands : List (List ℕ) → List SetParts → List ℕ → List (List ℕ) → TextCause → Type 0
SetStands names sets name members cause =
    ((cause ≡ UnknownName) × Any (IsUnknown names) members)
    ⊎ (((cause ≡ Twice) × IsSetAgain names sets name members)
    ⊎ ((cause ≡ TooMany MAX_SETS) × (MAX_SETS ≤ length sets)))

-- against an arc between local states of an open role with these arcs
abbrev pub ArcStands : List (List ℕ) → List LocalArc → List ℕ → List ℕ → TextCause → Type 0
ArcStands names made p q cause =
    UseStands names p cause
    ⊎ (UseStands names q cause
    ⊎ (((cause ≡ Twice) × HasArc made (number_in names p) (number_in names q))
    ⊎ (((cause ≡ SelfArc) × (p ≡ q))
    ⊎ ((cause ≡ TooMany MAX_ARCS) × (MAX_ARCS ≤ length made)))))

-- against the end of an open role
abbrev pub RoleEndStands : List (List ℕ) → List LocalArc → TextCause → Type 0
RoleEndStands names made cause = (p : ℕ) × (cause ≡ NoArc p) × IsFirstUnleft names made p

-- against a kind over two roles
abbrev pub KindStands : List RoleParts → List PairSpec → List ℕ → List ℕ → List ℕ → TextCause → Type 0
KindStands roles kinds name a b cause = UseStands (role_names roles) a cause ⊎ (UseStands (role_names roles) b cause ⊎ NameStands (kind_names kinds) MAX_KINDS name cause)

-- against a clause of an open kind
abbrev pub ClauseStands : Declared → PairSpec → List (List ℕ) → TextCause → Type 0
ClauseStands v k words cause = (cause ≡ UnknownName) × (AreKnownOver (atoms_at v k.role_a) (atoms_at v k.role_b) (tokens_in words) → ⊥)

-- against the end of an open kind
abbrev pub KindEndStands : List RoleParts → PairSpec → TextCause → Type 0
KindEndStands roles k cause = (cause ≡ ClosureOver) × IsClosureOver (role_at roles k.role_a) (role_at roles k.role_b) k.clauses

-- against a process of this role, of which there may be so many, by its name and the local state where it is to begin
abbrev pub BeginStands : ℕ → RoleParts → List Process → List ℕ → Option (List ℕ) → TextCause → Type 0
BeginStands most r processes name start cause =
    ((cause ≡ UnknownName) × IsUnknownStart r start)
    ⊎ (NameStands (process_names processes) most name cause
    ⊎ ((cause ≡ NotAStart) × IsNoStart r start))

-- against a process
abbrev pub ProcessStands : ℕ → List RoleParts → List Process → List ℕ → List ℕ → Option (List ℕ) → TextCause → Type 0
ProcessStands most roles processes name r start cause = UseStands (role_names roles) r cause ⊎ BeginStands most (role_named roles r) processes name start cause

-- against an edge between two processes that may have so many neighbours, all by their numbers
abbrev pub JoinStands : ℕ → List Process → List PairSpec → List Edge → ℕ → ℕ → ℕ → TextCause → Type 0
JoinStands most processes kinds edges p q kind cause =
    ((cause ≡ SelfEdge) × (p ≡ q))
    ⊎ (((cause ≡ EdgeTwice) × AreJoined edges p q)
    ⊎ (((k : ℕ) × (cause ≡ DegreeOver k) × IsFirstCrowded most edges p q k)
    ⊎ ((cause ≡ RoleMismatch) × (AreOfKind processes kinds p q kind → ⊥))))

-- against an edge between two processes
abbrev pub EdgeStands : ℕ → List Process → List PairSpec → List Edge → List ℕ → List ℕ → List ℕ → TextCause → Type 0
EdgeStands most processes kinds edges p q kind cause =
    UseStands (process_names processes) p cause
    ⊎ (UseStands (process_names processes) q cause
    ⊎ (UseStands (kind_names kinds) kind cause
    ⊎ JoinStands most processes kinds edges (number_in (process_names processes) p) (number_in (process_names processes) q) (number_in (kind_names kinds) kind) cause))

abbrev pub LocalBlocks : Group → List ℕ → TextCause → Type 0
LocalBlocks (in_role r) name cause = NameStands r.locals MAX_LOCALS name cause
LocalBlocks group name cause = ⊥

abbrev pub StartBlocks : Group → List ℕ → TextCause → Type 0
StartBlocks (in_role r) name cause = StartStands r.locals r.starts name cause
StartBlocks group name cause = ⊥

abbrev pub SetBlocks : Group → List ℕ → List (List ℕ) → TextCause → Type 0
SetBlocks (in_role r) name members cause = SetStands r.locals r.sets name members cause
SetBlocks group name members cause = ⊥

abbrev pub ArcBlocks : Group → List ℕ → List ℕ → TextCause → Type 0
ArcBlocks (in_role r) p q cause = ArcStands r.locals r.arcs p q cause
ArcBlocks group p q cause = ⊥

abbrev pub ClauseBlocks : Declared → Group → List (List ℕ) → TextCause → Type 0
ClauseBlocks v (in_kind k) words cause = ClauseStands v k words cause
ClauseBlocks v group words cause = ⊥

abbrev pub EndBlocks : List RoleParts → Group → TextCause → Type 0
EndBlocks roles (in_role r) cause = RoleEndStands r.locals r.arcs cause
EndBlocks roles (in_kind k) cause = KindEndStands roles k cause
EndBlocks roles group cause = ⊥

-- against a line that may stand there
abbrev pub LineBlocks : State → Said → TextCause → Type 0
LineBlocks s (role_line name) cause = NameStands (role_names s.parts.roles) MAX_ROLES name cause
LineBlocks s (local_line name) cause = LocalBlocks s.group name cause
LineBlocks s (start_line name) cause = StartBlocks s.group name cause
LineBlocks s (set_line name members) cause = SetBlocks s.group name members cause
LineBlocks s (arc_line p q free) cause = ArcBlocks s.group p q cause
LineBlocks s (kind_line name a b) cause = KindStands s.parts.roles s.parts.kinds name a b cause
LineBlocks s (require_line words form) cause = ClauseBlocks s.parts s.group words cause
LineBlocks s end_line cause = EndBlocks s.parts.roles s.group cause
LineBlocks s (process_line name r start) cause = ProcessStands (most_processes s.parts.format) s.parts.roles s.parts.processes name r start cause
LineBlocks s (edge_line p q kind) cause = EdgeStands (most_neighbours s.parts.format) s.parts.processes s.parts.kinds s.parts.edges p q kind cause
LineBlocks s item cause = ⊥

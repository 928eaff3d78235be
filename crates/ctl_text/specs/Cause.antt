-- Why a line is refused: of each cause, where it stands, by the kinds of lines.
use Rattle.std.specs.Prelude.{ℕ, ◌≡◌, ◌≢◌, ◌<◌, ◌≤◌, ◌⊎◌, Option, Some, None, List, [], ◌∷◌, codes, length, Any, Contains}
use Rattle.pair_structure.specs.declared.limits.TheConstants.{MAX_ARCS, MAX_LOCALS}
use Rattle.interconnection.specs.declared.limits.TheConstants.{MAX_KINDS, MAX_ROLES}
use Rattle.pair_structure.specs.declared.side.LocalArc.{LocalArc}
use Rattle.pair_structure.specs.Role.{RoleParts, HasArc, HasArcFrom}
use Rattle.ctl_form.specs.declared.pair_spec.PairSpec.{PairSpec}
use Rattle.pair_structure.specs.Parts.{role_at}
use Rattle.interconnection.specs.declared.parts.Process.{Process}
use Rattle.interconnection.specs.declared.parts.Edge.{Edge}
use Rattle.interconnection.specs.Graph.{degree_of}
use Rattle.formula_text.specs.Long.{IsLong}
use Rattle.ctl_text.specs.declared.format.Format.{Format}
use Rattle.ctl_text.specs.declared.format.TheConstants.{MAX_SETS}
use Rattle.ctl_text.specs.Format.{most_processes, most_neighbours}
use Rattle.text_cause.specs.Cause.{IsFree}
use Rattle.text_cause.specs.declared.cause.TextCause.{TextCause}
use Rattle.text_cause.specs.declared.cause.TextCause.TheVariants.{NotText, BadHead, Long, BadLine, UnknownName, Twice, SelfArc, NoArc, TooMany, ClosureOver, SelfEdge, EdgeTwice, DegreeOver, RoleMismatch, NotAStart}
use Rattle.ctl_text.specs.Required.{tokens_in, SpellsOver, AreKnownOver, IsClosureOver}
use Rattle.strict_text.specs.Pieces.{loose_words_of}
use Rattle.ctl_text.specs.Lines.{IsText, ArePassed}
use Rattle.ctl_text.specs.Item.{Said, head_line, role_line, local_line, start_line, set_line, arc_line, kind_line, require_line, end_line, process_line, edge_line, words_for, Says}
use Rattle.ctl_text.specs.Value.{Declared, atoms_at, sets_at, set_names, role_names, kind_names, process_names, number_in, AreJoined, kind_at, process_at, role_named}
use Rattle.ctl_text.specs.State.{Group, before_head, in_role, in_kind, State, MayStand, after_line}

-- UnknownName: a name that is used is not declared above
abbrev pub IsUnknown : List (List ℕ) → List ℕ → Type 0
IsUnknown names name = Contains names name → ⊥

-- against a name that is used below these
abbrev pub UseStands : List (List ℕ) → List ℕ → TextCause → Type 0
UseStands names name cause = (cause ≡ UnknownName) × (Contains names name → ⊥)

-- the local state where a process is to begin is named, and is none of the role's
abbrev pub IsUnknownStart : RoleParts → Option (List ℕ) → Type 0
IsUnknownStart r None = ⊥
IsUnknownStart r (Some name) = IsUnknown r.locals name

abbrev pub UsesUnknown : Said → Declared → Group → Type 0
UsesUnknown (start_line n) v (in_role r) = IsUnknown r.locals n
UsesUnknown (set_line n members) v (in_role r) = Any (IsUnknown r.locals) members
UsesUnknown (arc_line p q free) v (in_role r) = IsUnknown r.locals p ⊎ IsUnknown r.locals q
UsesUnknown (kind_line name a b) v group = IsUnknown (role_names v.roles) a ⊎ IsUnknown (role_names v.roles) b
UsesUnknown (require_line words form) v (in_kind k) = AreKnownOver (atoms_at v k.role_a) (atoms_at v k.role_b) (tokens_in words) → ⊥
UsesUnknown (process_line name r start) v group = IsUnknown (role_names v.roles) r ⊎ IsUnknownStart (role_named v.roles r) start
UsesUnknown (edge_line p q kind) v group = IsUnknown (process_names v.processes) p ⊎ (IsUnknown (process_names v.processes) q ⊎ IsUnknown (kind_names v.kinds) kind)
UsesUnknown item v group = ⊥

-- a name among these stands behind an equal one
abbrev pub Repeats : List (List ℕ) → Type 0
Repeats [] = ⊥
Repeats (name ∷ names) = Contains names name ⊎ Repeats names

-- Twice: a name that its name space has, or a start or an arc that the role has, is declared again, or a set has a member twice
abbrev pub DeclaresAgain : Said → Declared → Group → Type 0
DeclaresAgain (role_line name) v group = Contains (role_names v.roles) name
DeclaresAgain (local_line n) v (in_role r) = Contains r.locals n
DeclaresAgain (start_line n) v (in_role r) = Contains r.locals n × Contains r.starts (number_in r.locals n)
DeclaresAgain (set_line n members) v (in_role r) = Contains r.locals n ⊎ (Contains (set_names r.sets) n ⊎ Repeats members)
DeclaresAgain (arc_line p q free) v (in_role r) = Contains r.locals p × Contains r.locals q × HasArc r.arcs (number_in r.locals p) (number_in r.locals q)
DeclaresAgain (kind_line name a b) v group = Contains (kind_names v.kinds) name
DeclaresAgain (process_line name r start) v group = Contains (process_names v.processes) name
DeclaresAgain item v group = ⊥

-- SelfArc: an arc from a local state to itself
abbrev pub JoinsItself : Said → Group → Type 0
JoinsItself (arc_line p q free) (in_role r) = Contains r.locals p × (p ≡ q)
JoinsItself item group = ⊥

-- no arc leaves the local state, and one leaves each before it
pub record IsFirstUnleft (names : List (List ℕ)) (made : List LocalArc) (p : ℕ) : Type 0 where
  pub within : p < length names
  pub stuck : HasArcFrom made p → ⊥
  pub before : (k : ℕ) → k < p → HasArcFrom made k

-- NoArc: the end of a role in which no arc leaves this local state, the first such
abbrev pub LeavesStuck : Said → Group → ℕ → Type 0
LeavesStuck end_line (in_role r) p = IsFirstUnleft r.locals r.arcs p
LeavesStuck item group p = ⊥

-- TooMany: one more than so many roles, local states, sets, arcs, kinds or processes
abbrev pub GoesOver : Said → Declared → Group → ℕ → Type 0
GoesOver (role_line name) v group limit = (limit ≡ MAX_ROLES) × (MAX_ROLES ≤ length (role_names v.roles))
GoesOver (local_line n) v (in_role r) limit = (limit ≡ MAX_LOCALS) × (MAX_LOCALS ≤ length r.locals)
GoesOver (set_line n members) v (in_role r) limit = (limit ≡ MAX_SETS) × (MAX_SETS ≤ length r.sets)
GoesOver (arc_line p q free) v (in_role r) limit = (limit ≡ MAX_ARCS) × (MAX_ARCS ≤ length r.arcs)
GoesOver (kind_line name a b) v group limit = (limit ≡ MAX_KINDS) × (MAX_KINDS ≤ length (kind_names v.kinds))
GoesOver (process_line name r start) v group limit = (limit ≡ most_processes v.format) × (most_processes v.format ≤ length (process_names v.processes))
GoesOver item v group limit = ⊥

-- ClosureOver: the end of a kind whose closure is too large
abbrev pub HasLargeClosure : Said → Declared → Group → Type 0
HasLargeClosure end_line v (in_kind k) = IsClosureOver (role_at v.roles k.role_a) (role_at v.roles k.role_b) k.clauses
HasLargeClosure item v group = ⊥

-- the names of an edge are declared: those of its two processes and of its kind
abbrev pub AreDeclared : Declared → List ℕ → List ℕ → List ℕ → Type 0
AreDeclared v p q kind = Contains (process_names v.processes) p × Contains (process_names v.processes) q × Contains (kind_names v.kinds) kind

-- SelfEdge: an edge from a process to itself
abbrev pub IsLoop : Said → Declared → Type 0
IsLoop (edge_line p q kind) v = AreDeclared v p q kind × (number_in (process_names v.processes) p ≡ number_in (process_names v.processes) q)
IsLoop item v = ⊥

-- EdgeTwice: an edge between two processes that an edge above joins, in either direction
abbrev pub JoinsAgain : Said → Declared → Type 0
JoinsAgain (edge_line p q kind) v = AreDeclared v p q kind × AreJoined v.edges (number_in (process_names v.processes) p) (number_in (process_names v.processes) q)
JoinsAgain item v = ⊥

-- the process is one of two and has so many edges
pub record IsCrowded (most : ℕ) (edges : List Edge) (p q k : ℕ) : Type 0 where
  pub one_of : (k ≡ p) ⊎ (k ≡ q)
  pub degree : most ≤ degree_of edges k

-- of the two processes that are crowded it has the lower number
pub record IsFirstCrowded (most : ℕ) (edges : List Edge) (p q k : ℕ) : Type 0 where
  pub crowded : IsCrowded most edges p q k
  pub first : (other : ℕ) → IsCrowded most edges p q other → k ≤ other

-- the processes have the roles of the kind's sides
pub record AreOfKind (processes : List Process) (kinds : List PairSpec) (p q kind : ℕ) : Type 0 where
  pub role_a : (process_at processes p).role ≡ (kind_at kinds kind).role_a
  pub role_b : (process_at processes q).role ≡ (kind_at kinds kind).role_b

-- DegreeOver: an edge at this process, which has as many already as the format lets
abbrev pub Crowds : Said → Declared → ℕ → Type 0
Crowds (edge_line p q kind) v k = AreDeclared v p q kind × IsFirstCrowded (most_neighbours v.format) v.edges (number_in (process_names v.processes) p) (number_in (process_names v.processes) q) k
Crowds item v k = ⊥

-- RoleMismatch: an edge of which a process has another role than that of its side of the kind
abbrev pub HasOtherRoles : Said → Declared → Type 0
HasOtherRoles (edge_line p q kind) v = AreDeclared v p q kind × (AreOfKind v.processes v.kinds (number_in (process_names v.processes) p) (number_in (process_names v.processes) q) (number_in (kind_names v.kinds) kind) → ⊥)
HasOtherRoles item v = ⊥

-- the local state where a process is to begin is named, and is one of the role's, but none of its starts
abbrev pub IsNoStart : RoleParts → Option (List ℕ) → Type 0
IsNoStart r None = ⊥
IsNoStart r (Some name) = Contains r.locals name × (Contains r.starts (number_in r.locals name) → ⊥)

-- NotAStart: a process of a role that is to begin elsewhere than in the role's starts
abbrev pub BeginsElsewhere : Said → Declared → Type 0
BeginsElsewhere (process_line name r start) v = Contains (role_names v.roles) r × IsNoStart (role_named v.roles r) start
BeginsElsewhere item v = ⊥

-- what stands against a line that may stand there: these eleven causes, each by its definition
abbrev pub BarsLine : State → Said → TextCause → Type 0
BarsLine s item cause =
    ((cause ≡ UnknownName) × UsesUnknown item s.parts s.group)
    ⊎ (((cause ≡ Twice) × DeclaresAgain item s.parts s.group)
    ⊎ (((cause ≡ SelfArc) × JoinsItself item s.group)
    ⊎ (((p : ℕ) × (cause ≡ NoArc p) × LeavesStuck item s.group p)
    ⊎ (((limit : ℕ) × (cause ≡ TooMany limit) × GoesOver item s.parts s.group limit)
    ⊎ (((cause ≡ ClosureOver) × HasLargeClosure item s.parts s.group)
    ⊎ (((cause ≡ SelfEdge) × IsLoop item s.parts)
    ⊎ (((cause ≡ EdgeTwice) × JoinsAgain item s.parts)
    ⊎ (((k : ℕ) × (cause ≡ DegreeOver k) × Crowds item s.parts k)
    ⊎ (((cause ≡ RoleMismatch) × HasOtherRoles item s.parts)
    ⊎ ((cause ≡ NotAStart) × BeginsElsewhere item s.parts))))))))))

-- a clause is spelled over the local states and the sets of the open kind's roles
abbrev pub IsClauseSpelled : Said → Declared → Group → Type 0
IsClauseSpelled (require_line words form) v (in_kind k) = SpellsOver (atoms_at v k.role_a) (atoms_at v k.role_b) (tokens_in words) form
IsClauseSpelled item v group = Unit {0}

-- the words say something that may stand there
abbrev pub MaySay : State → List (List ℕ) → Said → Type 0
MaySay s words item = Says words item × MayStand s.group item × IsClauseSpelled item s.parts s.group

-- BadHead: the first line that is not passed over, if it is the head of neither format
pub record IsNoHead (s : State) (words : List (List ℕ)) : Type 0 where
  pub first : s.group ≡ before_head
  pub other : (format : Format) → words ≢ words_for (head_line format)

-- the tokens are too many; in a kind their atoms may name the sets of its roles
abbrev pub IsLongIn : Declared → Group → List (List ℕ) → Type 0
IsLongIn v (in_kind k) tokens = IsLong (sets_at v.sets k.role_a) (sets_at v.sets k.role_b) tokens
IsLongIn v group tokens = IsLong [] [] tokens

-- Long: a clause is required that is too long
abbrev pub IsLongLine : State → List (List ℕ) → Type 0
IsLongLine s [] = ⊥
IsLongLine s (word ∷ words) = (word ≡ codes "require") × IsLongIn s.parts s.group (tokens_in words)

-- BadLine: the words say nothing that may stand there
abbrev pub SaysNothing : State → List (List ℕ) → Type 0
SaysNothing s words = (item : Said) → MaySay s words item → ⊥

-- what stands against a line of these words that is not passed over
abbrev pub WordsStand : State → List (List ℕ) → TextCause → Type 0
WordsStand s words cause =
    ((cause ≡ BadHead) × IsNoHead s words)
    ⊎ (((cause ≡ Long) × IsLongLine s words)
    ⊎ (((cause ≡ BadLine) × SaysNothing s words)
    ⊎ ((item : Said) × MaySay s words item × BarsLine s item cause)))

-- what stands against a line, below this state; NotText: it has a byte that is not allowed
abbrev pub Stands : State → List ℕ → TextCause → Type 0
Stands s line cause = ((cause ≡ NotText) × (IsText line → ⊥)) ⊎ ((ArePassed (loose_words_of line) → ⊥) × WordsStand s (loose_words_of line) cause)

-- the words say what leaves this state
pub record Leaves (s : State) (words : List (List ℕ)) (item : Said) (t : State) : Type 0 where
  pub may : MaySay s words item
  pub next : t ≡ after_line s item

-- nothing stands against the line, and it leaves this state
pub record Takes (s : State) (line : List ℕ) (t : State) : Type 0 where
  pub free : IsFree (Stands s line)
  pub leaves : (ArePassed (loose_words_of line) × (t ≡ s)) ⊎ ((ArePassed (loose_words_of line) → ⊥) × ((item : Said) × Leaves s (loose_words_of line) item t))

-- The lowest cause against a line, rule by rule.
use Rattle.std.proofs.Common.{ℕ, ◌≡◌, ◌≤◌, Option, List, length, Any, Contains, refl, ap, arith}
use Rattle.pair_structure.specs.declared.limits.TheConstants.{MAX_ARCS}
use Rattle.interconnection.specs.declared.limits.TheConstants.{MAX_KINDS}
use Rattle.pair_structure.specs.declared.side.LocalArc.{LocalArc}
use Rattle.pair_structure.specs.Role.{RoleParts, HasArc}
use Rattle.ctl_form.specs.declared.pair_spec.PairSpec.{PairSpec}
use Rattle.interconnection.specs.declared.parts.Process.{Process}
use Rattle.interconnection.specs.declared.parts.Edge.{Edge}
use Rattle.formula_text.specs.Sets.{SetParts}
use Rattle.ctl_text.specs.declared.format.TheConstants.{MAX_SETS}
use Rattle.text_cause.specs.declared.cause.TextCause.{TextCause}
use Rattle.text_cause.specs.declared.cause.TextCause.TheVariants.{UnknownName, Twice, SelfArc, TooMany, SelfEdge, EdgeTwice, DegreeOver, RoleMismatch, NotAStart}
use Rattle.ctl_text.specs.Value.{role_names, kind_names, process_names, number_in, AreJoined}
use Rattle.text_cause.specs.Cause.{IsLowest, IsFree, cause_no, Row, Or}
use Rattle.ctl_text.specs.Cause.{IsUnknown, IsFirstCrowded, IsCrowded, AreOfKind, IsNoStart, IsUnknownStart, UseStands}
use Rattle.ctl_text.specs.inside.LineCause.{NameStands, IsSetAgain, SetStands, BeginStands, ArcStands, JoinStands, EdgeStands}
use Rattle.text_cause.proofs.Lowest.{From, from_row, from_or, row_lowest, row_free, or_free, or_left, or_right}

abbrev Declared : List (List ℕ) → List ℕ → TextCause → Type 0
Declared names name = Row Twice (Contains names name)

abbrev Many : List (List ℕ) → ℕ → TextCause → Type 0
Many names most = Row (TooMany most) (most ≤ length names)

pub name_twice : (names : List (List ℕ)) (most : ℕ) (name : List ℕ) → Contains names name → IsLowest (NameStands names most name) Twice
name_twice names most name there = or_left (Declared names name) (Many names most) Twice (row_lowest Twice (Contains names name) there) (from_row 6 (TooMany most) (most ≤ length names) (omega arith))

pub name_many : (names : List (List ℕ)) (most : ℕ) (name : List ℕ) → (Contains names name → ⊥) → most ≤ length names → IsLowest (NameStands names most name) (TooMany most)
name_many names most name fresh over = or_right (Declared names name) (Many names most) (TooMany most) (row_free Twice (Contains names name) fresh) (row_lowest (TooMany most) (most ≤ length names) over)

pub name_free : (names : List (List ℕ)) (most : ℕ) (name : List ℕ) → (Contains names name → ⊥) → (most ≤ length names → ⊥) → IsFree (NameStands names most name)
name_free names most name fresh few = or_free (Declared names name) (Many names most) (row_free Twice (Contains names name) fresh) (row_free (TooMany most) (most ≤ length names) few)

name_from : (names : List (List ℕ)) (most : ℕ) (name : List ℕ) → From 5 (NameStands names most name)
name_from names most name = from_or 5 (Declared names name) (Many names most) (from_row 5 Twice (Contains names name) (omega arith)) (from_row 5 (TooMany most) (most ≤ length names) (omega arith))

pub use_lowest : (names : List (List ℕ)) (name : List ℕ) → (Contains names name → ⊥) → IsLowest (UseStands names name) UnknownName
use_lowest names name unknown = row_lowest UnknownName (Contains names name → ⊥) unknown

pub use_free : (names : List (List ℕ)) (name : List ℕ) → Contains names name → IsFree (UseStands names name)
use_free names name there = row_free UnknownName (Contains names name → ⊥) (λ h. h there)

use_from : (names : List (List ℕ)) (name : List ℕ) → From 5 (UseStands names name)
use_from names name = from_row 5 UnknownName (Contains names name → ⊥) (omega arith)

-- a name that is used, above other rows
pub use_first : (names : List (List ℕ)) (name : List ℕ) (rest : TextCause → Type 0) → (Contains names name → ⊥) → From 5 rest → IsLowest (Or (UseStands names name) rest) UnknownName
use_first names name rest unknown from = or_left (UseStands names name) rest UnknownName (use_lowest names name unknown) from

pub use_then : (names : List (List ℕ)) (name : List ℕ) (rest : TextCause → Type 0) (cause : TextCause) → Contains names name → IsLowest rest cause → IsLowest (Or (UseStands names name) rest) cause
use_then names name rest cause there least = or_right (UseStands names name) rest cause (use_free names name there) least

pub use_none : (names : List (List ℕ)) (name : List ℕ) (rest : TextCause → Type 0) → Contains names name → IsFree rest → IsFree (Or (UseStands names name) rest)
use_none names name rest there free = or_free (UseStands names name) rest (use_free names name there) free

-- a process: its role, then its name
pub process_from : (most : ℕ) (processes : List Process) (name : List ℕ) → From 5 (NameStands (process_names processes) most name)
process_from most processes name = name_from (process_names processes) most name

-- a process of a role: where it is to begin, then its name
abbrev BeginUnknown : RoleParts → Option (List ℕ) → TextCause → Type 0
BeginUnknown r start = Row UnknownName (IsUnknownStart r start)

abbrev BeginElsewhere : RoleParts → Option (List ℕ) → TextCause → Type 0
BeginElsewhere r start = Row NotAStart (IsNoStart r start)

abbrev BeginNamed : ℕ → RoleParts → List Process → List ℕ → Option (List ℕ) → TextCause → Type 0
BeginNamed most r processes name start = Or (NameStands (process_names processes) most name) (BeginElsewhere r start)

pub begin_elsewhere : (most : ℕ) (r : RoleParts) (processes : List Process) (name : List ℕ) (start : Option (List ℕ)) → (IsUnknownStart r start → ⊥) → IsFree (NameStands (process_names processes) most name) → IsNoStart r start → IsLowest (BeginStands most r processes name start) NotAStart
begin_elsewhere most r processes name start known free other = or_right (BeginUnknown r start) (BeginNamed most r processes name start) NotAStart (row_free UnknownName (IsUnknownStart r start) known)
    (or_right (NameStands (process_names processes) most name) (BeginElsewhere r start) NotAStart free (row_lowest NotAStart (IsNoStart r start) other))

pub begin_free : (most : ℕ) (r : RoleParts) (processes : List Process) (name : List ℕ) (start : Option (List ℕ)) → (IsUnknownStart r start → ⊥) → IsFree (NameStands (process_names processes) most name) → (IsNoStart r start → ⊥) → IsFree (BeginStands most r processes name start)
begin_free most r processes name start known free begins = or_free (BeginUnknown r start) (BeginNamed most r processes name start) (row_free UnknownName (IsUnknownStart r start) known)
    (or_free (NameStands (process_names processes) most name) (BeginElsewhere r start) free (row_free NotAStart (IsNoStart r start) begins))

-- a kind: its roles, then its name
pub kind_from : (roles : List RoleParts) (kinds : List PairSpec) (name b : List ℕ) → From 5 (Or (UseStands (role_names roles) b) (NameStands (kind_names kinds) MAX_KINDS name))
kind_from roles kinds name b = from_or 5 (UseStands (role_names roles) b) (NameStands (kind_names kinds) MAX_KINDS name) (use_from (role_names roles) b) (name_from (kind_names kinds) MAX_KINDS name)

pub kind_name_from : (kinds : List PairSpec) (name : List ℕ) → From 5 (NameStands (kind_names kinds) MAX_KINDS name)
kind_name_from kinds name = name_from (kind_names kinds) MAX_KINDS name

-- a set: its members, whether it stands above or repeats one, and how many there are
abbrev SetUnknown : List (List ℕ) → List (List ℕ) → TextCause → Type 0
SetUnknown names members = Row UnknownName (Any (IsUnknown names) members)

abbrev SetAgain : List (List ℕ) → List SetParts → List ℕ → List (List ℕ) → TextCause → Type 0
SetAgain names sets name members = Row Twice (IsSetAgain names sets name members)

abbrev SetMany : List SetParts → TextCause → Type 0
SetMany sets = Row (TooMany MAX_SETS) (MAX_SETS ≤ length sets)

abbrev SetRows : List (List ℕ) → List SetParts → List ℕ → List (List ℕ) → TextCause → Type 0
SetRows names sets name members = Or (SetAgain names sets name members) (SetMany sets)

set_rows_from : (names : List (List ℕ)) (sets : List SetParts) (name : List ℕ) (members : List (List ℕ)) → From 5 (SetRows names sets name members)
set_rows_from names sets name members = from_or 5 (SetAgain names sets name members) (SetMany sets) (from_row 5 Twice (IsSetAgain names sets name members) (omega arith)) (from_row 5 (TooMany MAX_SETS) (MAX_SETS ≤ length sets) (omega arith))

pub set_unknown : (names : List (List ℕ)) (sets : List SetParts) (name : List ℕ) (members : List (List ℕ)) → Any (IsUnknown names) members → IsLowest (SetStands names sets name members) UnknownName
set_unknown names sets name members unknown = or_left (SetUnknown names members) (SetRows names sets name members) UnknownName (row_lowest UnknownName (Any (IsUnknown names) members) unknown) (set_rows_from names sets name members)

pub set_twice : (names : List (List ℕ)) (sets : List SetParts) (name : List ℕ) (members : List (List ℕ)) → (Any (IsUnknown names) members → ⊥) → IsSetAgain names sets name members → IsLowest (SetStands names sets name members) Twice
set_twice names sets name members known again = or_right (SetUnknown names members) (SetRows names sets name members) Twice (row_free UnknownName (Any (IsUnknown names) members) known)
    (or_left (SetAgain names sets name members) (SetMany sets) Twice (row_lowest Twice (IsSetAgain names sets name members) again) (from_row 6 (TooMany MAX_SETS) (MAX_SETS ≤ length sets) (omega arith)))

pub set_many : (names : List (List ℕ)) (sets : List SetParts) (name : List ℕ) (members : List (List ℕ)) → (Any (IsUnknown names) members → ⊥) → (IsSetAgain names sets name members → ⊥) → MAX_SETS ≤ length sets → IsLowest (SetStands names sets name members) (TooMany MAX_SETS)
set_many names sets name members known fresh over = or_right (SetUnknown names members) (SetRows names sets name members) (TooMany MAX_SETS) (row_free UnknownName (Any (IsUnknown names) members) known)
    (or_right (SetAgain names sets name members) (SetMany sets) (TooMany MAX_SETS) (row_free Twice (IsSetAgain names sets name members) fresh) (row_lowest (TooMany MAX_SETS) (MAX_SETS ≤ length sets) over))

pub set_free : (names : List (List ℕ)) (sets : List SetParts) (name : List ℕ) (members : List (List ℕ)) → (Any (IsUnknown names) members → ⊥) → (IsSetAgain names sets name members → ⊥) → (MAX_SETS ≤ length sets → ⊥) → IsFree (SetStands names sets name members)
set_free names sets name members known fresh few = or_free (SetUnknown names members) (SetRows names sets name members) (row_free UnknownName (Any (IsUnknown names) members) known)
    (or_free (SetAgain names sets name members) (SetMany sets) (row_free Twice (IsSetAgain names sets name members) fresh) (row_free (TooMany MAX_SETS) (MAX_SETS ≤ length sets) few))

-- an arc: its ends, whether it stands above, whether it joins itself, and how many there are
abbrev ArcTwice : List (List ℕ) → List LocalArc → List ℕ → List ℕ → TextCause → Type 0
ArcTwice names made p q = Row Twice (HasArc made (number_in names p) (number_in names q))

abbrev ArcSelf : List ℕ → List ℕ → TextCause → Type 0
ArcSelf p q = Row SelfArc (p ≡ q)

abbrev ArcMany : List LocalArc → TextCause → Type 0
ArcMany made = Row (TooMany MAX_ARCS) (MAX_ARCS ≤ length made)

abbrev ArcRows : List (List ℕ) → List LocalArc → List ℕ → List ℕ → TextCause → Type 0
ArcRows names made p q = Or (ArcTwice names made p q) (Or (ArcSelf p q) (ArcMany made))

arc_tail_from : (n : ℕ) (made : List LocalArc) (p q : List ℕ) → n ≤ 7 → From n (Or (ArcSelf p q) (ArcMany made))
arc_tail_from n made p q le = from_or n (ArcSelf p q) (ArcMany made) (from_row n SelfArc (p ≡ q) le) (from_row n (TooMany MAX_ARCS) (MAX_ARCS ≤ length made) (omega arith))

arc_rows_from : (names : List (List ℕ)) (made : List LocalArc) (p q : List ℕ) → From 5 (ArcRows names made p q)
arc_rows_from names made p q = from_or 5 (ArcTwice names made p q) (Or (ArcSelf p q) (ArcMany made)) (from_row 5 Twice (HasArc made (number_in names p) (number_in names q)) (omega arith)) (arc_tail_from 5 made p q (omega arith))

pub arc_from_unknown : (names : List (List ℕ)) (made : List LocalArc) (p q : List ℕ) → (Contains names p → ⊥) → IsLowest (ArcStands names made p q) UnknownName
arc_from_unknown names made p q unknown = use_first names p (Or (UseStands names q) (ArcRows names made p q)) unknown (from_or 5 (UseStands names q) (ArcRows names made p q) (use_from names q) (arc_rows_from names made p q))

pub arc_to_unknown : (names : List (List ℕ)) (made : List LocalArc) (p q : List ℕ) → Contains names p → (Contains names q → ⊥) → IsLowest (ArcStands names made p q) UnknownName
arc_to_unknown names made p q there unknown = use_then names p (Or (UseStands names q) (ArcRows names made p q)) UnknownName there (use_first names q (ArcRows names made p q) unknown (arc_rows_from names made p q))

arc_known : (names : List (List ℕ)) (made : List LocalArc) (p q : List ℕ) (cause : TextCause) → Contains names p → Contains names q → IsLowest (ArcRows names made p q) cause → IsLowest (ArcStands names made p q) cause
arc_known names made p q cause there here least = use_then names p (Or (UseStands names q) (ArcRows names made p q)) cause there (use_then names q (ArcRows names made p q) cause here least)

pub arc_twice : (names : List (List ℕ)) (made : List LocalArc) (p q : List ℕ) → Contains names p → Contains names q → HasArc made (number_in names p) (number_in names q) → IsLowest (ArcStands names made p q) Twice
arc_twice names made p q there here has = arc_known names made p q Twice there here
    (or_left (ArcTwice names made p q) (Or (ArcSelf p q) (ArcMany made)) Twice (row_lowest Twice (HasArc made (number_in names p) (number_in names q)) has) (arc_tail_from 6 made p q (omega arith)))

pub arc_self : (names : List (List ℕ)) (made : List LocalArc) (p q : List ℕ) → Contains names p → Contains names q → (HasArc made (number_in names p) (number_in names q) → ⊥) → p ≡ q → IsLowest (ArcStands names made p q) SelfArc
arc_self names made p q there here fresh same = arc_known names made p q SelfArc there here
    (or_right (ArcTwice names made p q) (Or (ArcSelf p q) (ArcMany made)) SelfArc (row_free Twice (HasArc made (number_in names p) (number_in names q)) fresh)
    (or_left (ArcSelf p q) (ArcMany made) SelfArc (row_lowest SelfArc (p ≡ q) same) (from_row 7 (TooMany MAX_ARCS) (MAX_ARCS ≤ length made) (omega arith))))

pub arc_many : (names : List (List ℕ)) (made : List LocalArc) (p q : List ℕ) → Contains names p → Contains names q → (HasArc made (number_in names p) (number_in names q) → ⊥) → (p ≡ q → ⊥) → MAX_ARCS ≤ length made → IsLowest (ArcStands names made p q) (TooMany MAX_ARCS)
arc_many names made p q there here fresh differ over = arc_known names made p q (TooMany MAX_ARCS) there here
    (or_right (ArcTwice names made p q) (Or (ArcSelf p q) (ArcMany made)) (TooMany MAX_ARCS) (row_free Twice (HasArc made (number_in names p) (number_in names q)) fresh)
    (or_right (ArcSelf p q) (ArcMany made) (TooMany MAX_ARCS) (row_free SelfArc (p ≡ q) differ) (row_lowest (TooMany MAX_ARCS) (MAX_ARCS ≤ length made) over)))

pub arc_free : (names : List (List ℕ)) (made : List LocalArc) (p q : List ℕ) → Contains names p → Contains names q → (HasArc made (number_in names p) (number_in names q) → ⊥) → (p ≡ q → ⊥) → (MAX_ARCS ≤ length made → ⊥) → IsFree (ArcStands names made p q)
arc_free names made p q there here fresh differ few = use_none names p (Or (UseStands names q) (ArcRows names made p q)) there (use_none names q (ArcRows names made p q) here
    (or_free (ArcTwice names made p q) (Or (ArcSelf p q) (ArcMany made)) (row_free Twice (HasArc made (number_in names p) (number_in names q)) fresh)
    (or_free (ArcSelf p q) (ArcMany made) (row_free SelfArc (p ≡ q) differ) (row_free (TooMany MAX_ARCS) (MAX_ARCS ≤ length made) few))))

-- an edge, of which a process may have so many
module _ (most : ℕ) where
  -- by the numbers: itself, twice, crowded, of other roles
  abbrev JoinSelf : ℕ → ℕ → TextCause → Type 0
  JoinSelf p q = Row SelfEdge (p ≡ q)

  abbrev JoinTwice : List Edge → ℕ → ℕ → TextCause → Type 0
  JoinTwice edges p q = Row EdgeTwice (AreJoined edges p q)

  abbrev JoinOver : List Edge → ℕ → ℕ → TextCause → Type 0
  JoinOver edges p q cause = (k : ℕ) × (cause ≡ DegreeOver k) × IsFirstCrowded most edges p q k

  abbrev JoinOther : List Process → List PairSpec → ℕ → ℕ → ℕ → TextCause → Type 0
  JoinOther processes kinds p q kind = Row RoleMismatch (AreOfKind processes kinds p q kind → ⊥)

  abbrev JoinDegree : List Process → List PairSpec → List Edge → ℕ → ℕ → ℕ → TextCause → Type 0
  JoinDegree processes kinds edges p q kind = Or (JoinOver edges p q) (JoinOther processes kinds p q kind)

  abbrev JoinAgain : List Process → List PairSpec → List Edge → ℕ → ℕ → ℕ → TextCause → Type 0
  JoinAgain processes kinds edges p q kind = Or (JoinTwice edges p q) (JoinDegree processes kinds edges p q kind)

  over_from : (n : ℕ) (edges : List Edge) (p q : ℕ) → n ≤ 13 → From n (JoinOver edges p q)
  over_from n edges p q le cause (k, is, crowded) = let e : cause_no cause ≡ cause_no (DegreeOver k) = ap cause_no is in omega arith

  over_lowest : (edges : List Edge) (p q k : ℕ) → IsFirstCrowded most edges p q k → IsLowest (JoinOver edges p q) (DegreeOver k)
  over_lowest edges p q k first = record { stands = (k, refl, first); lowest = λ other lt h. let le = over_from 13 edges p q (omega arith) other h in omega arith }

  over_free : (edges : List Edge) (p q : ℕ) → ((k : ℕ) → IsCrowded most edges p q k → ⊥) → IsFree (JoinOver edges p q)
  over_free edges p q none = record { free = λ cause h. none h.0 h.2.crowded }

  other_from : (n : ℕ) (processes : List Process) (kinds : List PairSpec) (p q kind : ℕ) → n ≤ 14 → From n (JoinOther processes kinds p q kind)
  other_from n processes kinds p q kind le = from_row n RoleMismatch (AreOfKind processes kinds p q kind → ⊥) le

  degree_from : (n : ℕ) (processes : List Process) (kinds : List PairSpec) (edges : List Edge) (p q kind : ℕ) → n ≤ 13 → From n (JoinDegree processes kinds edges p q kind)
  degree_from n processes kinds edges p q kind le = from_or n (JoinOver edges p q) (JoinOther processes kinds p q kind) (over_from n edges p q le) (other_from n processes kinds p q kind (omega arith))

  again_from : (n : ℕ) (processes : List Process) (kinds : List PairSpec) (edges : List Edge) (p q kind : ℕ) → n ≤ 12 → From n (JoinAgain processes kinds edges p q kind)
  again_from n processes kinds edges p q kind le = from_or n (JoinTwice edges p q) (JoinDegree processes kinds edges p q kind) (from_row n EdgeTwice (AreJoined edges p q) le) (degree_from n processes kinds edges p q kind (omega arith))

  pub join_from : (processes : List Process) (kinds : List PairSpec) (edges : List Edge) (p q kind : ℕ) → From 5 (JoinStands most processes kinds edges p q kind)
  join_from processes kinds edges p q kind = from_or 5 (JoinSelf p q) (JoinAgain processes kinds edges p q kind) (from_row 5 SelfEdge (p ≡ q) (omega arith)) (again_from 5 processes kinds edges p q kind (omega arith))

  pub join_self : (processes : List Process) (kinds : List PairSpec) (edges : List Edge) (p q kind : ℕ) → p ≡ q → IsLowest (JoinStands most processes kinds edges p q kind) SelfEdge
  join_self processes kinds edges p q kind same = or_left (JoinSelf p q) (JoinAgain processes kinds edges p q kind) SelfEdge (row_lowest SelfEdge (p ≡ q) same) (again_from 11 processes kinds edges p q kind (omega arith))

  pub join_twice : (processes : List Process) (kinds : List PairSpec) (edges : List Edge) (p q kind : ℕ) → (p ≡ q → ⊥) → AreJoined edges p q → IsLowest (JoinStands most processes kinds edges p q kind) EdgeTwice
  join_twice processes kinds edges p q kind differ joined = or_right (JoinSelf p q) (JoinAgain processes kinds edges p q kind) EdgeTwice (row_free SelfEdge (p ≡ q) differ)
      (or_left (JoinTwice edges p q) (JoinDegree processes kinds edges p q kind) EdgeTwice (row_lowest EdgeTwice (AreJoined edges p q) joined) (degree_from 12 processes kinds edges p q kind (omega arith)))

  pub join_over : (processes : List Process) (kinds : List PairSpec) (edges : List Edge) (p q kind k : ℕ) → (p ≡ q → ⊥) → (AreJoined edges p q → ⊥) → IsFirstCrowded most edges p q k → IsLowest (JoinStands most processes kinds edges p q kind) (DegreeOver k)
  join_over processes kinds edges p q kind k differ fresh first = or_right (JoinSelf p q) (JoinAgain processes kinds edges p q kind) (DegreeOver k) (row_free SelfEdge (p ≡ q) differ)
      (or_right (JoinTwice edges p q) (JoinDegree processes kinds edges p q kind) (DegreeOver k) (row_free EdgeTwice (AreJoined edges p q) fresh)
      (or_left (JoinOver edges p q) (JoinOther processes kinds p q kind) (DegreeOver k) (over_lowest edges p q k first) (other_from 13 processes kinds p q kind (omega arith))))

  pub join_other : (processes : List Process) (kinds : List PairSpec) (edges : List Edge) (p q kind : ℕ) → (p ≡ q → ⊥) → (AreJoined edges p q → ⊥) → ((k : ℕ) → IsCrowded most edges p q k → ⊥) → (AreOfKind processes kinds p q kind → ⊥) → IsLowest (JoinStands most processes kinds edges p q kind) RoleMismatch
  join_other processes kinds edges p q kind differ fresh none mismatch = or_right (JoinSelf p q) (JoinAgain processes kinds edges p q kind) RoleMismatch (row_free SelfEdge (p ≡ q) differ)
      (or_right (JoinTwice edges p q) (JoinDegree processes kinds edges p q kind) RoleMismatch (row_free EdgeTwice (AreJoined edges p q) fresh)
      (or_right (JoinOver edges p q) (JoinOther processes kinds p q kind) RoleMismatch (over_free edges p q none) (row_lowest RoleMismatch (AreOfKind processes kinds p q kind → ⊥) mismatch)))

  pub join_free : (processes : List Process) (kinds : List PairSpec) (edges : List Edge) (p q kind : ℕ) → (p ≡ q → ⊥) → (AreJoined edges p q → ⊥) → ((k : ℕ) → IsCrowded most edges p q k → ⊥) → AreOfKind processes kinds p q kind → IsFree (JoinStands most processes kinds edges p q kind)
  join_free processes kinds edges p q kind differ fresh none of_kind = or_free (JoinSelf p q) (JoinAgain processes kinds edges p q kind) (row_free SelfEdge (p ≡ q) differ)
      (or_free (JoinTwice edges p q) (JoinDegree processes kinds edges p q kind) (row_free EdgeTwice (AreJoined edges p q) fresh)
      (or_free (JoinOver edges p q) (JoinOther processes kinds p q kind) (over_free edges p q none) (row_free RoleMismatch (AreOfKind processes kinds p q kind → ⊥) (λ h. h of_kind))))

  -- an edge: both names, the kind, then the numbers
  abbrev JoinNamed : List Process → List PairSpec → List Edge → List ℕ → List ℕ → List ℕ → TextCause → Type 0
  JoinNamed processes kinds edges p q kind = JoinStands most processes kinds edges (number_in (process_names processes) p) (number_in (process_names processes) q) (number_in (kind_names kinds) kind)

  abbrev EdgeKind : List Process → List PairSpec → List Edge → List ℕ → List ℕ → List ℕ → TextCause → Type 0
  EdgeKind processes kinds edges p q kind = Or (UseStands (kind_names kinds) kind) (JoinNamed processes kinds edges p q kind)

  abbrev EdgeTo : List Process → List PairSpec → List Edge → List ℕ → List ℕ → List ℕ → TextCause → Type 0
  EdgeTo processes kinds edges p q kind = Or (UseStands (process_names processes) q) (EdgeKind processes kinds edges p q kind)

  named_from : (processes : List Process) (kinds : List PairSpec) (edges : List Edge) (p q kind : List ℕ) → From 5 (JoinNamed processes kinds edges p q kind)
  named_from processes kinds edges p q kind = join_from processes kinds edges (number_in (process_names processes) p) (number_in (process_names processes) q) (number_in (kind_names kinds) kind)

  edge_kind_from : (processes : List Process) (kinds : List PairSpec) (edges : List Edge) (p q kind : List ℕ) → From 5 (EdgeKind processes kinds edges p q kind)
  edge_kind_from processes kinds edges p q kind = from_or 5 (UseStands (kind_names kinds) kind) (JoinNamed processes kinds edges p q kind) (use_from (kind_names kinds) kind) (named_from processes kinds edges p q kind)

  edge_to_from : (processes : List Process) (kinds : List PairSpec) (edges : List Edge) (p q kind : List ℕ) → From 5 (EdgeTo processes kinds edges p q kind)
  edge_to_from processes kinds edges p q kind = from_or 5 (UseStands (process_names processes) q) (EdgeKind processes kinds edges p q kind) (use_from (process_names processes) q) (edge_kind_from processes kinds edges p q kind)

  pub edge_from_unknown : (processes : List Process) (kinds : List PairSpec) (edges : List Edge) (p q kind : List ℕ) → (Contains (process_names processes) p → ⊥) → IsLowest (EdgeStands most processes kinds edges p q kind) UnknownName
  edge_from_unknown processes kinds edges p q kind unknown = use_first (process_names processes) p (EdgeTo processes kinds edges p q kind) unknown (edge_to_from processes kinds edges p q kind)

  pub edge_to_unknown : (processes : List Process) (kinds : List PairSpec) (edges : List Edge) (p q kind : List ℕ) → Contains (process_names processes) p → (Contains (process_names processes) q → ⊥) → IsLowest (EdgeStands most processes kinds edges p q kind) UnknownName
  edge_to_unknown processes kinds edges p q kind there unknown = use_then (process_names processes) p (EdgeTo processes kinds edges p q kind) UnknownName there
      (use_first (process_names processes) q (EdgeKind processes kinds edges p q kind) unknown (edge_kind_from processes kinds edges p q kind))

  pub edge_kind_unknown : (processes : List Process) (kinds : List PairSpec) (edges : List Edge) (p q kind : List ℕ) → Contains (process_names processes) p → Contains (process_names processes) q → (Contains (kind_names kinds) kind → ⊥) → IsLowest (EdgeStands most processes kinds edges p q kind) UnknownName
  edge_kind_unknown processes kinds edges p q kind there here unknown = use_then (process_names processes) p (EdgeTo processes kinds edges p q kind) UnknownName there
      (use_then (process_names processes) q (EdgeKind processes kinds edges p q kind) UnknownName here
      (use_first (kind_names kinds) kind (JoinNamed processes kinds edges p q kind) unknown (named_from processes kinds edges p q kind)))

  pub edge_lowest : (processes : List Process) (kinds : List PairSpec) (edges : List Edge) (p q kind : List ℕ) (cause : TextCause) → Contains (process_names processes) p → Contains (process_names processes) q → Contains (kind_names kinds) kind
      → IsLowest (JoinNamed processes kinds edges p q kind) cause → IsLowest (EdgeStands most processes kinds edges p q kind) cause
  edge_lowest processes kinds edges p q kind cause there here known least = use_then (process_names processes) p (EdgeTo processes kinds edges p q kind) cause there
      (use_then (process_names processes) q (EdgeKind processes kinds edges p q kind) cause here
      (use_then (kind_names kinds) kind (JoinNamed processes kinds edges p q kind) cause known least))

  pub edge_free : (processes : List Process) (kinds : List PairSpec) (edges : List Edge) (p q kind : List ℕ) → Contains (process_names processes) p → Contains (process_names processes) q → Contains (kind_names kinds) kind
      → IsFree (JoinNamed processes kinds edges p q kind) → IsFree (EdgeStands most processes kinds edges p q kind)
  edge_free processes kinds edges p q kind there here known free = use_none (process_names processes) p (EdgeTo processes kinds edges p q kind) there
      (use_none (process_names processes) q (EdgeKind processes kinds edges p q kind) here
      (use_none (kind_names kinds) kind (JoinNamed processes kinds edges p q kind) known free))

-- What stands against a line by kinds of lines, as the code judges it, is what stands against it by causes.
use Rattle.std.proofs.Common.{ℕ, ◌≡◌, ◌<◌, inl, inr, Bool, Option, List, Contains, refl, sym, ap, subst, arith}
use Rattle.pair_structure.specs.declared.limits.TheConstants.{MAX_ARCS, MAX_LOCALS}
use Rattle.interconnection.specs.declared.limits.TheConstants.{MAX_KINDS, MAX_ROLES}
use Rattle.ctl_text.specs.declared.format.TheConstants.{MAX_SETS}
use Rattle.ctl_text.specs.Format.{most_processes}
use Rattle.text_cause.specs.declared.cause.TextCause.{TextCause}
use Rattle.text_cause.specs.declared.cause.TextCause.TheVariants.{UnknownName, Twice, SelfArc, NoArc, TooMany, ClosureOver, SelfEdge, EdgeTwice, DegreeOver, RoleMismatch, NotAStart}
use Rattle.ctl_text.specs.Item.{Said, role_line, local_line, start_line, set_line, arc_line, kind_line, require_line, end_line, process_line, edge_line}
use Rattle.ctl_text.specs.Value.{Declared, role_names, kind_names, process_names}
use Rattle.ctl_text.specs.State.{OpenParts, Group, in_role, in_kind, State}
use Rattle.text_cause.specs.Cause.{cause_no, IsLowest, IsFree}
use Rattle.ctl_text.specs.Cause.{UsesUnknown, DeclaresAgain, JoinsItself, LeavesStuck, GoesOver, HasLargeClosure, AreDeclared, IsLoop, JoinsAgain, Crowds, HasOtherRoles, BeginsElsewhere, BarsLine}
use Rattle.ctl_text.specs.inside.LineCause.{LineBlocks}
use Rattle.ctl_text.proofs.Named.{Contains-not_not}

abbrev At : Declared → Group → State
At v g = record { parts = v; group = g }

-- each cause's place among the eleven
unknown_blocks : (s : State) (x : Said) (cause : TextCause) → cause ≡ UnknownName → UsesUnknown x s.parts s.group → BarsLine s x cause
unknown_blocks s x cause is h = inl (is, h)

again_blocks : (s : State) (x : Said) (cause : TextCause) → cause ≡ Twice → DeclaresAgain x s.parts s.group → BarsLine s x cause
again_blocks s x cause is h = inr (inl (is, h))

self_blocks : (s : State) (x : Said) (cause : TextCause) → cause ≡ SelfArc → JoinsItself x s.group → BarsLine s x cause
self_blocks s x cause is h = inr (inr (inl (is, h)))

stuck_blocks : (s : State) (x : Said) (cause : TextCause) (p : ℕ) → cause ≡ NoArc p → LeavesStuck x s.group p → BarsLine s x cause
stuck_blocks s x cause p is h = inr (inr (inr (inl (p, is, h))))

over_blocks : (s : State) (x : Said) (cause : TextCause) (limit : ℕ) → cause ≡ TooMany limit → GoesOver x s.parts s.group limit → BarsLine s x cause
over_blocks s x cause limit is h = inr (inr (inr (inr (inl (limit, is, h)))))

closure_blocks : (s : State) (x : Said) (cause : TextCause) → cause ≡ ClosureOver → HasLargeClosure x s.parts s.group → BarsLine s x cause
closure_blocks s x cause is h = inr (inr (inr (inr (inr (inl (is, h))))))

loop_blocks : (s : State) (x : Said) (cause : TextCause) → cause ≡ SelfEdge → IsLoop x s.parts → BarsLine s x cause
loop_blocks s x cause is h = inr (inr (inr (inr (inr (inr (inl (is, h)))))))

joined_blocks : (s : State) (x : Said) (cause : TextCause) → cause ≡ EdgeTwice → JoinsAgain x s.parts → BarsLine s x cause
joined_blocks s x cause is h = inr (inr (inr (inr (inr (inr (inr (inl (is, h))))))))

crowd_blocks : (s : State) (x : Said) (cause : TextCause) (k : ℕ) → cause ≡ DegreeOver k → Crowds x s.parts k → BarsLine s x cause
crowd_blocks s x cause k is h = inr (inr (inr (inr (inr (inr (inr (inr (inl (k, is, h)))))))))

roles_blocks : (s : State) (x : Said) (cause : TextCause) → cause ≡ RoleMismatch → HasOtherRoles x s.parts → BarsLine s x cause
roles_blocks s x cause is h = inr (inr (inr (inr (inr (inr (inr (inr (inr (inl (is, h))))))))))

begins_blocks : (s : State) (x : Said) (cause : TextCause) → cause ≡ NotAStart → BeginsElsewhere x s.parts → BarsLine s x cause
begins_blocks s x cause is h = inr (inr (inr (inr (inr (inr (inr (inr (inr (inr (is, h))))))))))

-- where a cause stands, it stands against that kind of line
unknown_line : (x : Said) (v : Declared) (g : Group) → UsesUnknown x v g → LineBlocks (At v g) x UnknownName
unknown_line (start_line n) v (in_role r) h = inl (refl, h)
unknown_line (set_line n members) v (in_role r) h = inl (refl, h)
unknown_line (arc_line p q free) v (in_role r) (inl h) = inl (refl, h)
unknown_line (arc_line p q free) v (in_role r) (inr h) = inr (inl (refl, h))
unknown_line (kind_line name a b) v g (inl h) = inl (refl, h)
unknown_line (kind_line name a b) v g (inr h) = inr (inl (refl, h))
unknown_line (require_line words form) v (in_kind k) h = (refl, h)
unknown_line (process_line name r start) v g (inl h) = inl (refl, h)
unknown_line (process_line name r start) v g (inr h) = inr (inl (refl, h))
unknown_line (edge_line p q kind) v g (inl h) = inl (refl, h)
unknown_line (edge_line p q kind) v g (inr (inl h)) = inr (inl (refl, h))
unknown_line (edge_line p q kind) v g (inr (inr h)) = inr (inr (inl (refl, h)))
unknown_line x v g h = absurd h

again_line : (x : Said) (v : Declared) (g : Group) → DeclaresAgain x v g → LineBlocks (At v g) x Twice
again_line (role_line name) v g h = inl (refl, h)
again_line (local_line n) v (in_role r) h = inl (refl, h)
again_line (start_line n) v (in_role r) h = inr (refl, h.1)
again_line (set_line n members) v (in_role r) h = inr (inl (refl, h))
again_line (arc_line p q free) v (in_role r) h = inr (inr (inl (refl, h.2)))
again_line (kind_line name a b) v g h = inr (inr (inl (refl, h)))
again_line (process_line name r start) v g h = inr (inr (inl (inl (refl, h))))
again_line x v g h = absurd h

self_line : (x : Said) (v : Declared) (g : Group) → JoinsItself x g → LineBlocks (At v g) x SelfArc
self_line (arc_line p q free) v (in_role r) h = inr (inr (inr (inl (refl, h.1))))
self_line x v g h = absurd h

stuck_line : (x : Said) (v : Declared) (g : Group) (p : ℕ) → LeavesStuck x g p → LineBlocks (At v g) x (NoArc p)
stuck_line end_line v (in_role r) p h = (p, refl, h)
stuck_line x v g p h = absurd h

over_line : (x : Said) (v : Declared) (g : Group) (limit : ℕ) → GoesOver x v g limit → LineBlocks (At v g) x (TooMany limit)
over_line (role_line name) v g limit h = inr (ap (λ n. TooMany n) h.0, h.1)
over_line (local_line n) v (in_role r) limit h = inr (ap (λ n. TooMany n) h.0, h.1)
over_line (set_line n members) v (in_role r) limit h = inr (inr (ap (λ n. TooMany n) h.0, h.1))
over_line (arc_line p q free) v (in_role r) limit h = inr (inr (inr (inr (ap (λ n. TooMany n) h.0, h.1))))
over_line (kind_line name a b) v g limit h = inr (inr (inr (ap (λ n. TooMany n) h.0, h.1)))
over_line (process_line name r start) v g limit h = inr (inr (inl (inr (ap (λ n. TooMany n) h.0, h.1))))
over_line x v g limit h = absurd h

closure_line : (x : Said) (v : Declared) (g : Group) → HasLargeClosure x v g → LineBlocks (At v g) x ClosureOver
closure_line end_line v (in_kind k) h = (refl, h)
closure_line x v g h = absurd h

loop_line : (x : Said) (v : Declared) (g : Group) → IsLoop x v → LineBlocks (At v g) x SelfEdge
loop_line (edge_line p q kind) v g h = inr (inr (inr (inl (refl, h.1))))
loop_line x v g h = absurd h

joined_line : (x : Said) (v : Declared) (g : Group) → JoinsAgain x v → LineBlocks (At v g) x EdgeTwice
joined_line (edge_line p q kind) v g h = inr (inr (inr (inr (inl (refl, h.1)))))
joined_line x v g h = absurd h

crowd_line : (x : Said) (v : Declared) (g : Group) (k : ℕ) → Crowds x v k → LineBlocks (At v g) x (DegreeOver k)
crowd_line (edge_line p q kind) v g k h = inr (inr (inr (inr (inr (inl (k, refl, h.1))))))
crowd_line x v g k h = absurd h

roles_line : (x : Said) (v : Declared) (g : Group) → HasOtherRoles x v → LineBlocks (At v g) x RoleMismatch
roles_line (edge_line p q kind) v g h = inr (inr (inr (inr (inr (inr (refl, h.1))))))
roles_line x v g h = absurd h

begins_line : (x : Said) (v : Declared) (g : Group) → BeginsElsewhere x v → LineBlocks (At v g) x NotAStart
begins_line (process_line name r start) v g h = inr (inr (inr (refl, h.1)))
begins_line x v g h = absurd h

along : (s : State) (x : Said) (cause c : TextCause) → cause ≡ c → LineBlocks s x c → LineBlocks s x cause
along s x cause c is h = subst (λ y. LineBlocks s x y) (sym is) h

pub line_of_cause : (s : State) (x : Said) (cause : TextCause) → BarsLine s x cause → LineBlocks s x cause
line_of_cause s x cause (inl (is, h)) = along s x cause UnknownName is (unknown_line x s.parts s.group h)
line_of_cause s x cause (inr (inl (is, h))) = along s x cause Twice is (again_line x s.parts s.group h)
line_of_cause s x cause (inr (inr (inl (is, h)))) = along s x cause SelfArc is (self_line x s.parts s.group h)
line_of_cause s x cause (inr (inr (inr (inl (p, is, h))))) = along s x cause (NoArc p) is (stuck_line x s.parts s.group p h)
line_of_cause s x cause (inr (inr (inr (inr (inl (limit, is, h)))))) = along s x cause (TooMany limit) is (over_line x s.parts s.group limit h)
line_of_cause s x cause (inr (inr (inr (inr (inr (inl (is, h))))))) = along s x cause ClosureOver is (closure_line x s.parts s.group h)
line_of_cause s x cause (inr (inr (inr (inr (inr (inr (inl (is, h)))))))) = along s x cause SelfEdge is (loop_line x s.parts s.group h)
line_of_cause s x cause (inr (inr (inr (inr (inr (inr (inr (inl (is, h))))))))) = along s x cause EdgeTwice is (joined_line x s.parts s.group h)
line_of_cause s x cause (inr (inr (inr (inr (inr (inr (inr (inr (inl (k, is, h)))))))))) = along s x cause (DegreeOver k) is (crowd_line x s.parts s.group k h)
line_of_cause s x cause (inr (inr (inr (inr (inr (inr (inr (inr (inr (inl (is, h))))))))))) = along s x cause RoleMismatch is (roles_line x s.parts s.group h)
line_of_cause s x cause (inr (inr (inr (inr (inr (inr (inr (inr (inr (inr (is, h))))))))))) = along s x cause NotAStart is (begins_line x s.parts s.group h)

-- behind UnknownName each name that is used is declared
abbrev KnownBehind : Said → Declared → Group → TextCause → Type 0
KnownBehind x v g cause = 5 < cause_no cause → UsesUnknown x v g → ⊥

behind : (cause c : TextCause) → cause ≡ c → 5 < cause_no c → 5 < cause_no cause
behind cause c is lt = subst (λ y. 5 < cause_no y) (sym is) lt

start_there : (v : Declared) (r : OpenParts) (n : List ℕ) (cause : TextCause) → KnownBehind (start_line n) v (in_role r) cause → 5 < cause_no cause → Contains r.locals n
start_there v r n cause known lt = Contains-not_not r.locals n (known lt)

from_there : (v : Declared) (r : OpenParts) (p q : List ℕ) (f : Bool) (cause : TextCause) → KnownBehind (arc_line p q f) v (in_role r) cause → 5 < cause_no cause → Contains r.locals p
from_there v r p q f cause known lt = Contains-not_not r.locals p (λ unknown. known lt (inl unknown))

to_there : (v : Declared) (r : OpenParts) (p q : List ℕ) (f : Bool) (cause : TextCause) → KnownBehind (arc_line p q f) v (in_role r) cause → 5 < cause_no cause → Contains r.locals q
to_there v r p q f cause known lt = Contains-not_not r.locals q (λ unknown. known lt (inr unknown))

role_there : (v : Declared) (g : Group) (name r : List ℕ) (start : Option (List ℕ)) (cause : TextCause) → KnownBehind (process_line name r start) v g cause → 5 < cause_no cause → Contains (role_names v.roles) r
role_there v g name r start cause known lt = Contains-not_not (role_names v.roles) r (λ unknown. known lt (inl unknown))

declared : (v : Declared) (g : Group) (p q kind : List ℕ) (cause : TextCause) → KnownBehind (edge_line p q kind) v g cause → 5 < cause_no cause → AreDeclared v p q kind
declared v g p q kind cause known lt = (
  Contains-not_not (process_names v.processes) p (λ unknown. known lt (inl unknown)),
  Contains-not_not (process_names v.processes) q (λ unknown. known lt (inr (inl unknown))),
  Contains-not_not (kind_names v.kinds) kind (λ unknown. known lt (inr (inr unknown))),
)

cause_of_line : (x : Said) (v : Declared) (g : Group) (cause : TextCause) → KnownBehind x v g cause → LineBlocks (At v g) x cause → BarsLine (At v g) x cause
cause_of_line (role_line name) v g cause known (inl h) = again_blocks (At v g) (role_line name) cause h.0 h.1
cause_of_line (role_line name) v g cause known (inr h) = over_blocks (At v g) (role_line name) cause MAX_ROLES h.0 (refl, h.1)
cause_of_line (local_line n) v (in_role r) cause known (inl h) = again_blocks (At v (in_role r)) (local_line n) cause h.0 h.1
cause_of_line (local_line n) v (in_role r) cause known (inr h) = over_blocks (At v (in_role r)) (local_line n) cause MAX_LOCALS h.0 (refl, h.1)
cause_of_line (start_line n) v (in_role r) cause known (inl h) = unknown_blocks (At v (in_role r)) (start_line n) cause h.0 h.1
cause_of_line (start_line n) v (in_role r) cause known (inr h) =
    again_blocks (At v (in_role r)) (start_line n) cause h.0 (start_there v r n cause known (behind cause Twice h.0 (omega arith)), h.1)
cause_of_line (set_line n members) v (in_role r) cause known (inl h) = unknown_blocks (At v (in_role r)) (set_line n members) cause h.0 h.1
cause_of_line (set_line n members) v (in_role r) cause known (inr (inl h)) = again_blocks (At v (in_role r)) (set_line n members) cause h.0 h.1
cause_of_line (set_line n members) v (in_role r) cause known (inr (inr h)) = over_blocks (At v (in_role r)) (set_line n members) cause MAX_SETS h.0 (refl, h.1)
cause_of_line (arc_line p q f) v (in_role r) cause known (inl h) = unknown_blocks (At v (in_role r)) (arc_line p q f) cause h.0 (inl h.1)
cause_of_line (arc_line p q f) v (in_role r) cause known (inr (inl h)) = unknown_blocks (At v (in_role r)) (arc_line p q f) cause h.0 (inr h.1)
cause_of_line (arc_line p q f) v (in_role r) cause known (inr (inr (inl h))) =
    let lt = behind cause Twice h.0 (omega arith) in again_blocks (At v (in_role r)) (arc_line p q f) cause h.0 (from_there v r p q f cause known lt, to_there v r p q f cause known lt, h.1)
cause_of_line (arc_line p q f) v (in_role r) cause known (inr (inr (inr (inl h)))) =
    let lt = behind cause SelfArc h.0 (omega arith) in self_blocks (At v (in_role r)) (arc_line p q f) cause h.0 (from_there v r p q f cause known lt, h.1)
cause_of_line (arc_line p q f) v (in_role r) cause known (inr (inr (inr (inr h)))) = over_blocks (At v (in_role r)) (arc_line p q f) cause MAX_ARCS h.0 (refl, h.1)
cause_of_line (kind_line name a b) v g cause known (inl h) = unknown_blocks (At v g) (kind_line name a b) cause h.0 (inl h.1)
cause_of_line (kind_line name a b) v g cause known (inr (inl h)) = unknown_blocks (At v g) (kind_line name a b) cause h.0 (inr h.1)
cause_of_line (kind_line name a b) v g cause known (inr (inr (inl h))) = again_blocks (At v g) (kind_line name a b) cause h.0 h.1
cause_of_line (kind_line name a b) v g cause known (inr (inr (inr h))) = over_blocks (At v g) (kind_line name a b) cause MAX_KINDS h.0 (refl, h.1)
cause_of_line (require_line words form) v (in_kind k) cause known h = unknown_blocks (At v (in_kind k)) (require_line words form) cause h.0 h.1
cause_of_line end_line v (in_role r) cause known h = stuck_blocks (At v (in_role r)) end_line cause h.0 h.1 h.2
cause_of_line end_line v (in_kind k) cause known h = closure_blocks (At v (in_kind k)) end_line cause h.0 h.1
cause_of_line (process_line name r start) v g cause known (inl h) = unknown_blocks (At v g) (process_line name r start) cause h.0 (inl h.1)
cause_of_line (process_line name r start) v g cause known (inr (inl h)) = unknown_blocks (At v g) (process_line name r start) cause h.0 (inr h.1)
cause_of_line (process_line name r start) v g cause known (inr (inr (inl (inl h)))) = again_blocks (At v g) (process_line name r start) cause h.0 h.1
cause_of_line (process_line name r start) v g cause known (inr (inr (inl (inr h)))) = over_blocks (At v g) (process_line name r start) cause (most_processes v.format) h.0 (refl, h.1)
cause_of_line (process_line name r start) v g cause known (inr (inr (inr h))) =
    begins_blocks (At v g) (process_line name r start) cause h.0 (role_there v g name r start cause known (behind cause NotAStart h.0 (omega arith)), h.1)
cause_of_line (edge_line p q kind) v g cause known (inl h) = unknown_blocks (At v g) (edge_line p q kind) cause h.0 (inl h.1)
cause_of_line (edge_line p q kind) v g cause known (inr (inl h)) = unknown_blocks (At v g) (edge_line p q kind) cause h.0 (inr (inl h.1))
cause_of_line (edge_line p q kind) v g cause known (inr (inr (inl h))) = unknown_blocks (At v g) (edge_line p q kind) cause h.0 (inr (inr h.1))
cause_of_line (edge_line p q kind) v g cause known (inr (inr (inr (inl h)))) =
    loop_blocks (At v g) (edge_line p q kind) cause h.0 (declared v g p q kind cause known (behind cause SelfEdge h.0 (omega arith)), h.1)
cause_of_line (edge_line p q kind) v g cause known (inr (inr (inr (inr (inl h))))) =
    joined_blocks (At v g) (edge_line p q kind) cause h.0 (declared v g p q kind cause known (behind cause EdgeTwice h.0 (omega arith)), h.1)
cause_of_line (edge_line p q kind) v g cause known (inr (inr (inr (inr (inr (inl h)))))) =
    crowd_blocks (At v g) (edge_line p q kind) cause h.0 h.1 (declared v g p q kind cause known (behind cause (DegreeOver h.0) h.1 (omega arith)), h.2)
cause_of_line (edge_line p q kind) v g cause known (inr (inr (inr (inr (inr (inr h)))))) =
    roles_blocks (At v g) (edge_line p q kind) cause h.0 (declared v g p q kind cause known (behind cause RoleMismatch h.0 (omega arith)), h.1)
cause_of_line x v g cause known h = absurd h

-- the lowest by kinds of lines is the lowest by causes
pub lowest_by_cause : (s : State) (x : Said) (cause : TextCause) → IsLowest (LineBlocks s x) cause → IsLowest (BarsLine s x) cause
lowest_by_cause s x cause least = record {
  stands = cause_of_line x s.parts s.group cause (λ lt unknown. least.lowest UnknownName lt (unknown_line x s.parts s.group unknown)) least.stands;
  lowest = λ other lt h. least.lowest other lt (line_of_cause s x other h);
}

-- what is free by one is free by the other
pub free_by_cause : (s : State) (x : Said) → IsFree (LineBlocks s x) → IsFree (BarsLine s x)
free_by_cause s x free = record { free = λ cause h. free.free cause (line_of_cause s x cause h) }

pub free_by_line : (s : State) (x : Said) → IsFree (BarsLine s x) → IsFree (LineBlocks s x)
free_by_line s x free = record { free = λ cause h. free.free cause (cause_of_line x s.parts s.group cause (λ lt unknown. free.free UnknownName (unknown_blocks s x UnknownName refl unknown)) h) }

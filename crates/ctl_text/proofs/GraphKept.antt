-- What makes a network is kept where a role, a kind, a process or an edge is declared.
use Rattle.std.proofs.Common.{ℕ, ◌≡◌, ◌<◌, ◌≤◌, ◌+◌, ◌⊎◌, inl, inr, Bool, true, false, ◌==◌, List, [], ◌∷◌, ◌++◌, length, get_or, Contains, cond, refl, sym, ap, ◌∙◌, subst, arith, length-append}
use Rattle.std.proofs.lemmas.Bool.{cases_lt, cases_eq, eqb-true}
use Rattle.std.proofs.lemmas.List.{get_or_append_left, get_or_default, get_or-map, length-map, map-append}
use Rattle.std.proofs.lemmas.List.Elements.{All-push}
use Rattle.std.proofs.lemmas.List.Quantifiers.{all_pairs_push}
use Rattle.interconnection.specs.declared.limits.TheConstants.{MAX_KINDS, MAX_NEIGHBOURS, MAX_PROCESSES, MAX_ROLES}
use Rattle.pair_structure.specs.Role.{RoleParts}
use Rattle.ctl_form.specs.declared.pair_spec.PairSpec.{PairSpec}
use Rattle.interconnection.specs.declared.parts.Edge.{Edge}
use Rattle.interconnection.specs.declared.parts.Process.{Process}
use Rattle.interconnection.specs.Graph.{JoinSame, degree_of}
use Rattle.interconnection.specs.Network.{AreLawful, AreRoles, BeginsInStart, HasRole, HasRoles, IsInRange, JoinsTwo, ends_of, process_at, role_of}
use Rattle.ctl_text.specs.Value.{AreJoined, kind_ends, kind_at}
use Rattle.ctl_text.specs.Cause.{IsCrowded}
use Rattle.interconnection.specs.inside.EdgeTable.{other_end, other_ends}
use Rattle.interconnection.proofs.EdgeTables.{other_ends-append, other_ends-length}
use Rattle.ctl_text.proofs.NormalsKept.{same_role}

wider : (roles : List RoleParts) (r : RoleParts) (n : ℕ) → n < length roles → n < length (roles ++ r ∷ [])
wider roles r n lt = omega (arith, lt, length-append roles (r ∷ []))

pub role_grown : (roles : List RoleParts) (r : RoleParts) (ends : List (ℕ × ℕ)) (processes : List Process) (edges : List Edge)
    → AreLawful roles ends processes edges → length roles + 1 ≤ MAX_ROLES → AreLawful (roles ++ r ∷ []) ends processes edges
role_grown roles r ends processes edges h room = record {
  few_roles = omega (arith, room, length-append roles (r ∷ []));
  few_kinds = h.few_kinds;
  few_processes = h.few_processes;
  kinds = λ k d lt. (wider roles r (get_or ends k d).0 (h.kinds k d lt).0, wider roles r (get_or ends k d).1 (h.kinds k d lt).1);
  own_roles = λ k d lt. wider roles r (get_or processes k d).role (h.own_roles k d lt);
  own_starts = λ k d lt. subst (λ (x : RoleParts). Contains x.starts (get_or processes k d).start) (same_role roles r (get_or processes k d).role (h.own_roles k d lt)) (h.own_starts k d lt);
  in_range = h.in_range;
  joins_two = h.joins_two;
  single = h.single;
  matching = h.matching;
  degrees = h.degrees;
}

same_ends : (ends : List (ℕ × ℕ)) (pair : ℕ × ℕ) (k : ℕ) → k < length ends → ends_of (ends ++ pair ∷ []) k ≡ ends_of ends k
same_ends ends pair k lt = get_or_append_left ends (pair ∷ []) (0, 0) k lt

pub kind_grown : (roles : List RoleParts) (ends : List (ℕ × ℕ)) (pair : ℕ × ℕ) (processes : List Process) (edges : List Edge)
    → AreLawful roles ends processes edges → length ends + 1 ≤ MAX_KINDS → AreRoles roles pair → AreLawful roles (ends ++ pair ∷ []) processes edges
kind_grown roles ends pair processes edges h room within = record {
  few_roles = h.few_roles;
  few_kinds = omega (arith, room, length-append ends (pair ∷ []));
  few_processes = h.few_processes;
  kinds = All-push (AreRoles roles) ends pair h.kinds within;
  own_roles = h.own_roles;
  own_starts = h.own_starts;
  in_range = λ k d lt. ((h.in_range k d lt).0, (h.in_range k d lt).1, (let below = (h.in_range k d lt).2 in omega (arith, below, length-append ends (pair ∷ []))));
  joins_two = h.joins_two;
  single = h.single;
  matching = λ k d lt. let same = same_ends ends pair (get_or edges k d).kind (h.in_range k d lt).2 in
      ((h.matching k d lt).0 ∙ sym (ap (λ (ends : ℕ × ℕ). ends.0) same), (h.matching k d lt).1 ∙ sym (ap (λ (ends : ℕ × ℕ). ends.1) same));
  degrees = h.degrees;
}

same_role_of : (processes : List Process) (process : Process) (k : ℕ) → k < length processes → role_of (processes ++ process ∷ []) k ≡ role_of processes k
same_role_of processes process k lt = ap (λ (p : Process). p.role) (get_or_append_left processes (process ∷ []) (process_at [] 0) k lt)

pub process_grown : (roles : List RoleParts) (ends : List (ℕ × ℕ)) (processes : List Process) (process : Process) (edges : List Edge)
    → AreLawful roles ends processes edges → length processes + 1 ≤ MAX_PROCESSES → process.role < length roles → BeginsInStart roles process → ((k : ℕ) → degree_of edges k ≤ MAX_NEIGHBOURS) → AreLawful roles ends (processes ++ process ∷ []) edges
process_grown roles ends processes process edges h room within begins few = record {
  few_roles = h.few_roles;
  few_kinds = h.few_kinds;
  few_processes = omega (arith, room, length-append processes (process ∷ []));
  kinds = h.kinds;
  own_roles = All-push (HasRole roles) processes process h.own_roles within;
  own_starts = All-push (BeginsInStart roles) processes process h.own_starts begins;
  in_range = λ k d lt. (more (get_or edges k d).a (h.in_range k d lt).0, more (get_or edges k d).b (h.in_range k d lt).1, (h.in_range k d lt).2);
  joins_two = h.joins_two;
  single = h.single;
  matching = λ k d lt. (same_role_of processes process (get_or edges k d).a (h.in_range k d lt).0 ∙ (h.matching k d lt).0, same_role_of processes process (get_or edges k d).b (h.in_range k d lt).1 ∙ (h.matching k d lt).1);
  degrees = λ k lt. few k;
}
  where
    more : (n : ℕ) → n < length processes → n < length (processes ++ process ∷ [])
    more n lt = omega (arith, lt, length-append processes (process ∷ []))

few_ends : (t u : Bool) (x y : ℕ) → length (cond t (x ∷ []) (cond u (y ∷ []) [])) ≤ 1
few_ends true u x y = omega arith
few_ends false true x y = omega arith
few_ends false false x y = omega arith

no_end : (a b k : ℕ) (t u : Bool) → (a == k) ≡ t → (b == k) ≡ u → (a ≡ k → ⊥) → (b ≡ k → ⊥) → length (cond t (b ∷ []) (cond u (a ∷ []) [])) ≡ 0
no_end a b k true u e f apart other = absurd (apart (eqb-true a k e))
no_end a b k false true e f apart other = absurd (other (eqb-true b k f))
no_end a b k false false e f apart other = refl

one_more : (edges : List Edge) (e : Edge) (k : ℕ) → degree_of (edges ++ e ∷ []) k ≡ degree_of edges k + length (other_end k e)
one_more edges e k =
    let before = other_ends-length edges k in
    let after = other_ends-length (edges ++ e ∷ []) k in
    let split = ap length (other_ends-append edges e k) ∙ length-append (other_ends edges k) (other_end k e) in omega (arith, before, after, split)

-- a process that the edge joins has room for it
pub degree_grown : (most : ℕ) (edges : List Edge) (e : Edge) (k : ℕ) → ((n : ℕ) → IsCrowded most edges e.a e.b n → ⊥) → degree_of edges k ≤ most → degree_of (edges ++ e ∷ []) k ≤ most
degree_grown most edges e k none few = elim (cases_eq e.a k) [
  | inl same ↦ joined (inl (sym same))
  | inr apart ↦ elim (cases_eq e.b k) [
    | inl same ↦ joined (inr (sym same))
    | inr other ↦ (let zero = no_end e.a e.b k (e.a == k) (e.b == k) refl refl apart other in omega (arith, zero, one_more edges e k, few))
  ]
]
  where
    joined : (k ≡ e.a) ⊎ (k ≡ e.b) → degree_of (edges ++ e ∷ []) k ≤ most
    joined at = elim (cases_lt (degree_of edges k) most) [
      | inl lt ↦ (let one = few_ends (e.a == k) (e.b == k) e.b e.a in omega (arith, one, one_more edges e k, lt))
      | inr full ↦ absurd (none k (record { one_of = at; degree = full }))
    ]

pub edge_grown : (most : ℕ) (roles : List RoleParts) (ends : List (ℕ × ℕ)) (processes : List Process) (edges : List Edge) (e : Edge)
    → most ≤ MAX_NEIGHBOURS → AreLawful roles ends processes edges → IsInRange ends processes e → JoinsTwo e → (AreJoined edges e.a e.b → ⊥) → HasRoles ends processes e → ((k : ℕ) → IsCrowded most edges e.a e.b k → ⊥) → ((k : ℕ) → degree_of edges k ≤ most)
    → AreLawful roles ends processes (edges ++ e ∷ [])
edge_grown most roles ends processes edges e small h within differ fresh fits none few = record {
  few_roles = h.few_roles;
  few_kinds = h.few_kinds;
  few_processes = h.few_processes;
  kinds = h.kinds;
  own_roles = h.own_roles;
  own_starts = h.own_starts;
  in_range = All-push (IsInRange ends processes) edges e h.in_range within;
  joins_two = All-push JoinsTwo edges e h.joins_two differ;
  single = all_pairs_push (λ x y. JoinSame x y → ⊥) edges e h.single (λ k d lt same. fresh (k, get_or edges k d, lt, get_or_default edges k (get_or edges k d) d lt, same));
  matching = All-push (HasRoles ends processes) edges e h.matching fits;
  degrees = λ k lt. let le = degree_grown most edges e k none (few k) in omega (arith, le, small);
}

-- the ends of the kinds
pub ends_push : (kinds : List PairSpec) (k : PairSpec) → kind_ends (kinds ++ k ∷ []) ≡ kind_ends kinds ++ (k.role_a, k.role_b) ∷ []
ends_push kinds k = map-append (λ (k : PairSpec). (k.role_a, k.role_b)) kinds (k ∷ [])

pub ends_at : (kinds : List PairSpec) (n : ℕ) → n < length kinds → ends_of (kind_ends kinds) n ≡ ((kind_at kinds n).role_a, (kind_at kinds n).role_b)
ends_at kinds n lt = get_or-map (λ (k : PairSpec). (k.role_a, k.role_b)) kinds n (record { name = []; role_a = 0; role_b = 0; clauses = [] }) (0, 0) lt

pub kind_more : (roles : List RoleParts) (kinds : List PairSpec) (k : PairSpec) (processes : List Process) (edges : List Edge)
    → AreLawful roles (kind_ends kinds) processes edges → length kinds + 1 ≤ MAX_KINDS → (k.role_a < length roles) × (k.role_b < length roles) → AreLawful roles (kind_ends (kinds ++ k ∷ [])) processes edges
kind_more roles kinds k processes edges h room within = subst (λ ends. AreLawful roles ends processes edges) (sym (ends_push kinds k))
    (kind_grown roles (kind_ends kinds) (k.role_a, k.role_b) processes edges h (omega (arith, room, length-map {B = ℕ × ℕ} kinds (λ (k : PairSpec). (k.role_a, k.role_b)))) within)

-- nothing is declared
pub none_declared : AreLawful [] [] [] []
none_declared = record {
  few_roles = omega arith;
  few_kinds = omega arith;
  few_processes = omega arith;
  kinds = λ k d lt. absurd (omega arith);
  own_roles = λ k d lt. absurd (omega arith);
  own_starts = λ k d lt. absurd (omega arith);
  in_range = λ k d lt. absurd (omega arith);
  joins_two = λ k d lt. absurd (omega arith);
  single = λ i j d lt within. absurd (omega arith);
  matching = λ k d lt. absurd (omega arith);
  degrees = λ k lt. absurd (omega arith);
}

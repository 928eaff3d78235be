-- Which fault of the parts of a network comes first, and that parts are lawful exactly where no fault stands.
use Rattle.std.proofs.Common.{ℕ, ◌≡◌, ◌≢◌, ◌<◌, ◌≤◌, List, [], length, get_or, Some, arith, inl, inr, subst, refl}
use Rattle.std.proofs.lemmas.Bool.{cases_lt, cases_eq}
use Rattle.std.proofs.lemmas.List.{get_or_default}
use Rattle.pair_structure.specs.inside.FirstFailing.{IsFirstFailing}
use Rattle.pair_structure.specs.Role.{RoleParts}
use Rattle.pair_structure.proofs.FirstLaws.{IsFirst-from_order}
use Rattle.interconnection.specs.declared.fault.NetworkFault.{NetworkFault}
use Rattle.interconnection.specs.declared.fault.NetworkFault.TheVariants.{TooMany, EndRange, ProcessRole, ProcessStart, EdgeRange, SelfEdge, EdgeTwice, RoleMismatch, DegreeOver, Memory}
use Rattle.interconnection.specs.declared.limits.TheConstants.{MAX_NEIGHBOURS}
use Rattle.interconnection.specs.declared.parts.Edge.{Edge}
use Rattle.interconnection.specs.declared.parts.Process.{Process}
use Rattle.interconnection.specs.Graph.{JoinSame, degree_of, edge_at}
use Rattle.interconnection.specs.Network.{AreRoles, AreLawful, BeginsInStart, HasRole, HasRoles, IsInRange, JoinsTwo, ends_of, process_at, role_of}
use Rattle.interconnection.specs.inside.NetworkCheck.{AreFew, AreParts, AreEdges, AreFitting, AreSingle, IsFailedAdjacency, IsFirstPassed, IsFirstTwice}
use Rattle.interconnection.specs.NetworkFault.{IsFirstNetworkFault, IsPassed, Stands, kind_of, place_of}

none_passed : (roles kinds processes limit : ℕ) → AreFew roles kinds processes → IsPassed roles kinds processes limit → ⊥
none_passed roles kinds processes limit few passed = elim passed [
  | inl (_, over) ↦ omega (arith, few.roles, over)
  | inr more ↦ elim more [ inl (_, over) ↦ omega (arith, few.kinds, over) | inr (_, over) ↦ omega (arith, few.processes, over) ]
]

abbrev past_end : Edge
past_end = record { a = 0; b = 0; kind = 0 }

abbrev pub no_process : Process
no_process = record { name = []; role = 0; start = 0 }

module _ (roles : List RoleParts) (ends : List (ℕ × ℕ)) (processes : List Process) (edges : List Edge) where
  -- no fault of a kind below this number stands
  abbrev NoneBelow : ℕ → Type 0
  NoneBelow kind = (other : NetworkFault) → kind_of other < kind → Stands roles ends processes edges other → ⊥

  none_below_1 : NoneBelow 1
  none_below_1 (TooMany limit) lt stands = omega (arith, lt)
  none_below_1 other lt stands = omega (arith, lt)

  none_below_2 : AreFew (length roles) (length ends) (length processes) → NoneBelow 2
  none_below_2 few (TooMany limit) lt stands = none_passed (length roles) (length ends) (length processes) limit few stands
  none_below_2 few other lt stands = omega (arith, lt)

  none_below_3 : AreFew (length roles) (length ends) (length processes) → ((kind : ℕ) → kind < length ends → AreRoles roles (ends_of ends kind)) → NoneBelow 3
  none_below_3 few kinds (EndRange kind) lt stands = stands.1 (kinds kind stands.0)
  none_below_3 few kinds other lt stands = none_below_2 few other (omega (arith, lt)) stands

  none_below_4 : AreFew (length roles) (length ends) (length processes) → ((kind : ℕ) → kind < length ends → AreRoles roles (ends_of ends kind)) → ((k : ℕ) → k < length processes → role_of processes k < length roles) → NoneBelow 4
  none_below_4 few kinds own_roles (ProcessRole process) lt stands = omega (arith, stands.1, own_roles process stands.0)
  none_below_4 few kinds own_roles other lt stands = none_below_3 few kinds other (omega (arith, lt)) stands

  none_below_5 : AreParts roles ends processes → NoneBelow 5
  none_below_5 parts (ProcessStart process) lt stands = stands.1 (parts.own_starts process stands.0)
  none_below_5 parts other lt stands = none_below_4 parts.few parts.kinds parts.own_roles other (omega (arith, lt)) stands

  none_below_6 : AreParts roles ends processes → ((e : ℕ) → e < length edges → IsInRange ends processes (edge_at edges e)) → NoneBelow 6
  none_below_6 parts in_range (EdgeRange edge) lt stands = stands.1 (in_range edge stands.0)
  none_below_6 parts in_range other lt stands = none_below_5 parts other (omega (arith, lt)) stands

  none_below_7 : AreParts roles ends processes → AreEdges ends processes edges → NoneBelow 7
  none_below_7 parts are (SelfEdge edge) lt stands = are.joins_two edge stands.0 stands.1
  none_below_7 parts are other lt stands = none_below_6 parts are.in_range other (omega (arith, lt)) stands

  none_below_8 : AreParts roles ends processes → AreEdges ends processes edges → AreSingle edges → NoneBelow 8
  none_below_8 parts are single (EdgeTwice edge) lt stands = single edge stands.0 stands.1
  none_below_8 parts are single other lt stands = none_below_7 parts are other (omega (arith, lt)) stands

  none_below_9 : AreParts roles ends processes → AreEdges ends processes edges → AreSingle edges → ((e : ℕ) → e < length edges → HasRoles ends processes (edge_at edges e)) → NoneBelow 9
  none_below_9 parts are single matching (RoleMismatch edge) lt stands = stands.1 (matching edge stands.0)
  none_below_9 parts are single matching other lt stands = none_below_8 parts are single other (omega (arith, lt)) stands

  -- a fault is the first, where none of an earlier kind stands and it is the first of its own

  pub first_TooMany : (limit : ℕ) → IsFirstPassed (length roles) (length ends) (length processes) limit → IsFirstNetworkFault roles ends processes edges (TooMany limit)
  first_TooMany limit found = IsFirst-from_order kind_of place_of (Stands roles ends processes edges) (TooMany limit) found.passed none_below_1 lower
    where
      lower : (other : NetworkFault) → kind_of other ≡ 1 → place_of other < limit → Stands roles ends processes edges other → ⊥
      lower (TooMany earlier) same lt stands = found.first earlier lt stands
      lower other same lt stands = omega (arith, same)

  pub first_EndRange : (kind : ℕ) → AreFew (length roles) (length ends) (length processes) → IsFirstFailing (λ kind. AreRoles roles (ends_of ends kind)) (length ends) (Some kind) → IsFirstNetworkFault roles ends processes edges (EndRange kind)
  first_EndRange kind few found = IsFirst-from_order kind_of place_of (Stands roles ends processes edges) (EndRange kind) (found.0, found.1) (none_below_2 few) lower
    where
      lower : (other : NetworkFault) → kind_of other ≡ 2 → place_of other < kind → Stands roles ends processes edges other → ⊥
      lower (EndRange earlier) same lt stands = stands.1 (found.2 earlier lt)
      lower other same lt stands = omega (arith, same)

  pub first_ProcessRole : (k : ℕ) → AreFew (length roles) (length ends) (length processes) → ((kind : ℕ) → kind < length ends → AreRoles roles (ends_of ends kind)) → IsFirstFailing (λ k. role_of processes k < length roles) (length processes) (Some k) → IsFirstNetworkFault roles ends processes edges (ProcessRole k)
  first_ProcessRole k few kinds found = IsFirst-from_order kind_of place_of (Stands roles ends processes edges) (ProcessRole k) (found.0, no_role) (none_below_3 few kinds) lower
    where
      no_role : length roles ≤ role_of processes k
      no_role = elim (cases_lt (role_of processes k) (length roles)) [ inl inside ↦ absurd (found.1 inside) | inr outside ↦ outside ]

      lower : (other : NetworkFault) → kind_of other ≡ 3 → place_of other < k → Stands roles ends processes edges other → ⊥
      lower (ProcessRole earlier) same lt stands = omega (arith, stands.1, found.2 earlier lt)
      lower other same lt stands = omega (arith, same)

  pub first_ProcessStart : (k : ℕ) → AreFew (length roles) (length ends) (length processes) → ((kind : ℕ) → kind < length ends → AreRoles roles (ends_of ends kind)) → ((k : ℕ) → k < length processes → role_of processes k < length roles) → IsFirstFailing (λ k. BeginsInStart roles (process_at processes k)) (length processes) (Some k) → IsFirstNetworkFault roles ends processes edges (ProcessStart k)
  first_ProcessStart k few kinds own_roles found = IsFirst-from_order kind_of place_of (Stands roles ends processes edges) (ProcessStart k) (found.0, found.1) (none_below_4 few kinds own_roles) lower
    where
      lower : (other : NetworkFault) → kind_of other ≡ 4 → place_of other < k → Stands roles ends processes edges other → ⊥
      lower (ProcessStart earlier) same lt stands = stands.1 (found.2 earlier lt)
      lower other same lt stands = omega (arith, same)

  pub first_EdgeRange : (e : ℕ) → AreParts roles ends processes → IsFirstFailing (λ e. IsInRange ends processes (edge_at edges e)) (length edges) (Some e) → IsFirstNetworkFault roles ends processes edges (EdgeRange e)
  first_EdgeRange e parts found = IsFirst-from_order kind_of place_of (Stands roles ends processes edges) (EdgeRange e) (found.0, found.1) (none_below_5 parts) lower
    where
      lower : (other : NetworkFault) → kind_of other ≡ 5 → place_of other < e → Stands roles ends processes edges other → ⊥
      lower (EdgeRange earlier) same lt stands = stands.1 (found.2 earlier lt)
      lower other same lt stands = omega (arith, same)

  pub first_SelfEdge : (e : ℕ) → AreParts roles ends processes → ((e : ℕ) → e < length edges → IsInRange ends processes (edge_at edges e)) → IsFirstFailing (λ e. JoinsTwo (edge_at edges e)) (length edges) (Some e) → IsFirstNetworkFault roles ends processes edges (SelfEdge e)
  first_SelfEdge e parts in_range found = IsFirst-from_order kind_of place_of (Stands roles ends processes edges) (SelfEdge e) (found.0, itself) (none_below_6 parts in_range) lower
    where
      itself : (edge_at edges e).a ≡ (edge_at edges e).b
      itself = elim (cases_eq (edge_at edges e).a (edge_at edges e).b) [ inl same ↦ same | inr differ ↦ absurd (found.1 differ) ]

      lower : (other : NetworkFault) → kind_of other ≡ 6 → place_of other < e → Stands roles ends processes edges other → ⊥
      lower (SelfEdge earlier) same lt stands = found.2 earlier lt stands.1
      lower other same lt stands = omega (arith, same)

  pub first_EdgeTwice : (e : ℕ) → AreParts roles ends processes → AreEdges ends processes edges → IsFirstTwice edges e → IsFirstNetworkFault roles ends processes edges (EdgeTwice e)
  first_EdgeTwice e parts are found = IsFirst-from_order kind_of place_of (Stands roles ends processes edges) (EdgeTwice e) (found.within, found.twice) (none_below_7 parts are) lower
    where
      lower : (other : NetworkFault) → kind_of other ≡ 7 → place_of other < e → Stands roles ends processes edges other → ⊥
      lower (EdgeTwice earlier) same lt stands = found.first earlier lt stands.1
      lower other same lt stands = omega (arith, same)

  pub first_RoleMismatch : (e : ℕ) → AreParts roles ends processes → AreEdges ends processes edges → AreSingle edges → IsFirstFailing (λ e. HasRoles ends processes (edge_at edges e)) (length edges) (Some e) → IsFirstNetworkFault roles ends processes edges (RoleMismatch e)
  first_RoleMismatch e parts are single found = IsFirst-from_order kind_of place_of (Stands roles ends processes edges) (RoleMismatch e) (found.0, found.1) (none_below_8 parts are single) lower
    where
      lower : (other : NetworkFault) → kind_of other ≡ 8 → place_of other < e → Stands roles ends processes edges other → ⊥
      lower (RoleMismatch earlier) same lt stands = stands.1 (found.2 earlier lt)
      lower other same lt stands = omega (arith, same)

  pub first_DegreeOver : (k : ℕ) → AreParts roles ends processes → AreEdges ends processes edges → AreSingle edges → ((e : ℕ) → e < length edges → HasRoles ends processes (edge_at edges e)) → IsFirstFailing (λ k. degree_of edges k ≤ MAX_NEIGHBOURS) (length processes) (Some k) → IsFirstNetworkFault roles ends processes edges (DegreeOver k)
  first_DegreeOver k parts are single matching found = IsFirst-from_order kind_of place_of (Stands roles ends processes edges) (DegreeOver k) (found.0, many) (none_below_9 parts are single matching) lower
    where
      many : MAX_NEIGHBOURS < degree_of edges k
      many = elim (cases_lt MAX_NEIGHBOURS (degree_of edges k)) [ inl over ↦ over | inr within ↦ absurd (found.1 within) ]

      lower : (other : NetworkFault) → kind_of other ≡ 9 → place_of other < k → Stands roles ends processes edges other → ⊥
      lower (DegreeOver earlier) same lt stands = omega (arith, stands.1, found.2 earlier lt)
      lower other same lt stands = omega (arith, same)

  -- why no lists of neighbours came of the edges is the first fault too
  pub first_from_failed : (fault : NetworkFault) → AreParts roles ends processes → AreEdges ends processes edges → IsFailedAdjacency edges fault → fault ≢ Memory → IsFirstNetworkFault roles ends processes edges fault
  first_from_failed (EdgeTwice e) parts are failed differ = first_EdgeTwice e parts are failed
  first_from_failed Memory parts are failed differ = absurd (differ refl)
  first_from_failed other parts are failed differ = absurd failed

  -- lawful parts, and no fault

  pub AreLawful-from_checks : AreParts roles ends processes → AreEdges ends processes edges → AreSingle edges → AreFitting ends processes edges → AreLawful roles ends processes edges
  AreLawful-from_checks parts are single fitting = record {
    few_roles = parts.few.roles;
    few_kinds = parts.few.kinds;
    few_processes = parts.few.processes;
    kinds = λ kind d lt. subst (AreRoles roles) (get_or_default ends kind (0, 0) d lt) (parts.kinds kind lt);
    own_roles = λ k d lt. subst (HasRole roles) (get_or_default processes k no_process d lt) (parts.own_roles k lt);
    own_starts = λ k d lt. subst (BeginsInStart roles) (get_or_default processes k no_process d lt) (parts.own_starts k lt);
    in_range = λ e d lt. subst (IsInRange ends processes) (get_or_default edges e past_end d lt) (are.in_range e lt);
    joins_two = λ e d lt. subst JoinsTwo (get_or_default edges e past_end d lt) (are.joins_two e lt);
    single = λ e f d lt within same. single f within (e, lt, subst (λ (x : Edge). JoinSame x (edge_at edges f)) (get_or_default edges e d past_end (omega arith)) (subst (JoinSame (get_or edges e d)) (get_or_default edges f d past_end within) same));
    matching = λ e d lt. subst (HasRoles ends processes) (get_or_default edges e past_end d lt) (fitting.matching e lt);
    degrees = fitting.degrees;
  }

  pub none_against : AreLawful roles ends processes edges → (fault : NetworkFault) → Stands roles ends processes edges fault → ⊥
  none_against lawful (TooMany limit) stands = none_passed (length roles) (length ends) (length processes) limit (record { roles = lawful.few_roles; kinds = lawful.few_kinds; processes = lawful.few_processes }) stands
  none_against lawful (EndRange kind) stands = stands.1 (lawful.kinds kind (0, 0) stands.0)
  none_against lawful (ProcessRole k) stands = omega (arith, stands.1, lawful.own_roles k no_process stands.0)
  none_against lawful (ProcessStart k) stands = stands.1 (lawful.own_starts k no_process stands.0)
  none_against lawful (EdgeRange e) stands = stands.1 (lawful.in_range e past_end stands.0)
  none_against lawful (SelfEdge e) stands = lawful.joins_two e past_end stands.0 stands.1
  none_against lawful (EdgeTwice e) stands = let earlier = stands.1 in lawful.single earlier.0 e past_end earlier.1 stands.0 earlier.2
  none_against lawful (RoleMismatch e) stands = stands.1 (lawful.matching e past_end stands.0)
  none_against lawful (DegreeOver k) stands = omega (arith, stands.1, lawful.degrees k stands.0)
  none_against lawful Memory stands = stands

-- The canonical lines of processes and edges are taken again, and so is a whole canonical text.
use Rattle.std.proofs.Common.{ℕ, suc, ◌≡◌, ◌<◌, ◌≤◌, ◌+◌, ◌⊎◌, inl, inr, true, Option, List, [], ◌∷◌, ◌++◌, map, length, get_or, cond, sym, ap, ◌∙◌, arith, subst, refl, All, AllPairs, Contains, append_assoc, append-nil, length-append}
use Rattle.std.proofs.lemmas.Bool.Decides.{nat_tests}
use Rattle.std.proofs.lemmas.List.{get_or_default, get_or_append_left, length-map, map-append}
use Rattle.std.proofs.lemmas.List.Sums.{sum_by-append, sum_by-cons}
use Rattle.std.proofs.Math.Seq.{get_or-append_seam}
use Rattle.std.specs.List.{flat_map}
use Rattle.interconnection.specs.declared.limits.TheConstants.{MAX_KINDS, MAX_NEIGHBOURS, MAX_PROCESSES}
use Rattle.pair_structure.specs.Role.{RoleParts}
use Rattle.ctl_form.specs.declared.pair_spec.PairSpec.{PairSpec}
use Rattle.pair_structure.specs.Parts.{role_at}
use Rattle.interconnection.specs.declared.parts.Process.{Process}
use Rattle.interconnection.specs.declared.parts.Edge.{Edge}
use Rattle.interconnection.specs.Graph.{joins, degree_of, JoinSame}
use Rattle.interconnection.specs.Network.{AreLawful, BeginsInStart}
use Rattle.text_cause.specs.declared.cause.TextCause.{TextCause}
use Rattle.ctl_text.specs.Cause.{AreOfKind}
use Rattle.ctl_text.specs.inside.LineCause.{BeginStands, ProcessStands, JoinStands, EdgeStands}
use Rattle.ctl_text.specs.declared.format.Format.TheVariants.{Second}
use Rattle.ctl_text.specs.Item.{head_line, done_line}
use Rattle.ctl_text.specs.SoundValue.{Differ, IsNamedRole, IsNamedKind, IsNamedProcess, IsSoundValue}
use Rattle.ctl_text.specs.SpecText.{line_for, role_lines, kind_lines, process_item, process_text, start_name, edge_item, edge_text, spec_lines, spec_text}
use Rattle.ctl_text.specs.State.{State, Group, among_roles, among_processes, among_edges, after_done, first_state}
use Rattle.ctl_text.specs.Text.{IsSpecText}
use Rattle.ctl_text.specs.Value.{role_names, kind_names, process_names, SpecParts, kind_ends, number_in, AreJoined, kind_at, process_at, start_named}
use Rattle.ctl_text.proofs.GraphKept.{ends_at}
use Rattle.ctl_text.proofs.KindsAgain.{LetsEdges, LetsProcesses, role_named, role_there, name_there, kinds_go}
use Rattle.ctl_text.proofs.LinesTaken.{Goes, goes_further, goes_stand, item_goes}
use Rattle.ctl_text.proofs.RolesAgain.{At, name_free, use_free, distinct_new, roles_go}
use Rattle.ctl_text.proofs.StartNames.{NamesStart, start_again}

-- an edge between two processes of its kind's roles
record IsEdgeOf (processes : List Process) (kinds : List PairSpec) (e : Edge) : Type 0 where
  a : e.a < length processes
  b : e.b < length processes
  kind : e.kind < length kinds
  differ : e.a ≡ e.b → ⊥
  of_kind : AreOfKind processes kinds e.a e.b e.kind

edge_of : (v : SpecParts) → AreLawful v.roles (kind_ends v.kinds) v.processes v.edges → All (IsEdgeOf v.processes v.kinds) v.edges
edge_of v h k d lt =
    let within = h.in_range k d lt in
    let kind : (get_or v.edges k d).kind < length v.kinds = (let below = within.2 in omega (arith, below, length-map {B = ℕ × ℕ} v.kinds (λ (k : PairSpec). (k.role_a, k.role_b)))) in
    let at = ends_at v.kinds (get_or v.edges k d).kind kind in record {
      a = within.0;
      b = within.1;
      kind = kind;
      differ = h.joins_two k d lt;
      of_kind = record { role_a = (h.matching k d lt).0 ∙ ap (λ (ends : ℕ × ℕ). ends.0) at; role_b = (h.matching k d lt).1 ∙ ap (λ (ends : ℕ × ℕ). ends.1) at };
    }

begin_free : (r : RoleParts) (ps : List Process) (name : List ℕ) (p : ℕ) (start : Option (List ℕ)) → NamesStart r p start → (Contains (process_names ps) name → ⊥) → length (process_names ps) < MAX_PROCESSES → (cause : TextCause) → BeginStands MAX_PROCESSES r ps name start cause → ⊥
begin_free r ps name p start names fresh few cause (inl h) = names.known h.1
begin_free r ps name p start names fresh few cause (inr (inl h)) = name_free (process_names ps) MAX_PROCESSES name fresh few cause h
begin_free r ps name p start names fresh few cause (inr (inr h)) = names.begins h.1

process_free : (rs : List RoleParts) (ps : List Process) (name r : List ℕ) (k p : ℕ) (start : Option (List ℕ)) → Contains (role_names rs) r → number_in (role_names rs) r ≡ k → NamesStart (role_at rs k) p start → (Contains (process_names ps) name → ⊥) → length (process_names ps) < MAX_PROCESSES → (cause : TextCause) → ProcessStands MAX_PROCESSES rs ps name r start cause → ⊥
process_free rs ps name r k p start there is names fresh few cause (inl h) = use_free (role_names rs) r there cause h
process_free rs ps name r k p start there is names fresh few cause (inr h) = begin_free (role_at rs k) ps name p start names fresh few cause (subst (λ (n : ℕ). BeginStands MAX_PROCESSES (role_at rs n) ps name start cause) is h)

process_again : (p : Process) (role start : ℕ) → role ≡ p.role → start ≡ p.start → ◌≡◌ {A = Process} (record { name = p.name; role = role; start = start }) p
process_again p role start role_is start_is = rw (role_is, start_is) refl

processes_go : (g : Group) (rs : List RoleParts) (ks : List PairSpec) (front back : List Process) (tail : List (List ℕ)) (t : State) → LetsProcesses g → All IsNamedRole rs → Differ (role_names rs) → All (IsNamedProcess (length rs)) back → All (BeginsInStart rs) back → Differ (process_names (front ++ back)) → length (front ++ back) ≤ MAX_PROCESSES
    → ((h : Group) → LetsEdges h → Goes (At rs ks (front ++ back) [] h) tail t) → Goes (At rs ks front [] g) (map (process_text rs) back ++ tail) t
processes_go g rs ks front [] tail t lets named differ each begins distinct few then = subst (λ (whole : List Process). Goes (At rs ks whole [] g) tail t) (append-nil front) (then g lets.1)
processes_go g rs ks front (p ∷ back) tail t lets named differ each begins distinct few then =
    let here = each 0 p (omega arith) in
    let same : (front ++ p ∷ []) ++ back ≡ front ++ p ∷ back = append_assoc front (p ∷ []) back in
    let there = role_there rs p.role here.role differ in
    let role = role_named rs p.role named here.role in
    let name = (role_at rs p.role).name in
    let start = start_name (role_at rs p.role) p.start in
    let names = start_again (role_at rs p.role) p.start role (begins 0 p (omega arith)) in
    let fresh = distinct_new (process_names front) p.name (process_names back) (subst Differ (map-append (λ (p : Process). p.name) front (p ∷ back)) distinct) in
    let again = process_again p (number_in (role_names rs) name) (start_named (role_at rs (number_in (role_names rs) name)) start) there.1 (ap (λ (k : ℕ). start_named (role_at rs k) start) there.1 ∙ names.named) in
    let more = processes_go among_processes rs ks (front ++ p ∷ []) back tail t (λ name r start. tt, (λ p q kind. tt, tt)) named differ (λ i d lt. each (suc i) d (omega arith)) (λ i d lt. begins (suc i) d (omega arith)) (subst (λ (whole : List Process). Differ (process_names whole)) (sym same) distinct) (subst (λ (whole : List Process). length whole ≤ MAX_PROCESSES) (sym same) few)
    (λ h lets_h. subst (λ (whole : List Process). Goes (At rs ks whole [] h) tail t) (sym same) (then h lets_h)) in
    item_goes (At rs ks front [] g) t (process_item rs p) (map (process_text rs) back ++ tail) tt (lets.0 p.name name start) (here.name, role.name, names.spelled)
    (record { free = process_free rs front p.name name p.role p.start start there.0 there.1 names fresh (omega (arith, length-append front (p ∷ back), length-map front (λ (p : Process). p.name))) })
    (subst (λ (q : Process). Goes (At rs ks (front ++ q ∷ []) [] among_processes) (map (process_text rs) back ++ tail) t) (sym again) more)

at_a : (k : ℕ) (e : Edge) → k ≡ e.a → joins k e ≡ true
at_a k e h = grind (arith, nat_tests)

at_b : (k : ℕ) (e : Edge) → k ≡ e.b → joins k e ≡ true
at_b k e h = grind (arith, nat_tests)

at_one : (k : ℕ) (e : Edge) → (k ≡ e.a) ⊎ (k ≡ e.b) → joins k e ≡ true
at_one k e (inl h) = at_a k e h
at_one k e (inr h) = at_b k e h

-- an edge of its own counts
degree_more : (front : List Edge) (e : Edge) (back : List Edge) (k : ℕ) → joins k e ≡ true → degree_of front k + 1 ≤ degree_of (front ++ e ∷ back) k
degree_more front e back k h =
    let whole = sum_by-append (λ (x : Edge). cond (joins k x) 1 0) front (e ∷ back) in
    let last = sum_by-cons (λ (x : Edge). cond (joins k x) 1 0) e back in
    let one : ◌≡◌ {A = ℕ} (cond (joins k e) 1 0) 1 = rw h refl in
    omega (arith, whole, last, one)

apart : (front : List Edge) (e : Edge) (back : List Edge) → AllPairs (λ (x y : Edge). JoinSame x y → ⊥) (front ++ e ∷ back) → AreJoined front e.a e.b → ⊥
apart front e back differ (i, x, lt, is, ends) =
    let first = get_or_append_left front (e ∷ back) e i lt ∙ get_or_default front i e x lt ∙ is in
    let last = get_or-append_seam front e back e in
    differ i (length front) e lt (omega (arith, length-append front (e ∷ back))) (subst (λ (z : Edge). JoinSame z (get_or (front ++ e ∷ back) (length front) e)) (sym first) (subst (λ (z : Edge). JoinSame x z) (sym last) ends))

join_free : (ps : List Process) (ks : List PairSpec) (front : List Edge) (e : Edge) (back : List Edge) → IsEdgeOf ps ks e → AllPairs (λ (x y : Edge). JoinSame x y → ⊥) (front ++ e ∷ back) → ((k : ℕ) → degree_of (front ++ e ∷ back) k ≤ MAX_NEIGHBOURS)
    → (cause : TextCause) → JoinStands MAX_NEIGHBOURS ps ks front e.a e.b e.kind cause → ⊥
join_free ps ks front e back is differ few cause (inl h) = is.differ h.1
join_free ps ks front e back is differ few cause (inr (inl h)) = apart front e back differ h.1
join_free ps ks front e back is differ few cause (inr (inr (inl (k, c, crowded)))) =
    let more = degree_more front e back k (at_one k e crowded.crowded.one_of) in let le = few k in let over = crowded.crowded.degree in omega (arith, more, le, over)
join_free ps ks front e back is differ few cause (inr (inr (inr h))) = h.1 is.of_kind

edge_free : (ps : List Process) (ks : List PairSpec) (front : List Edge) (e : Edge) (p q kind : List ℕ) → Contains (process_names ps) p → Contains (process_names ps) q → Contains (kind_names ks) kind
    → number_in (process_names ps) p ≡ e.a → number_in (process_names ps) q ≡ e.b → number_in (kind_names ks) kind ≡ e.kind → ((cause : TextCause) → JoinStands MAX_NEIGHBOURS ps ks front e.a e.b e.kind cause → ⊥) → (cause : TextCause) → EdgeStands MAX_NEIGHBOURS ps ks front p q kind cause → ⊥
edge_free ps ks front e p q kind there_p there_q there_k a_is b_is k_is free cause (inl h) = h.1 there_p
edge_free ps ks front e p q kind there_p there_q there_k a_is b_is k_is free cause (inr (inl h)) = h.1 there_q
edge_free ps ks front e p q kind there_p there_q there_k a_is b_is k_is free cause (inr (inr (inl h))) = h.1 there_k
edge_free ps ks front e p q kind there_p there_q there_k a_is b_is k_is free cause (inr (inr (inr h))) =
    free cause (subst (λ (z : ℕ). JoinStands MAX_NEIGHBOURS ps ks front e.a e.b z cause) k_is (subst (λ (y : ℕ). JoinStands MAX_NEIGHBOURS ps ks front e.a y (number_in (kind_names ks) kind) cause) b_is (subst (λ (x : ℕ). JoinStands MAX_NEIGHBOURS ps ks front x (number_in (process_names ps) q) (number_in (kind_names ks) kind) cause) a_is h)))

edge_again : (e : Edge) (a b kind : ℕ) → a ≡ e.a → b ≡ e.b → kind ≡ e.kind → ◌≡◌ {A = Edge} (record { a = a; b = b; kind = kind }) e
edge_again e a b kind ha hb hk = rw (ha, hb, hk) refl

edges_go : (g : Group) (rs : List RoleParts) (ks : List PairSpec) (ps : List Process) (front back : List Edge) → LetsEdges g → All (IsNamedKind rs) ks → All (IsNamedProcess (length rs)) ps → Differ (kind_names ks) → Differ (process_names ps) → All (IsEdgeOf ps ks) back
    → AllPairs (λ (x y : Edge). JoinSame x y → ⊥) (front ++ back) → ((k : ℕ) → degree_of (front ++ back) k ≤ MAX_NEIGHBOURS) → Goes (At rs ks ps front g) (map (edge_text ps ks) back ++ (line_for done_line ∷ [])) (At rs ks ps (front ++ back) after_done)
edges_go g rs ks ps front [] lets kinds processes kinds_differ differ each apart_all few =
    item_goes (At rs ks ps front g) (At rs ks ps (front ++ []) after_done) done_line [] tt lets.1 tt (record { free = λ cause h. h }) (ap (λ (es : List Edge). At rs ks ps es after_done) (append-nil front))
edges_go g rs ks ps front (e ∷ back) lets kinds processes kinds_differ differ each apart_all few =
    let is = each 0 e (omega arith) in
    let same : (front ++ e ∷ []) ++ back ≡ front ++ e ∷ back = append_assoc front (e ∷ []) back in
    let tail = map (edge_text ps ks) back ++ (line_for done_line ∷ []) in
    let d = process_at [] 0 in
    let c : PairSpec = record { name = []; role_a = 0; role_b = 0; clauses = [] } in
    let p = name_there (λ (x : Process). x.name) ps d e.a is.a differ in
    let q = name_there (λ (x : Process). x.name) ps d e.b is.b differ in
    let k = name_there (λ (x : PairSpec). x.name) ks c e.kind is.kind kinds_differ in
    let more = subst (λ (es : List Edge). Goes (At rs ks ps (front ++ e ∷ []) among_edges) tail (At rs ks ps es after_done)) same
    (edges_go among_edges rs ks ps (front ++ e ∷ []) back (λ p q kind. tt, tt) kinds processes kinds_differ differ (λ i d lt. each (suc i) d (omega arith)) (subst (AllPairs (λ (x y : Edge). JoinSame x y → ⊥)) (sym same) apart_all) (subst (λ (es : List Edge). (k : ℕ) → degree_of es k ≤ MAX_NEIGHBOURS) (sym same) few)) in
    item_goes (At rs ks ps front g) (At rs ks ps (front ++ e ∷ back) after_done) (edge_item ps ks e) tail tt (lets.0 (process_at ps e.a).name (process_at ps e.b).name (kind_at ks e.kind).name)
    ((processes e.a d is.a).name, (processes e.b d is.b).name, (kinds e.kind c is.kind).name)
    (record { free = edge_free ps ks front e (process_at ps e.a).name (process_at ps e.b).name (kind_at ks e.kind).name p.0 q.0 k.0 p.1 q.1 k.1 (join_free ps ks front e back is apart_all few) })
    (subst (λ (x : Edge). Goes (At rs ks ps (front ++ x ∷ []) among_edges) tail (At rs ks ps (front ++ e ∷ back) after_done)) (sym (edge_again e (number_in (process_names ps) (process_at ps e.a).name) (number_in (process_names ps) (process_at ps e.b).name) (number_in (kind_names ks) (kind_at ks e.kind).name) p.1 q.1 k.1)) more)

pub text_stands : (v : SpecParts) → IsSoundValue v → IsSpecText (spec_text v) v
text_stands v is =
    let few_kinds : length v.kinds ≤ MAX_KINDS = (let few = is.network.few_kinds in omega (arith, few, length-map {B = ℕ × ℕ} v.kinds (λ (k : PairSpec). (k.role_a, k.role_b)))) in
    let last = At v.roles v.kinds v.processes v.edges after_done in
    let edges : List (List ℕ) = map (edge_text v.processes v.kinds) v.edges ++ (line_for done_line ∷ []) in
    let processes : List (List ℕ) = map (process_text v.roles) v.processes ++ edges in
    let kinds : List (List ℕ) = flat_map (kind_lines v.roles) v.kinds ++ processes in
    let from_edges = λ (g : Group) (lets : LetsEdges g). edges_go g v.roles v.kinds v.processes [] v.edges lets is.kinds is.processes is.kinds_differ is.processes_differ (edge_of v is.network) is.network.single is.few_beside in
    let from_processes = λ (g : Group) (lets : LetsProcesses g). processes_go g v.roles v.kinds [] v.processes edges last lets is.roles is.roles_differ is.processes is.network.own_starts is.processes_differ is.network.few_processes from_edges in
    let from_kinds = kinds_go among_roles v.roles [] v.kinds processes last (λ name a b. tt, (λ name r start. tt, (λ p q kind. tt, tt))) is.roles is.roles_differ is.kinds is.kinds_differ few_kinds from_processes in
    let from_roles = goes_further (At [] [] [] [] among_roles) (At v.roles [] [] [] among_roles) last (flat_map role_lines v.roles) kinds (roles_go [] v.roles is.roles is.roles_differ is.network.few_roles) from_kinds in
    goes_stand first_state last (spec_lines v) v (item_goes first_state last (head_line Second) (flat_map role_lines v.roles ++ kinds) tt tt tt (record { free = λ cause h. h }) from_roles) (refl, refl)

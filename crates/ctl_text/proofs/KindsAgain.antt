-- The canonical lines of kinds are taken again.
use Rattle.std.proofs.Common.{ℕ, suc, ◌≡◌, ◌<◌, ◌≤◌, inl, inr, Option, List, [], ◌∷◌, ◌++◌, map, length, slice_index_or, sym, ap, ◌∙◌, arith, subst, refl, All, Contains, append_assoc, append-nil, length-append}
use Rattle.std.proofs.lemmas.List.{length-map, map-append, get_or-map}
use Rattle.std.proofs.lemmas.List.Elements.{Contains-get_or}
use Rattle.std.specs.List.{flat_map}
use Rattle.interconnection.specs.declared.limits.TheConstants.{MAX_KINDS}
use Rattle.pair_structure.specs.Parts.{name_at, role_at}
use Rattle.pair_structure.specs.Role.{RoleParts}
use Rattle.ctl_form.specs.declared.pair_spec.PairSpec.{PairSpec}
use Rattle.ctl_form.specs.Form.{Form}
use Rattle.text_cause.specs.declared.cause.TextCause.{TextCause}
use Rattle.ctl_text.specs.inside.LineCause.{KindStands, KindEndStands}
use Rattle.ctl_text.specs.Item.{kind_line, end_line, process_line, edge_line, done_line}
use Rattle.ctl_text.specs.Required.{IsClosureOver}
use Rattle.ctl_text.specs.SoundValue.{Differ, IsNamedRole, IsNamedKind, IsReadable}
use Rattle.ctl_text.specs.SpecText.{line_for, require_text, kind_lines}
use Rattle.ctl_text.specs.State.{State, Group, among_kinds, in_kind, MayStand}
use Rattle.ctl_text.specs.Value.{role_names, kind_names, number_in, sets_at}
use Rattle.ctl_text.proofs.LinesTaken.{Goes, goes_further, item_goes, clause_goes}
use Rattle.formula_text.specs.Sets.{Atoms, plain}
use Rattle.formula_text.proofs.RoleNames.{names_of_role}
use Rattle.ctl_text.proofs.Named.{number_again}
use Rattle.ctl_text.proofs.RolesAgain.{At, no_sets, none_at, name_free, use_free, distinct_new}

-- edges may stand there, or nothing more
abbrev pub LetsEdges : Group → Type 0
LetsEdges g = ((p q kind : List ℕ) → MayStand g (edge_line p q kind)) × MayStand g done_line

abbrev pub LetsProcesses : Group → Type 0
LetsProcesses g = ((name r : List ℕ) (start : Option (List ℕ)) → MayStand g (process_line name r start)) × LetsEdges g

abbrev pub LetsKinds : Group → Type 0
LetsKinds g = ((name a b : List ℕ) → MayStand g (kind_line name a b)) × LetsProcesses g

-- the name that stands at a number is that of the element at that number
pub name_there : {X : Type 0} (f : X → List ℕ) (xs : List X) (d : X) (k : ℕ) → k < length xs → Differ (map f xs) → Contains (map f xs) (f (slice_index_or xs k d)) × (number_in (map f xs) (f (slice_index_or xs k d)) ≡ k)
name_there f xs d k lt differ =
    let there : name_at (map f xs) k ≡ f (slice_index_or xs k d) = get_or-map f xs k d [] lt in
    let within : k < length (map f xs) = omega (arith, length-map xs f) in
    (subst (Contains (map f xs)) there (Contains-get_or (map f xs) k [] within), ap (number_in (map f xs)) (sym there) ∙ number_again (map f xs) k differ within)

pub role_there : (rs : List RoleParts) (k : ℕ) → k < length rs → Differ (role_names rs) → Contains (role_names rs) (role_at rs k).name × (number_in (role_names rs) (role_at rs k).name ≡ k)
role_there rs k lt differ = name_there (λ r. r.name) rs (record { name = []; locals = []; starts = []; arcs = [] }) k lt differ

kind_free : (rs : List RoleParts) (ks : List PairSpec) (name a b : List ℕ) → Contains (role_names rs) a → Contains (role_names rs) b → (Contains (kind_names ks) name → ⊥) → length (kind_names ks) < MAX_KINDS → (cause : TextCause) → KindStands rs ks name a b cause → ⊥
kind_free rs ks name a b one two fresh few cause (inl h) = use_free (role_names rs) a one cause h
kind_free rs ks name a b one two fresh few cause (inr (inl h)) = use_free (role_names rs) b two cause h
kind_free rs ks name a b one two fresh few cause (inr (inr h)) = name_free (kind_names ks) MAX_KINDS name fresh few cause h

kind_end_free : (rs : List RoleParts) (k : PairSpec) → (IsClosureOver (role_at rs k.role_a) (role_at rs k.role_b) k.clauses → ⊥) → (cause : TextCause) → KindEndStands rs k cause → ⊥
kind_end_free rs k small cause h = small h.1

abbrev Opened : List ℕ → ℕ → ℕ → List Form → Group
Opened n p q clauses = in_kind (record { name = n; role_a = p; role_b = q; clauses = clauses })

pub role_named : (rs : List RoleParts) (k : ℕ) → All IsNamedRole rs → k < length rs → IsNamedRole (role_at rs k)
role_named rs k named lt = named k (record { name = []; locals = []; starts = []; arcs = [] }) lt

-- of a role without sets atoms may name the local states alone
plain_at : (rs : List RoleParts) (k : ℕ) → ◌≡◌ {A = Atoms} (plain (role_at rs k).locals) (record { locals = (role_at rs k).locals; sets = sets_at (no_sets rs) k })
plain_at rs k = ap (λ sets. record { locals = (role_at rs k).locals; sets = sets }) (sym (none_at rs k))

clauses_go : (rs : List RoleParts) (ks : List PairSpec) (n : List ℕ) (p q : ℕ) (front back : List Form) → IsNamedRole (role_at rs p) → IsNamedRole (role_at rs q) → All (IsReadable (role_at rs p).locals (role_at rs q).locals) back
    → Goes (At rs ks [] [] (Opened n p q front)) (map (require_text (role_at rs p).locals (role_at rs q).locals) back) (At rs ks [] [] (Opened n p q (front ++ back)))
clauses_go rs ks n p q front [] one two each = ap (λ (fs : List Form). At rs ks [] [] (Opened n p q fs)) (append-nil front)
clauses_go rs ks n p q front (f ∷ back) one two each =
    let a = (role_at rs p).locals in let b = (role_at rs q).locals in
    let same : (front ++ f ∷ []) ++ back ≡ front ++ f ∷ back = append_assoc front (f ∷ []) back in
    let more = subst (λ (fs : List Form). Goes (At rs ks [] [] (Opened n p q (front ++ f ∷ []))) (map (require_text a b) back) (At rs ks [] [] (Opened n p q fs))) same
    (clauses_go rs ks n p q (front ++ f ∷ []) back one two (λ k d lt. each (suc k) d (omega arith))) in
    clause_goes (At rs ks [] [] among_kinds).parts (record { name = n; role_a = p; role_b = q; clauses = front }) a b f (At rs ks [] [] (Opened n p q (front ++ f ∷ back))) (map (require_text a b) back) (plain_at rs p) (plain_at rs q)
    (λ i lt. one.locals i [] lt) (λ i lt. two.locals i [] lt) (names_of_role a (λ i lt. one.locals i [] lt) one.role.names_differ) (names_of_role b (λ i lt. two.locals i [] lt) two.role.names_differ) (each 0 f (omega arith)) more

kind_goes : (g : Group) (rs : List RoleParts) (ks : List PairSpec) (k : PairSpec) → LetsKinds g → All IsNamedRole rs → Differ (role_names rs) → IsNamedKind rs k → (Contains (kind_names ks) k.name → ⊥) → length (kind_names ks) < MAX_KINDS
    → Goes (At rs ks [] [] g) (kind_lines rs k) (At rs (ks ++ k ∷ []) [] [] among_kinds)
kind_goes g rs ks k lets named differ is fresh few =
    let done = At rs (ks ++ k ∷ []) [] [] among_kinds in
    let one = role_named rs k.role_a named is.role_a in let two = role_named rs k.role_b named is.role_b in
    let at_a = role_there rs k.role_a is.role_a differ in let at_b = role_there rs k.role_b is.role_b differ in
    let clauses = map (require_text (role_at rs k.role_a).locals (role_at rs k.role_b).locals) k.clauses in
    let rest = clauses ++ (line_for end_line ∷ []) in
    let last = item_goes (At rs ks [] [] (Opened k.name k.role_a k.role_b k.clauses)) done end_line [] tt tt tt (record { free = kind_end_free rs k is.closure }) refl in
    let body = goes_further (At rs ks [] [] (Opened k.name k.role_a k.role_b [])) (At rs ks [] [] (Opened k.name k.role_a k.role_b k.clauses)) done clauses (line_for end_line ∷ []) (clauses_go rs ks k.name k.role_a k.role_b [] k.clauses one two is.clauses) last in
    item_goes (At rs ks [] [] g) done (kind_line k.name (role_at rs k.role_a).name (role_at rs k.role_b).name) rest tt (lets.0 k.name (role_at rs k.role_a).name (role_at rs k.role_b).name) (is.name, one.name, two.name)
    (record { free = kind_free rs ks k.name (role_at rs k.role_a).name (role_at rs k.role_b).name at_a.0 at_b.0 fresh few })
    (subst (λ (q : ℕ). Goes (At rs ks [] [] (Opened k.name (number_in (role_names rs) (role_at rs k.role_a).name) q [])) rest done) (sym at_b.1)
    (subst (λ (p : ℕ). Goes (At rs ks [] [] (Opened k.name p k.role_b [])) rest done) (sym at_a.1) body))

-- where the lines behind them are taken, whatever group is open there
pub kinds_go : (g : Group) (rs : List RoleParts) (ks back : List PairSpec) (tail : List (List ℕ)) (t : State) → LetsKinds g → All IsNamedRole rs → Differ (role_names rs) → All (IsNamedKind rs) back → Differ (kind_names (ks ++ back)) → length (ks ++ back) ≤ MAX_KINDS
    → ((h : Group) → LetsProcesses h → Goes (At rs (ks ++ back) [] [] h) tail t) → Goes (At rs ks [] [] g) (flat_map (kind_lines rs) back ++ tail) t
kinds_go g rs ks [] tail t lets named differ each distinct few then = subst (λ (whole : List PairSpec). Goes (At rs whole [] [] g) tail t) (append-nil ks) (then g lets.1)
kinds_go g rs ks (k ∷ back) tail t lets named differ each distinct few then =
    let same : (ks ++ k ∷ []) ++ back ≡ ks ++ k ∷ back = append_assoc ks (k ∷ []) back in
    let fresh = distinct_new (kind_names ks) k.name (kind_names back) (subst Differ (map-append (λ (k : PairSpec). k.name) ks (k ∷ back)) distinct) in
    let first = kind_goes g rs ks k lets named differ (each 0 k (omega arith)) fresh (omega (arith, length-append ks (k ∷ back), length-map ks (λ (k : PairSpec). k.name))) in
    let more = kinds_go among_kinds rs (ks ++ k ∷ []) back tail t (λ name a b. tt, (λ name r start. tt, (λ p q kind. tt, tt))) named differ (λ i d lt. each (suc i) d (omega arith)) (subst (λ (whole : List PairSpec). Differ (kind_names whole)) (sym same) distinct) (subst (λ (whole : List PairSpec). length whole ≤ MAX_KINDS) (sym same) few)
    (λ h lets_h. subst (λ (whole : List PairSpec). Goes (At rs whole [] [] h) tail t) (sym same) (then h lets_h)) in
    subst (λ (lines : List (List ℕ)). Goes (At rs ks [] [] g) lines t) (sym (append_assoc (kind_lines rs k) (flat_map (kind_lines rs) back) tail))
    (goes_further (At rs ks [] [] g) (At rs (ks ++ k ∷ []) [] [] among_kinds) t (kind_lines rs k) (flat_map (kind_lines rs) back ++ tail) first more)

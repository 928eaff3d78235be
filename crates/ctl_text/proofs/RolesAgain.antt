-- The canonical lines of roles are taken again.
use Rattle.std.proofs.Common.{ℕ, zero, suc, ◌≡◌, ◌≢◌, ◌<◌, ◌≤◌, inl, inr, List, [], ◌∷◌, ◌++◌, map, length, sym, ap, ◌∙◌, arith, subst, refl, All, AllPairs, Contains, append_assoc, append-nil, length-append}
use Rattle.std.proofs.lemmas.List.{get_or_default, get_or_append_left, length-map, map-append}
use Rattle.std.proofs.Math.Seq.{get_or-append_seam}
use Rattle.std.proofs.lemmas.List.Elements.{Contains-get_or}
use Rattle.std.specs.List.{flat_map}
use Rattle.pair_structure.specs.declared.limits.TheConstants.{MAX_ARCS, MAX_LOCALS}
use Rattle.interconnection.specs.declared.limits.TheConstants.{MAX_ROLES}
use Rattle.pair_structure.specs.Parts.{name_at}
use Rattle.pair_structure.specs.declared.side.LocalArc.{LocalArc}
use Rattle.pair_structure.specs.Name.{IsName}
use Rattle.pair_structure.specs.Role.{RoleParts, JoinsTwo, HasArc, HasArcFrom}
use Rattle.ctl_form.specs.declared.pair_spec.PairSpec.{PairSpec}
use Rattle.interconnection.specs.declared.parts.Process.{Process}
use Rattle.interconnection.specs.declared.parts.Edge.{Edge}
use Rattle.text_cause.specs.declared.cause.TextCause.{TextCause}
use Rattle.ctl_text.specs.Cause.{UseStands}
use Rattle.ctl_text.specs.inside.LineCause.{NameStands, StartStands, ArcStands, RoleEndStands}
use Rattle.ctl_text.specs.Item.{role_line, local_line, start_line, end_line}
use Rattle.ctl_text.specs.SoundValue.{Differ, IsNamedRole}
use Rattle.ctl_text.specs.SpecText.{line_for, local_text, start_text, arc_item, arc_text, role_lines}
use Rattle.formula_text.specs.Sets.{SetParts}
use Rattle.ctl_text.specs.declared.format.Format.TheVariants.{Second}
use Rattle.ctl_text.specs.State.{State, Group, among_roles, in_role, arc_in}
use Rattle.ctl_text.specs.Value.{role_names, number_in, sets_at}
use Rattle.ctl_text.proofs.LinesTaken.{Goes, goes_further, item_goes}
use Rattle.ctl_text.proofs.Named.{number_again}

-- of each role no sets
abbrev pub no_sets : List RoleParts → List (List SetParts)
no_sets [] = []
no_sets (r ∷ rs) = [] ∷ no_sets rs

sets_push : (rs : List RoleParts) (r : RoleParts) → no_sets (rs ++ r ∷ []) ≡ no_sets rs ++ [] ∷ []
sets_push [] r = refl
sets_push (x ∷ rs) r = ap (λ sets. [] ∷ sets) (sets_push rs r)

pub none_at : (rs : List RoleParts) (k : ℕ) → sets_at (no_sets rs) k ≡ []
none_at [] k = refl
none_at (r ∷ rs) zero = refl
none_at (r ∷ rs) (suc k) = none_at rs k

abbrev pub At : List RoleParts → List PairSpec → List Process → List Edge → Group → State
At rs ks ps es g = record { parts = record { format = Second; roles = rs; sets = no_sets rs; kinds = ks; processes = ps; edges = es }; group = g }

pub name_free : (names : List (List ℕ)) (most : ℕ) (name : List ℕ) → (Contains names name → ⊥) → length names < most → (cause : TextCause) → NameStands names most name cause → ⊥
name_free names most name fresh few cause (inl h) = fresh h.1
name_free names most name fresh few cause (inr h) = (let over = h.1 in omega arith)

pub use_free : (names : List (List ℕ)) (name : List ℕ) → Contains names name → (cause : TextCause) → UseStands names name cause → ⊥
use_free names name there cause h = h.1 there

pub distinct_new : {X : Type 0} (front : List X) (x : X) (back : List X) → AllPairs (λ (y z : X). y ≢ z) (front ++ x ∷ back) → Contains front x → ⊥
distinct_new front x back distinct (k, lt, is) =
    distinct k (length front) x lt (omega (arith, length-append front (x ∷ back)))
    (get_or_append_left front (x ∷ back) x k lt ∙ is ∙ sym (get_or-append_seam front x back x))

abbrev Opened : List ℕ → List (List ℕ) → List ℕ → List LocalArc → Group
Opened n ls starts made = in_role (record { format = Second; name = n; locals = ls; starts = starts; sets = []; arcs = made })

locals_go : (rs : List RoleParts) (n : List ℕ) (front back : List (List ℕ)) → Differ (front ++ back) → length (front ++ back) ≤ MAX_LOCALS → All IsName back
    → Goes (At rs [] [] [] (Opened n front [] [])) (map local_text back) (At rs [] [] [] (Opened n (front ++ back) [] []))
locals_go rs n front [] distinct few names = ap (λ (ls : List (List ℕ)). At rs [] [] [] (Opened n ls [] [])) (append-nil front)
locals_go rs n front (x ∷ back) distinct few names =
    let same : (front ++ x ∷ []) ++ back ≡ front ++ x ∷ back = append_assoc front (x ∷ []) back in
    let more = subst (λ (ls : List (List ℕ)). Goes (At rs [] [] [] (Opened n (front ++ x ∷ []) [] [])) (map local_text back) (At rs [] [] [] (Opened n ls [] []))) same
    (locals_go rs n (front ++ x ∷ []) back (subst Differ (sym same) distinct) (subst (λ (ls : List (List ℕ)). length ls ≤ MAX_LOCALS) (sym same) few) (λ k d lt. names (suc k) d (omega arith))) in
    item_goes (At rs [] [] [] (Opened n front [] [])) (At rs [] [] [] (Opened n (front ++ x ∷ back) [] [])) (local_line x) (map local_text back) tt refl (names 0 x (omega arith))
    (record { free = name_free front MAX_LOCALS x (distinct_new front x back distinct) (omega (arith, length-append front (x ∷ back))) }) more

start_free : (ls : List (List ℕ)) (front back : List ℕ) (start : ℕ) → Differ ls → start < length ls → AllPairs (λ (x y : ℕ). x ≢ y) (front ++ start ∷ back) → (cause : TextCause) → StartStands ls front (name_at ls start) cause → ⊥
start_free ls front back start distinct within differ cause (inl h) = use_free ls (name_at ls start) (Contains-get_or ls start [] within) cause h
start_free ls front back start distinct within differ cause (inr h) = distinct_new front start back differ (subst (Contains front) (number_again ls start distinct within) h.1)

starts_go : (rs : List RoleParts) (n : List ℕ) (ls : List (List ℕ)) (front back : List ℕ) → All IsName ls → Differ ls → 0 < length ls → All (λ start. start < length ls) back → AllPairs (λ (x y : ℕ). x ≢ y) (front ++ back)
    → Goes (At rs [] [] [] (Opened n ls front [])) (map (start_text ls) back) (At rs [] [] [] (Opened n ls (front ++ back) []))
starts_go rs n ls front [] names distinct some within differ = ap (λ (starts : List ℕ). At rs [] [] [] (Opened n ls starts [])) (append-nil front)
starts_go rs n ls front (start ∷ back) names distinct some within differ =
    let same : (front ++ start ∷ []) ++ back ≡ front ++ start ∷ back = append_assoc front (start ∷ []) back in
    let here = within 0 start (omega arith) in
    let more = subst (λ (starts : List ℕ). Goes (At rs [] [] [] (Opened n ls (front ++ start ∷ []) [])) (map (start_text ls) back) (At rs [] [] [] (Opened n ls starts []))) same
    (starts_go rs n ls (front ++ start ∷ []) back names distinct some (λ k d lt. within (suc k) d (omega arith)) (subst (AllPairs (λ (x y : ℕ). x ≢ y)) (sym same) differ)) in
    item_goes (At rs [] [] [] (Opened n ls front [])) (At rs [] [] [] (Opened n ls (front ++ start ∷ back) [])) (start_line (name_at ls start)) (map (start_text ls) back) tt (some, refl, refl) (names start [] here)
    (record { free = start_free ls front back start distinct here differ })
    (subst (λ (k : ℕ). Goes (At rs [] [] [] (Opened n ls (front ++ k ∷ []) [])) (map (start_text ls) back) (At rs [] [] [] (Opened n ls (front ++ start ∷ back) []))) (sym (number_again ls start distinct here)) more)

abbrev EndsDiffer : LocalArc → LocalArc → Type 0
EndsDiffer x y = x.from ≡ y.from → x.to ≡ y.to → ⊥

arc_again : (ls : List (List ℕ)) (a : LocalArc) → Differ ls → JoinsTwo (length ls) a → arc_in ls (name_at ls a.from) (name_at ls a.to) a.free ≡ a
arc_again ls a distinct joins = rw (number_again ls a.from distinct joins.from, number_again ls a.to distinct joins.to) refl

arc_new : (ls : List (List ℕ)) (front back : List LocalArc) (a : LocalArc) → Differ ls → JoinsTwo (length ls) a → AllPairs EndsDiffer (front ++ a ∷ back) → HasArc front (number_in ls (name_at ls a.from)) (number_in ls (name_at ls a.to)) → ⊥
arc_new ls front back a distinct joins differ (i, x, lt, is, ends) =
    let first = get_or_append_left front (a ∷ back) a i lt ∙ get_or_default front i a x lt ∙ is in
    let last = get_or-append_seam front a back a in
    let f : x.from ≡ a.from = ends.0 ∙ number_again ls a.from distinct joins.from in
    let t : x.to ≡ a.to = ends.1 ∙ number_again ls a.to distinct joins.to in
    differ i (length front) a lt (omega (arith, length-append front (a ∷ back))) (ap (λ (x : LocalArc). x.from) first ∙ f ∙ ap (λ (x : LocalArc). x.from) (sym last)) (ap (λ (x : LocalArc). x.to) first ∙ t ∙ ap (λ (x : LocalArc). x.to) (sym last))

arc_free : (ls : List (List ℕ)) (front back : List LocalArc) (a : LocalArc) → Differ ls → JoinsTwo (length ls) a → AllPairs EndsDiffer (front ++ a ∷ back) → length front < MAX_ARCS
    → (cause : TextCause) → ArcStands ls front (name_at ls a.from) (name_at ls a.to) cause → ⊥
arc_free ls front back a distinct joins differ few cause (inl h) = h.1 (Contains-get_or ls a.from [] joins.from)
arc_free ls front back a distinct joins differ few cause (inr (inl h)) = h.1 (Contains-get_or ls a.to [] joins.to)
arc_free ls front back a distinct joins differ few cause (inr (inr (inl h))) = arc_new ls front back a distinct joins differ h.1
arc_free ls front back a distinct joins differ few cause (inr (inr (inr (inl h)))) = joins.differ (sym (number_again ls a.from distinct joins.from) ∙ ap (number_in ls) h.1 ∙ number_again ls a.to distinct joins.to)
arc_free ls front back a distinct joins differ few cause (inr (inr (inr (inr h)))) = (let over = h.1 in omega arith)

arcs_go : (rs : List RoleParts) (n : List ℕ) (ls : List (List ℕ)) (starts : List ℕ) (front back : List LocalArc) → All IsName ls → Differ ls → 0 < length starts → All (JoinsTwo (length ls)) back → AllPairs EndsDiffer (front ++ back) → length (front ++ back) ≤ MAX_ARCS
    → Goes (At rs [] [] [] (Opened n ls starts front)) (map (arc_text ls) back) (At rs [] [] [] (Opened n ls starts (front ++ back)))
arcs_go rs n ls starts front [] names distinct begins joins differ few = ap (λ (made : List LocalArc). At rs [] [] [] (Opened n ls starts made)) (append-nil front)
arcs_go rs n ls starts front (a ∷ back) names distinct begins joins differ few =
    let same : (front ++ a ∷ []) ++ back ≡ front ++ a ∷ back = append_assoc front (a ∷ []) back in
    let here = joins 0 a (omega arith) in
    let more = subst (λ (made : List LocalArc). Goes (At rs [] [] [] (Opened n ls starts (front ++ a ∷ []))) (map (arc_text ls) back) (At rs [] [] [] (Opened n ls starts made))) same
    (arcs_go rs n ls starts (front ++ a ∷ []) back names distinct begins (λ k d lt. joins (suc k) d (omega arith)) (subst (AllPairs EndsDiffer) (sym same) differ) (subst (λ (made : List LocalArc). length made ≤ MAX_ARCS) (sym same) few)) in
    item_goes (At rs [] [] [] (Opened n ls starts front)) (At rs [] [] [] (Opened n ls starts (front ++ a ∷ back))) (arc_item ls a) (map (arc_text ls) back) tt begins (names a.from [] here.from, names a.to [] here.to)
    (record { free = arc_free ls front back a distinct here differ (omega (arith, length-append front (a ∷ back))) })
    (subst (λ (b : LocalArc). Goes (At rs [] [] [] (Opened n ls starts (front ++ b ∷ []))) (map (arc_text ls) back) (At rs [] [] [] (Opened n ls starts (front ++ a ∷ back)))) (sym (arc_again ls a distinct here)) more)

end_free : (ls : List (List ℕ)) (made : List LocalArc) → ((p : ℕ) → p < length ls → HasArcFrom made p) → (cause : TextCause) → RoleEndStands ls made cause → ⊥
end_free ls made leaves cause (p, e, stuck) = stuck.stuck (leaves p stuck.within)

role_goes : (rs : List RoleParts) (r : RoleParts) → IsNamedRole r → (Contains (role_names rs) r.name → ⊥) → length (role_names rs) < MAX_ROLES → Goes (At rs [] [] [] among_roles) (role_lines r) (At (rs ++ r ∷ []) [] [] [] among_roles)
role_goes rs r is fresh few =
    let done = At (rs ++ r ∷ []) [] [] [] among_roles in
    let open_at = λ (ls : List (List ℕ)) (starts : List ℕ) (made : List LocalArc). At rs [] [] [] (Opened r.name ls starts made) in
    let from_end : List (List ℕ) = line_for end_line ∷ [] in
    let from_arcs = map (arc_text r.locals) r.arcs ++ from_end in
    let from_starts = map (start_text r.locals) r.starts ++ from_arcs in
    let last = item_goes (open_at r.locals r.starts r.arcs) done end_line [] tt is.role.begins tt (record { free = end_free r.locals r.arcs is.role.leaves }) (ap (λ sets. record { parts = record { format = Second; roles = rs ++ r ∷ []; sets = sets; kinds = []; processes = []; edges = [] }; group = among_roles }) (sets_push rs r)) in
    let arcs = goes_further (open_at r.locals r.starts []) (open_at r.locals r.starts r.arcs) done (map (arc_text r.locals) r.arcs) from_end
    (arcs_go rs r.name r.locals r.starts [] r.arcs is.locals is.role.names_differ is.role.begins is.role.joins is.role.ends_differ is.role.few_arcs) last in
    let starts = goes_further (open_at r.locals [] []) (open_at r.locals r.starts []) done (map (start_text r.locals) r.starts) from_arcs
    (starts_go rs r.name r.locals [] r.starts is.locals is.role.names_differ is.role.some is.role.starts_within is.role.starts_differ) arcs in
    item_goes (At rs [] [] [] among_roles) done (role_line r.name) (map local_text r.locals ++ from_starts) tt tt is.name (record { free = name_free (role_names rs) MAX_ROLES r.name fresh few })
    (goes_further (open_at [] [] []) (open_at r.locals [] []) done (map local_text r.locals) from_starts (locals_go rs r.name [] r.locals is.role.names_differ is.role.few_locals is.locals) starts)

pub roles_go : (rs back : List RoleParts) → All IsNamedRole back → Differ (role_names (rs ++ back)) → length (rs ++ back) ≤ MAX_ROLES → Goes (At rs [] [] [] among_roles) (flat_map role_lines back) (At (rs ++ back) [] [] [] among_roles)
roles_go rs [] named differ few = ap (λ (rs : List RoleParts). At rs [] [] [] among_roles) (append-nil rs)
roles_go rs (r ∷ back) named differ few =
    let same : (rs ++ r ∷ []) ++ back ≡ rs ++ r ∷ back = append_assoc rs (r ∷ []) back in
    let fresh = distinct_new (role_names rs) r.name (role_names back) (subst Differ (map-append (λ (r : RoleParts). r.name) rs (r ∷ back)) differ) in
    let more = roles_go (rs ++ r ∷ []) back (λ k d lt. named (suc k) d (omega arith)) (subst (λ (rs : List RoleParts). Differ (role_names rs)) (sym same) differ) (subst (λ (rs : List RoleParts). length rs ≤ MAX_ROLES) (sym same) few) in
    goes_further (At rs [] [] [] among_roles) (At (rs ++ r ∷ []) [] [] [] among_roles) (At (rs ++ r ∷ back) [] [] [] among_roles) (role_lines r) (flat_map role_lines back)
    (role_goes rs r (named 0 r (omega arith)) fresh (omega (arith, length-append rs (r ∷ back), length-map rs (λ (r : RoleParts). r.name))))
    (subst (λ (whole : List RoleParts). Goes (At (rs ++ r ∷ []) [] [] [] among_roles) (flat_map role_lines back) (At whole [] [] [] among_roles)) same more)

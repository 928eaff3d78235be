-- What a line leaves that nothing stands against.
use Rattle.std.proofs.Common.{ℕ, ◌≡◌, ◌<◌, length, Option, List, [], ◌∷◌, ◌++◌, refl, sym, ap, ◌∙◌, subst}
use Rattle.interconnection.specs.declared.limits.TheConstants.{MAX_ROLES}
use Rattle.pair_structure.specs.Role.{RoleParts}
use Rattle.ctl_form.specs.Form.{Form}
use Rattle.ctl_form.specs.declared.pair_spec.PairSpec.{PairSpec}
use Rattle.text_cause.specs.Cause.{IsFree}
use Rattle.formula_text.specs.Sets.{SetParts}
use Rattle.ctl_text.specs.declared.format.Format.{Format}
use Rattle.ctl_text.specs.Format.{most_neighbours, most_processes}
use Rattle.ctl_text.specs.Item.{Said, head_line, role_line, kind_line, end_line, process_line, edge_line, done_line}
use Rattle.ctl_text.specs.State.{OpenParts, role_of, nothing, State, Group, among_roles, in_role, among_kinds, in_kind, after_done, opened_kind, after_line}
use Rattle.ctl_text.specs.Value.{Declared, role_names}
use Rattle.ctl_text.specs.inside.Judged.{IsSaidTaken}
use Rattle.ctl_text.specs.inside.LineCause.{LineBlocks, NameStands, RoleEndStands, KindStands, KindEndStands, ProcessStands, EdgeStands}
use Rattle.ctl_text.specs.inside.Pairs.{PairsParts}
use Rattle.ctl_text.specs.inside.Sound.{IsSoundState}
use Rattle.ctl_text.proofs.Kept.{head_sound, role_opens, kind_opens, end_sound, process_sound, edge_sound, done_sound}

pub said_taken : (s t : State) (item : Said) → t ≡ after_line s item → IsFree (LineBlocks s item) → IsSoundState (after_line s item) → IsSaidTaken s item t
said_taken s t item next free sound = record { next = next; free = free; sound = subst IsSoundState (sym next) sound }

pub role_taken : (s t : State) (name made : List ℕ) (r : OpenParts) (roles : List RoleParts) → roles ≡ s.parts.roles → made ≡ name → r ≡ record { format = s.parts.format; name = made; locals = []; starts = []; sets = []; arcs = [] } → t ≡ record { parts = s.parts; group = in_role r }
    → IsSoundState s → IsFree (NameStands (role_names roles) MAX_ROLES name) → IsSaidTaken s (role_line name) t
role_taken s t name made r roles same is new next sound free =
    let here : IsFree (NameStands (role_names s.parts.roles) MAX_ROLES name) = subst (λ rs. IsFree (NameStands (role_names rs) MAX_ROLES name)) same free in
    let left : t ≡ after_line s (role_line name) = next ∙ (rw (new, is) refl) in
    said_taken s t (role_line name) left here (role_opens s name sound here)

pub kind_taken : (s t : State) (g : Group) (name a b : List ℕ) (roles : List RoleParts) (kinds : List PairSpec) → roles ≡ s.parts.roles → kinds ≡ s.parts.kinds → g ≡ opened_kind s.parts.roles name a b → t ≡ record { parts = s.parts; group = g }
    → IsSoundState s → IsFree (KindStands roles kinds name a b) → IsSaidTaken s (kind_line name a b) t
kind_taken s t g name a b roles kinds same also opens next sound free =
    let here : IsFree (KindStands s.parts.roles s.parts.kinds name a b) = subst (λ rs. IsFree (KindStands rs s.parts.kinds name a b)) same (subst (λ ks. IsFree (KindStands roles ks name a b)) also free) in
    said_taken s t (kind_line name a b) (next ∙ ap (λ (g : Group). record { parts = s.parts; group = g }) opens) here (kind_opens s name a b sound here)

pub process_taken : (s t : State) (name r : List ℕ) (start : Option (List ℕ)) (roles : List RoleParts) → roles ≡ s.parts.roles → t ≡ after_line s (process_line name r start) → IsSoundState s → IsFree (ProcessStands (most_processes s.parts.format) roles s.parts.processes name r start) → IsSaidTaken s (process_line name r start) t
process_taken s t name r start roles same next sound free =
    let here : IsFree (ProcessStands (most_processes s.parts.format) s.parts.roles s.parts.processes name r start) = subst (λ rs. IsFree (ProcessStands (most_processes s.parts.format) rs s.parts.processes name r start)) same free in
    said_taken s t (process_line name r start) next here (process_sound s name r start sound here)

pub edge_taken : (s t : State) (p q kind : List ℕ) (kinds : List PairSpec) → kinds ≡ s.parts.kinds → t ≡ after_line s (edge_line p q kind) → IsSoundState s → IsFree (EdgeStands (most_neighbours s.parts.format) s.parts.processes kinds s.parts.edges p q kind) → IsSaidTaken s (edge_line p q kind) t
edge_taken s t p q kind kinds same next sound free =
    let here : IsFree (EdgeStands (most_neighbours s.parts.format) s.parts.processes s.parts.kinds s.parts.edges p q kind) = subst (λ ks. IsFree (EdgeStands (most_neighbours s.parts.format) s.parts.processes ks s.parts.edges p q kind)) same free in
    said_taken s t (edge_line p q kind) next here (edge_sound s p q kind sound here)

-- the head, and the last line
pub head_taken : (s t : State) (format : Format) → t ≡ record { parts = nothing format; group = among_roles } → IsSaidTaken s (head_line format) t
head_taken s t format next = said_taken s t (head_line format) next (record { free = λ cause h. h }) (head_sound s format)

pub done_taken : (s t : State) → t ≡ record { parts = s.parts; group = after_done } → IsSoundState s → IsSaidTaken s done_line t
done_taken s t next sound = said_taken s t done_line next (record { free = λ cause h. h }) (done_sound s sound)

-- the end of a role, of which these are the sets
pub role_ended : (v : Declared) (r : OpenParts) (more : PairsParts) (own : List SetParts) (sets : List (List SetParts)) → IsSoundState (record { parts = v; group = in_role r }) → 0 < length r.starts → IsFree (RoleEndStands r.locals r.arcs) → more ≡ record { roles = v.roles ++ role_of r ∷ []; kinds = v.kinds } → own ≡ r.sets → sets ≡ v.sets ++ own ∷ []
    → IsSaidTaken (record { parts = v; group = in_role r }) end_line (record { parts = record { format = v.format; roles = more.roles; sets = sets; kinds = more.kinds; processes = v.processes; edges = v.edges }; group = among_roles })
role_ended v r more own sets sound begins free grown own_is sets_are =
    let left = sets_are ∙ ap (λ own. v.sets ++ own ∷ []) own_is in
    said_taken (record { parts = v; group = in_role r }) _ end_line
    (ap (λ (p : PairsParts). record { parts = record { format = v.format; roles = p.roles; sets = sets; kinds = p.kinds; processes = v.processes; edges = v.edges }; group = among_roles }) grown
    ∙ ap (λ sets. record { parts = record { format = v.format; roles = v.roles ++ role_of r ∷ []; sets = sets; kinds = v.kinds; processes = v.processes; edges = v.edges }; group = among_roles }) left)
    free (end_sound v (in_role r) sound begins)

abbrev pub with_clauses : List ℕ → ℕ → ℕ → List Form → PairSpec
with_clauses name a b forms = record { name = name; role_a = a; role_b = b; clauses = forms }

-- the end of a kind, whose clauses are held otherwise
pub kind_ended : (v : Declared) (k made : PairSpec) (more : PairsParts) → made ≡ k → IsSoundState (record { parts = v; group = in_kind k }) → IsFree (KindEndStands v.roles made) → more ≡ record { roles = v.roles; kinds = v.kinds ++ made ∷ [] }
    → IsSaidTaken (record { parts = v; group = in_kind k }) end_line (record { parts = record { format = v.format; roles = more.roles; sets = v.sets; kinds = more.kinds; processes = v.processes; edges = v.edges }; group = among_kinds })
kind_ended v k made more same sound free grown =
    let here : IsFree (KindEndStands v.roles k) = subst (λ k. IsFree (KindEndStands v.roles k)) same free in
    let ends = grown ∙ ap (λ k. record { roles = v.roles; kinds = v.kinds ++ k ∷ [] }) same in
    said_taken (record { parts = v; group = in_kind k }) _ end_line
    (ap (λ (p : PairsParts). record { parts = record { format = v.format; roles = p.roles; sets = v.sets; kinds = p.kinds; processes = v.processes; edges = v.edges }; group = among_kinds }) ends) here (end_sound v (in_kind k) sound tt)

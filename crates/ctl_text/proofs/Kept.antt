-- What a line that is taken keeps.
use Rattle.std.proofs.Common.{ℕ, zero, suc, ◌≡◌, ◌≢◌, ◌<◌, ◌≤◌, ◌+◌, ◌⊎◌, inl, inr, Bool, true, false, Option, List, [], ◌∷◌, ◌++◌, length, get_or, Any, Contains, ◌==◌, refl, sym, ap, ◌∙◌, arith, length-append}
use Rattle.std.proofs.lemmas.List.{get_or_default, length-map}
use Rattle.std.proofs.lemmas.List.Elements.{All-push}
use Rattle.std.proofs.lemmas.List.Quantifiers.{all_pairs_push}
use Rattle.std.proofs.lemmas.List.Folds.{Any-from_list_any, list_any-from_Any}
use Rattle.std.proofs.lemmas.Bool.{cases_lt, eq-eqb, eqb-true}
use Rattle.std.specs.List.{list_any}
use Rattle.pair_structure.specs.declared.limits.TheConstants.{MAX_ARCS, MAX_LOCALS}
use Rattle.interconnection.specs.declared.limits.TheConstants.{MAX_KINDS, MAX_NEIGHBOURS, MAX_PROCESSES, MAX_ROLES}
use Rattle.pair_structure.specs.declared.side.LocalArc.{LocalArc}
use Rattle.pair_structure.specs.Parts.{role_at}
use Rattle.pair_structure.specs.Role.{RoleParts, JoinsTwo, IsRole, HasArcFrom}
use Rattle.ctl_form.specs.declared.pair_spec.PairSpec.{PairSpec}
use Rattle.interconnection.specs.declared.parts.Edge.{Edge}
use Rattle.interconnection.specs.declared.parts.Process.{Process}
use Rattle.interconnection.specs.Graph.{degree_of}
use Rattle.text_cause.specs.declared.cause.TextCause.TheVariants.{UnknownName, Twice, SelfArc, NoArc, TooMany, NotAStart}
use Rattle.text_cause.specs.Cause.{IsFree}
use Rattle.ctl_text.specs.inside.LineCause.{NameStands, StartStands, ArcStands, KindStands, ProcessStands, EdgeStands, RoleEndStands}
use Rattle.ctl_text.specs.Value.{Declared, number_in, role_names, role_named, kind_names, kind_ends, process_names}
use Rattle.ctl_text.specs.declared.format.Format.{Format}
use Rattle.ctl_text.specs.declared.format.Format.TheVariants.{First, Second}
use Rattle.ctl_text.specs.Format.{most_neighbours, most_processes}
use Rattle.ctl_text.specs.inside.Sound.{AreLocals, AreStarts, AreArcs, HasStart, HasItsRoles, IsSound, IsSoundRole, IsSoundState, open_kinds, open_roles}
use Rattle.ctl_text.specs.Item.{head_line, role_line, end_line, process_line, edge_line, done_line}
use Rattle.ctl_text.specs.State.{OpenParts, role_of, nothing, State, Group, in_role, in_kind, among_processes, before_head, among_roles, among_kinds, among_edges, after_done, MayStand, opened_kind, process_in, after_line}
use Rattle.ctl_text.proofs.EdgeFits.{edge_named, edge_fits}
use Rattle.ctl_text.proofs.GraphKept.{none_declared, role_grown, kind_more, process_grown, edge_grown, degree_grown}
use Rattle.ctl_text.proofs.Named.{Contains-not_not, named_at, number_within}
use Rattle.ctl_text.proofs.StartNames.{begins_in}

not_over : (n m : ℕ) → (m ≤ n → ⊥) → n < m
not_over n m not_le = elim (cases_lt n m) [ inl lt ↦ lt | inr le ↦ absurd (not_le le) ]

pub locals_more : (names : List (List ℕ)) (name : List ℕ) → AreLocals names → IsFree (NameStands names MAX_LOCALS name) → AreLocals (names ++ name ∷ [])
locals_more names name sound free = record {
  few_locals = (let few = not_over (length names) MAX_LOCALS (λ h. free.free (TooMany MAX_LOCALS) (inr (refl, h))) in omega (arith, length-append names (name ∷ [])));
  names_differ = all_pairs_push (λ x y. x ≢ y) names name sound.names_differ (λ k d lt same. free.free Twice (inl (refl, (k, lt, get_or_default names k name d lt ∙ same))));
}

pub starts_more : (names : List (List ℕ)) (starts : List ℕ) (name : List ℕ) (start : ℕ) → AreStarts (length names) starts → IsFree (StartStands names starts name) → start ≡ number_in names name → AreStarts (length names) (starts ++ start ∷ [])
starts_more names starts name start sound free is =
    let there = Contains-not_not names name (λ h. free.free UnknownName (inl (refl, h))) in record {
      within = All-push (λ start. start < length names) starts start sound.within (rw is (number_within names name there));
      starts_differ = all_pairs_push (λ x y. x ≢ y) starts start sound.starts_differ (λ k d lt same. free.free Twice (inr (refl, (k, lt, get_or_default starts k (number_in names name) d lt ∙ same ∙ is))));
    }

-- what is among so many local states is among more
starts_wider : (n m : ℕ) (starts : List ℕ) → n ≤ m → AreStarts n starts → AreStarts m starts
starts_wider n m starts le h = record { within = λ k d lt. (let below = h.within k d lt in omega (arith, below, le)); starts_differ = h.starts_differ }

arc_wider : (n m : ℕ) (arc : LocalArc) → n ≤ m → JoinsTwo n arc → JoinsTwo m arc
arc_wider n m arc le h = record { from = (let below = h.from in omega (arith, below, le)); to = (let below = h.to in omega (arith, below, le)); differ = h.differ }

arcs_wider : (n m : ℕ) (made : List LocalArc) → n ≤ m → AreArcs n made → AreArcs m made
arcs_wider n m made le h = record { few_arcs = h.few_arcs; joins = λ k d lt. arc_wider n m (get_or made k d) le (h.joins k d lt); ends_differ = h.ends_differ }

-- an open role with one more local state
pub local_sound : (r : OpenParts) (name : List ℕ) → IsSoundRole r → IsFree (NameStands r.locals MAX_LOCALS name) → IsSoundRole (record r { locals = r.locals ++ name ∷ [] })
local_sound r name sound free =
    let le : length r.locals ≤ length (r.locals ++ name ∷ []) = omega (arith, length-append r.locals (name ∷ [])) in record {
      locals = locals_more r.locals name sound.locals free;
      starts = starts_wider (length r.locals) (length (r.locals ++ name ∷ [])) r.starts le sound.starts;
      arcs = arcs_wider (length r.locals) (length (r.locals ++ name ∷ [])) r.arcs le sound.arcs;
    }

pub arcs_more : (names : List (List ℕ)) (made : List LocalArc) (p q : List ℕ) (arc : LocalArc) → AreArcs (length names) made → IsFree (ArcStands names made p q)
    → arc.from ≡ number_in names p → arc.to ≡ number_in names q → AreArcs (length names) (made ++ arc ∷ [])
arcs_more names made p q arc sound free from to =
    let p_there = Contains-not_not names p (λ h. free.free UnknownName (inl (refl, h))) in
    let q_there = Contains-not_not names q (λ h. free.free UnknownName (inr (inl (refl, h)))) in
    let p_is = named_at names p p_there in
    let q_is = named_at names q q_there in
    let from_in : arc.from < length names = rw from (number_within names p p_there) in
    let to_in : arc.to < length names = rw to (number_within names q q_there) in record {
      few_arcs = (let few = not_over (length made) MAX_ARCS (λ h. free.free (TooMany MAX_ARCS) (inr (inr (inr (inr (refl, h)))))) in omega (arith, length-append made (arc ∷ [])));
      joins = All-push (JoinsTwo (length names)) made arc sound.joins (record { from = from_in; to = to_in; differ = λ same. free.free SelfArc (inr (inr (inr (inl (refl, (let n : number_in names p ≡ number_in names q = cc in sym p_is ∙ ap (λ n. get_or names n []) n ∙ q_is)))))) });
      ends_differ = all_pairs_push (λ (x y : LocalArc). x.from ≡ y.from → x.to ≡ y.to → ⊥) made arc sound.ends_differ
          (λ k d lt f t. free.free Twice (inr (inr (inl (refl, (k, get_or made k d, lt, get_or_default made k (get_or made k d) d lt, (f ∙ from, t ∙ to)))))));
    }

any_left : (made : List LocalArc) (p : ℕ) → (HasArcFrom made p → ⊥) ⊎ HasArcFrom made p
any_left made p = from (list_any (λ (a : LocalArc). a.from == p) made) refl
  where
    found : Any (λ (a : LocalArc). (a.from == p) ≡ true) made → HasArcFrom made p
    found (i, x, lt, is, e) = (i, x, lt, is, eqb-true x.from p e)

    tested : HasArcFrom made p → Any (λ (a : LocalArc). (a.from == p) ≡ true) made
    tested (i, x, lt, is, e) = (i, x, lt, is, eq-eqb x.from p e)

    from : (t : Bool) → list_any (λ (a : LocalArc). a.from == p) made ≡ t → (HasArcFrom made p → ⊥) ⊎ HasArcFrom made p
    from true e = inr (found (Any-from_list_any (λ (a : LocalArc). a.from == p) made e))
    from false e = inl (λ any. let h = list_any-from_Any (λ (a : LocalArc). a.from == p) made (tested any) in cc)

-- where no local state is the first that no arc leaves, one leaves each
all_left : (names : List (List ℕ)) (made : List LocalArc) → IsFree (RoleEndStands names made) → (n : ℕ) → n ≤ length names → (k : ℕ) → k < n → HasArcFrom made k
all_left names made free zero le k k_lt = absurd (omega arith)
all_left names made free (suc n) le k k_lt =
    let before = all_left names made free n (omega arith) in
    elim (cases_lt k n) [
      | inl below ↦ before k below
      | inr above ↦ elim (any_left made k) [
        | inr left ↦ left
        | inl stuck ↦ absurd (free.free (NoArc k) (k, refl, record { within = omega arith; stuck = stuck; before = λ j j_lt. before j (omega arith) }))
      ]
    ]

pub role_made : (r : OpenParts) → IsSoundRole r → 0 < length r.starts → IsFree (RoleEndStands r.locals r.arcs) → IsRole (role_of r)
role_made r sound begins free = record {
  some = (let first = sound.starts.within 0 0 begins in omega (arith, first));
  few_locals = sound.locals.few_locals;
  names_differ = sound.locals.names_differ;
  begins = begins;
  starts_within = sound.starts.within;
  starts_differ = sound.starts.starts_differ;
  few_arcs = sound.arcs.few_arcs;
  joins = sound.arcs.joins;
  ends_differ = sound.arcs.ends_differ;
  leaves = all_left r.locals r.arcs free (length r.locals) (omega arith);
}

-- there is room for one more
pub role_room : (roles : List RoleParts) (name : List ℕ) → IsFree (NameStands (role_names roles) MAX_ROLES name) → length roles + 1 ≤ MAX_ROLES
role_room roles name free = let few = not_over (length (role_names roles)) MAX_ROLES (λ h. free.free (TooMany MAX_ROLES) (inr (refl, h))) in omega (arith, length-map roles (λ (r : RoleParts). r.name))

pub kind_room : (roles : List RoleParts) (kinds : List PairSpec) (name a b : List ℕ) → IsFree (KindStands roles kinds name a b) → length kinds + 1 ≤ MAX_KINDS
kind_room roles kinds name a b free = let few = not_over (length (kind_names kinds)) MAX_KINDS (λ h. free.free (TooMany MAX_KINDS) (inr (inr (inr (refl, h))))) in omega (arith, length-map kinds (λ (k : PairSpec). k.name))

pub process_room : (most : ℕ) (roles : List RoleParts) (processes : List Process) (name r : List ℕ) (start : Option (List ℕ)) → IsFree (ProcessStands most roles processes name r start) → length processes + 1 ≤ most
process_room most roles processes name r start free =
    let few = not_over (length (process_names processes)) most (λ h. free.free (TooMany most) (inr (inr (inl (inr (refl, h)))))) in omega (arith, length-map processes (λ (p : Process). p.name))

none_sound : (format : Format) (name : List ℕ) → IsSoundRole (record { format = format; name = name; locals = []; starts = []; sets = []; arcs = [] })
none_sound format name = record {
  locals = record { few_locals = omega arith; names_differ = λ i j d lt within. absurd (omega arith) };
  starts = record { within = λ k d lt. absurd (omega arith); starts_differ = λ i j d lt within. absurd (omega arith) };
  arcs = record { few_arcs = omega arith; joins = λ k d lt. absurd (omega arith); ends_differ = λ i j d lt within. absurd (omega arith) };
}

-- a format has no more than a network may have
processes_few : (format : Format) → most_processes format ≤ MAX_PROCESSES
processes_few First = omega arith
processes_few Second = omega arith

neighbours_few : (format : Format) → most_neighbours format ≤ MAX_NEIGHBOURS
neighbours_few First = omega arith
neighbours_few Second = omega arith

pub few_beside : (format : Format) (edges : List Edge) → ((k : ℕ) → degree_of edges k ≤ most_neighbours format) → (k : ℕ) → degree_of edges k ≤ MAX_NEIGHBOURS
few_beside format edges few k = let le = few k in let all = neighbours_few format in omega (arith, le, all)

-- nothing is declared
pub nothing_sound : (format : Format) (g : Group) → open_roles g ≡ 0 → open_kinds g ≡ 0 → IsSound g → HasItsRoles [] g → IsSoundState (record { parts = nothing format; group = g })
nothing_sound format g no_role no_kind sound roles = record {
  few_roles = omega (arith, no_role);
  starts = λ k d lt. absurd (omega arith);
  few_kinds = omega (arith, no_kind);
  few_processes = omega arith;
  group = sound;
  kind_roles = roles;
  network = none_declared;
  few_edges = λ k. omega arith;
}

-- the head, or the last line
pub head_sound : (s : State) (format : Format) → IsSoundState (after_line s (head_line format))
head_sound s format = nothing_sound format among_roles refl refl tt tt

pub done_sound : (s : State) → IsSoundState s → IsSoundState (after_line s done_line)
done_sound s h = record {
  few_roles = (let few = h.few_roles in omega arith);
  starts = h.starts;
  few_kinds = (let few = h.few_kinds in omega arith);
  few_processes = h.few_processes;
  group = tt;
  kind_roles = tt;
  network = h.network;
  few_edges = h.few_edges;
}

-- a role is opened
pub role_opens : (s : State) (name : List ℕ) → IsSoundState s → IsFree (NameStands (role_names s.parts.roles) MAX_ROLES name) → IsSoundState (after_line s (role_line name))
role_opens s name sound free = record {
  few_roles = role_room s.parts.roles name free;
  starts = sound.starts;
  few_kinds = (let h = sound.few_kinds in omega arith);
  few_processes = sound.few_processes;
  group = none_sound s.parts.format name;
  kind_roles = tt;
  network = sound.network;
  few_edges = sound.few_edges;
}

pub role_within : (roles : List RoleParts) (name : List ℕ) → Contains (role_names roles) name → number_in (role_names roles) name < length roles
role_within roles name there = let lt = number_within (role_names roles) name there in omega (arith, length-map roles (λ (r : RoleParts). r.name))

-- a kind is opened
pub kind_opens : (s : State) (name a b : List ℕ) → IsSoundState s → IsFree (KindStands s.parts.roles s.parts.kinds name a b) → IsSoundState (record { parts = s.parts; group = opened_kind s.parts.roles name a b })
kind_opens s name a b sound free = record {
  few_roles = (let h = sound.few_roles in omega arith);
  starts = sound.starts;
  few_kinds = kind_room s.parts.roles s.parts.kinds name a b free;
  few_processes = sound.few_processes;
  group = tt;
  kind_roles = (role_within s.parts.roles a (Contains-not_not (role_names s.parts.roles) a (λ h. free.free UnknownName (inl (refl, h)))), role_within s.parts.roles b (Contains-not_not (role_names s.parts.roles) b (λ h. free.free UnknownName (inr (inl (refl, h))))));
  network = sound.network;
  few_edges = sound.few_edges;
}

-- the open role or kind is declared
pub end_sound : (v : Declared) (g : Group) → IsSoundState (record { parts = v; group = g }) → MayStand g end_line → IsSoundState (after_line (record { parts = v; group = g }) end_line)
end_sound v (in_role r) sound may = record {
  few_roles = (let h = sound.few_roles in omega (arith, length-append v.roles (role_of r ∷ [])));
  starts = All-push HasStart v.roles (role_of r) sound.starts may;
  few_kinds = sound.few_kinds;
  few_processes = sound.few_processes;
  group = tt;
  kind_roles = tt;
  network = role_grown v.roles (role_of r) (kind_ends v.kinds) v.processes v.edges sound.network sound.few_roles;
  few_edges = sound.few_edges;
}
end_sound v (in_kind k) sound may = record {
  few_roles = sound.few_roles;
  starts = sound.starts;
  few_kinds = (let h = sound.few_kinds in omega (arith, length-append v.kinds (k ∷ [])));
  few_processes = sound.few_processes;
  group = tt;
  kind_roles = tt;
  network = kind_more v.roles v.kinds k v.processes v.edges sound.network sound.few_kinds sound.kind_roles;
  few_edges = sound.few_edges;
}
end_sound v before_head sound may = absurd may
end_sound v among_roles sound may = absurd may
end_sound v among_kinds sound may = absurd may
end_sound v among_processes sound may = absurd may
end_sound v among_edges sound may = absurd may
end_sound v after_done sound may = absurd may

-- a process is declared
pub process_sound : (s : State) (name r : List ℕ) (start : Option (List ℕ)) → IsSoundState s → IsFree (ProcessStands (most_processes s.parts.format) s.parts.roles s.parts.processes name r start) → IsSoundState (after_line s (process_line name r start))
process_sound s name r start sound free =
    let process = process_in s.parts.roles name r start in
    let room = process_room (most_processes s.parts.format) s.parts.roles s.parts.processes name r start free in
    let within = role_within s.parts.roles r (Contains-not_not (role_names s.parts.roles) r (λ h. free.free UnknownName (inl (refl, h)))) in
    let begins = begins_in (role_named s.parts.roles r) start (sound.starts process.role (role_at [] 0) within) (λ h. free.free UnknownName (inr (inl (refl, h)))) (λ h. free.free NotAStart (inr (inr (inr (refl, h))))) in record {
      few_roles = (let h = sound.few_roles in omega arith);
      starts = sound.starts;
      few_kinds = (let h = sound.few_kinds in omega arith);
      few_processes = omega (arith, room, length-append s.parts.processes (process ∷ []));
      group = tt;
      kind_roles = tt;
      network = process_grown s.parts.roles (kind_ends s.parts.kinds) s.parts.processes process s.parts.edges sound.network (let all = processes_few s.parts.format in omega (arith, room, all)) within begins (few_beside s.parts.format s.parts.edges sound.few_edges);
      few_edges = sound.few_edges;
    }

-- an edge is declared
pub edge_sound : (s : State) (p q kind : List ℕ) → IsSoundState s → IsFree (EdgeStands (most_neighbours s.parts.format) s.parts.processes s.parts.kinds s.parts.edges p q kind) → IsSoundState (after_line s (edge_line p q kind))
edge_sound s p q kind sound free =
    let most = most_neighbours s.parts.format in
    let fits = edge_fits most s.parts.processes s.parts.kinds s.parts.edges p q kind free in record {
      few_roles = (let h = sound.few_roles in omega arith);
      starts = sound.starts;
      few_kinds = (let h = sound.few_kinds in omega arith);
      few_processes = sound.few_processes;
      group = tt;
      kind_roles = tt;
      network = edge_grown most s.parts.roles (kind_ends s.parts.kinds) s.parts.processes s.parts.edges (edge_named s.parts.processes s.parts.kinds p q kind) (neighbours_few s.parts.format) sound.network fits.within fits.differ fits.fresh fits.roles fits.room sound.few_edges;
      few_edges = λ k. degree_grown most s.parts.edges (edge_named s.parts.processes s.parts.kinds p q kind) k fits.room (sound.few_edges k);
    }

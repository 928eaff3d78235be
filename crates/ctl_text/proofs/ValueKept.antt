-- Each value that bytes are a text of is sound: what the lines so far declare is, and each line that is taken keeps it so.
use Rattle.std.proofs.Common.{ℕ, ◌≡◌, ◌≢◌, ◌<◌, inl, inr, Bool, true, false, Option, List, [], ◌∷◌, ◌++◌, length, get_or, map, All, Contains, refl, sym, ◌∙◌, subst, arith, length-append}
use Rattle.std.proofs.lemmas.List.{get_or_default, map-append}
use Rattle.std.proofs.lemmas.List.Elements.{All-push}
use Rattle.std.proofs.lemmas.List.Quantifiers.{all_pairs_push}
use Rattle.pair_structure.specs.Parts.{role_at}
use Rattle.pair_structure.specs.Name.{IsName}
use Rattle.pair_structure.specs.Role.{RoleParts}
use Rattle.ctl_form.specs.declared.pair_spec.PairSpec.{PairSpec}
use Rattle.ctl_form.specs.Form.{Form}
use Rattle.interconnection.specs.declared.parts.Process.{Process}
use Rattle.text_cause.specs.declared.cause.TextCause.TheVariants.{Long, UnknownName, Twice, ClosureOver}
use Rattle.formula_text.specs.Canonical.{AreNames}
use Rattle.text_cause.specs.Cause.{IsFree}
use Rattle.ctl_text.specs.Cause.{IsClauseSpelled, IsLongIn, IsLongLine, Takes}
use Rattle.ctl_text.specs.inside.LineCause.{LineBlocks, ProcessStands}
use Rattle.ctl_text.specs.Item.{Said, head_line, role_line, local_line, start_line, set_line, arc_line, kind_line, require_line, end_line, process_line, edge_line, done_line, words_for, IsSpelled}
use Rattle.ctl_text.specs.Lines.{lines_of}
use Rattle.formula_text.specs.Long.{IsLong}
use Rattle.formula_text.specs.Sets.{Atoms}
use Rattle.ctl_text.specs.declared.format.Format.{Format}
use Rattle.ctl_text.specs.declared.format.Format.TheVariants.{First}
use Rattle.ctl_text.specs.Format.{most_processes}
use Rattle.ctl_text.specs.Required.{tokens_in, SpellsOver, AreKnownOver, IsClosureOver}
use Rattle.ctl_text.specs.inside.Sound.{IsSoundState}
use Rattle.ctl_text.specs.SoundValue.{Differ, IsNamedRole, IsReadable, IsNamedKind, IsNamedProcess, IsOverRoles, IsSoundValue}
use Rattle.ctl_text.specs.State.{role_of, nothing, Group, before_head, in_role, in_kind, State, first_state, MayStand, after_line, arc_in, process_in}
use Rattle.text_cause.specs.Grammar.{StandsFor}
use Rattle.ctl_text.specs.Text.{specifications, IsSpecText}
use Rattle.ctl_text.specs.Value.{SpecParts, Declared, atoms_at, role_names, kind_names, process_names, number_in}
use Rattle.formula_text.proofs.ClausesOver.{spelled_over}
use Rattle.ctl_text.proofs.ByCause.{free_by_line}
use Rattle.ctl_text.proofs.Kept.{local_sound, starts_more, arcs_more, role_made, few_beside, nothing_sound, head_sound, done_sound, role_opens, kind_opens, end_sound, process_sound, edge_sound, role_within}
use Rattle.ctl_text.proofs.KindsAgain.{role_named}
use Rattle.ctl_text.proofs.Named.{Contains-not_not}
use Rattle.ctl_text.proofs.NormalsKept.{same_role}
use Rattle.formula_text.proofs.RoleNames.{names_of_role}
use Rattle.formula_text.proofs.Weights.{canonical_short}

abbrev At : Declared → Group → State
At v g = record { parts = v; group = g }

-- the names of an open role or kind are names, its own is new, and its clauses are readable
abbrev IsOpen : Declared → Group → Type 0
IsOpen v (in_role r) = IsName r.name × (Contains (role_names v.roles) r.name → ⊥) × All IsName r.locals
IsOpen v (in_kind k) = IsName k.name × (Contains (kind_names v.kinds) k.name → ⊥) × All (IsReadable (role_at v.roles k.role_a).locals (role_at v.roles k.role_b).locals) k.clauses
IsOpen v g = Unit {0}

-- what is declared, with names that are names
record IsNamed (v : Declared) : Type 0 where
  roles : All IsNamedRole v.roles
  roles_differ : Differ (role_names v.roles)
  kinds : All (IsNamedKind v.roles) v.kinds
  kinds_differ : Differ (kind_names v.kinds)
  processes : All (IsNamedProcess (length v.roles)) v.processes
  processes_differ : Differ (process_names v.processes)

record Keeps (v : Declared) (g : Group) : Type 0 where
  state : IsSoundState (At v g)
  named : IsNamed v
  opened : IsOpen v g

nothing_named : (format : Format) → IsNamed (nothing format)
nothing_named format = record {
  roles = λ k d lt. absurd (omega arith);
  roles_differ = λ i j d lt within. absurd (omega arith);
  kinds = λ k d lt. absurd (omega arith);
  kinds_differ = λ i j d lt within. absurd (omega arith);
  processes = λ k d lt. absurd (omega arith);
  processes_differ = λ i j d lt within. absurd (omega arith);
}

none_named : All IsName []
none_named = λ k d lt. absurd (omega arith)

-- one more name that is new
differ_more : (names : List (List ℕ)) (name : List ℕ) → Differ names → (Contains names name → ⊥) → Differ (names ++ name ∷ [])
differ_more names name differ fresh = all_pairs_push (λ x y. x ≢ y) names name differ (λ k d lt same. fresh (k, lt, get_or_default names k name d lt ∙ same))

local_kept : (v : Declared) (g : Group) (n : List ℕ) → Keeps v g → MayStand g (local_line n) → IsFree (LineBlocks (At v g) (local_line n)) → IsName n → Keeps (after_line (At v g) (local_line n)).parts (after_line (At v g) (local_line n)).group
local_kept v (in_role r) n h may free spelled = record {
  state = record {
    few_roles = h.state.few_roles;
    starts = h.state.starts;
    few_kinds = h.state.few_kinds;
    few_processes = h.state.few_processes;
    group = local_sound r n h.state.group free;
    kind_roles = tt;
    network = h.state.network;
    few_edges = h.state.few_edges;
  };
  named = h.named;
  opened = (h.opened.0, h.opened.1, All-push IsName r.locals n h.opened.2 spelled);
}
local_kept v g n h may free spelled = absurd may

start_kept : (v : Declared) (g : Group) (n : List ℕ) → Keeps v g → MayStand g (start_line n) → IsFree (LineBlocks (At v g) (start_line n)) → Keeps (after_line (At v g) (start_line n)).parts (after_line (At v g) (start_line n)).group
start_kept v (in_role r) n h may free = record {
  state = record {
    few_roles = h.state.few_roles;
    starts = h.state.starts;
    few_kinds = h.state.few_kinds;
    few_processes = h.state.few_processes;
    group = record { locals = h.state.group.locals; starts = starts_more r.locals r.starts n (number_in r.locals n) h.state.group.starts free refl; arcs = h.state.group.arcs };
    kind_roles = tt;
    network = h.state.network;
    few_edges = h.state.few_edges;
  };
  named = h.named;
  opened = h.opened;
}
start_kept v g n h may free = absurd may

set_kept : (v : Declared) (g : Group) (n : List ℕ) (members : List (List ℕ)) → Keeps v g → MayStand g (set_line n members) → Keeps (after_line (At v g) (set_line n members)).parts (after_line (At v g) (set_line n members)).group
set_kept v (in_role r) n members h may = record {
  state = record {
    few_roles = h.state.few_roles;
    starts = h.state.starts;
    few_kinds = h.state.few_kinds;
    few_processes = h.state.few_processes;
    group = record { locals = h.state.group.locals; starts = h.state.group.starts; arcs = h.state.group.arcs };
    kind_roles = tt;
    network = h.state.network;
    few_edges = h.state.few_edges;
  };
  named = h.named;
  opened = h.opened;
}
set_kept v g n members h may = absurd may

arc_kept : (v : Declared) (g : Group) (p q : List ℕ) (f : Bool) → Keeps v g → MayStand g (arc_line p q f) → IsFree (LineBlocks (At v g) (arc_line p q f)) → Keeps (after_line (At v g) (arc_line p q f)).parts (after_line (At v g) (arc_line p q f)).group
arc_kept v (in_role r) p q f h may free = record {
  state = record {
    few_roles = h.state.few_roles;
    starts = h.state.starts;
    few_kinds = h.state.few_kinds;
    few_processes = h.state.few_processes;
    group = record { locals = h.state.group.locals; starts = h.state.group.starts; arcs = arcs_more r.locals r.arcs p q (arc_in r.locals p q f) h.state.group.arcs free refl refl };
    kind_roles = tt;
    network = h.state.network;
    few_edges = h.state.few_edges;
  };
  named = h.named;
  opened = h.opened;
}
arc_kept v g p q f h may free = absurd may

-- a clause that is taken is over the two roles' local states, and so short that its canonical text is taken too
readable : (a b : Atoms) (words : List (List ℕ)) (form : Form) → AreNames a.locals → AreNames b.locals → SpellsOver a b (tokens_in words) form → AreKnownOver a b (tokens_in words) → (IsLong a.sets b.sets (tokens_in words) → ⊥) → IsReadable a.locals b.locals form
readable a b words form na nb spells known short =
    let over = spelled_over a b (tokens_in words) form spells known in
    record { over = over; short = canonical_short a b (tokens_in words) form na nb over spells short }

true_or_not : (t : Bool) → ((t ≡ true → ⊥) → ⊥) → t ≡ true
true_or_not true not_not = refl
true_or_not false not_not = absurd (not_not (λ e. cc))

role_names_of : (v : Declared) (k : ℕ) → IsNamed v → k < length v.roles → AreNames (role_at v.roles k).locals
role_names_of v k named lt = let r = role_named v.roles k named.roles lt in names_of_role (role_at v.roles k).locals (λ i within. r.locals i [] within) r.role.names_differ

clause_kept : (v : Declared) (g : Group) (words : List (List ℕ)) (form : Form) → Keeps v g → MayStand g (require_line words form) → IsFree (LineBlocks (At v g) (require_line words form)) → IsClauseSpelled (require_line words form) v g → (IsLongIn v g (tokens_in words) → ⊥)
    → Keeps (after_line (At v g) (require_line words form)).parts (after_line (At v g) (require_line words form)).group
clause_kept v (in_kind k) words form h may free spells short = record {
  state = record {
    few_roles = h.state.few_roles;
    starts = h.state.starts;
    few_kinds = h.state.few_kinds;
    few_processes = h.state.few_processes;
    group = tt;
    kind_roles = h.state.kind_roles;
    network = h.state.network;
    few_edges = h.state.few_edges;
  };
  named = h.named;
  opened = (
    h.opened.0,
    h.opened.1,
    All-push (IsReadable (role_at v.roles k.role_a).locals (role_at v.roles k.role_b).locals) k.clauses form h.opened.2
        (readable (atoms_at v k.role_a) (atoms_at v k.role_b) words form (role_names_of v k.role_a h.named h.state.kind_roles.0) (role_names_of v k.role_b h.named h.state.kind_roles.1) spells
        (true_or_not _ (λ unknown. free.free UnknownName (refl, unknown))) short),
  );
}
clause_kept v g words form h may free spells short = absurd may

-- a kind over two roles is over them where one more is declared
kind_wider : (roles : List RoleParts) (r : RoleParts) (k : PairSpec) → IsNamedKind roles k → IsNamedKind (roles ++ r ∷ []) k
kind_wider roles r k h =
    let a = same_role roles r k.role_a h.role_a in let b = same_role roles r k.role_b h.role_b in record {
      name = h.name;
      role_a = (let lt = h.role_a in omega (arith, lt, length-append roles (r ∷ [])));
      role_b = (let lt = h.role_b in omega (arith, lt, length-append roles (r ∷ [])));
      clauses = subst (λ x. All (IsReadable x.locals (role_at (roles ++ r ∷ []) k.role_b).locals) k.clauses) a (subst (λ y. All (IsReadable (role_at roles k.role_a).locals y.locals) k.clauses) b h.clauses);
      closure = λ over. h.closure (subst (λ x. IsClosureOver x (role_at roles k.role_b) k.clauses) (sym a) (subst (λ y. IsClosureOver (role_at (roles ++ r ∷ []) k.role_a) y k.clauses) (sym b) over));
    }

names_more : {X : Type 0} (f : X → List ℕ) (xs : List X) (x : X) → Differ (map f xs) → (Contains (map f xs) (f x) → ⊥) → Differ (map f (xs ++ x ∷ []))
names_more f xs x differ fresh = subst Differ (sym (map-append f xs (x ∷ []))) (differ_more (map f xs) (f x) differ fresh)

end_kept : (v : Declared) (g : Group) → Keeps v g → MayStand g end_line → IsFree (LineBlocks (At v g) end_line) → Keeps (after_line (At v g) end_line).parts (after_line (At v g) end_line).group
end_kept v (in_role r) h may free =
    let role : IsNamedRole (role_of r) = record { name = h.opened.0; locals = h.opened.2; role = role_made r h.state.group may free } in record {
      state = end_sound v (in_role r) h.state may;
      named = record {
        roles = All-push IsNamedRole v.roles (role_of r) h.named.roles role;
        roles_differ = names_more (λ (r : RoleParts). r.name) v.roles (role_of r) h.named.roles_differ h.opened.1;
        kinds = λ k d lt. kind_wider v.roles (role_of r) (get_or v.kinds k d) (h.named.kinds k d lt);
        kinds_differ = h.named.kinds_differ;
        processes = λ k d lt. let p = h.named.processes k d lt in record { name = p.name; role = (let within = p.role in omega (arith, within, length-append v.roles (role_of r ∷ []))) };
        processes_differ = h.named.processes_differ;
      };
      opened = tt;
    }
end_kept v (in_kind k) h may free =
    let kind : IsNamedKind v.roles k = record { name = h.opened.0; role_a = h.state.kind_roles.0; role_b = h.state.kind_roles.1; clauses = h.opened.2; closure = λ over. free.free ClosureOver (refl, over) } in record {
      state = end_sound v (in_kind k) h.state may;
      named = record {
        roles = h.named.roles;
        roles_differ = h.named.roles_differ;
        kinds = All-push (IsNamedKind v.roles) v.kinds k h.named.kinds kind;
        kinds_differ = names_more (λ (k : PairSpec). k.name) v.kinds k h.named.kinds_differ h.opened.1;
        processes = h.named.processes;
        processes_differ = h.named.processes_differ;
      };
      opened = tt;
    }
end_kept v g h may free = absurd may

process_kept : (v : Declared) (g : Group) (name r : List ℕ) (start : Option (List ℕ)) → Keeps v g → IsFree (ProcessStands (most_processes v.format) v.roles v.processes name r start) → IsName name → Keeps (after_line (At v g) (process_line name r start)).parts (after_line (At v g) (process_line name r start)).group
process_kept v g name r start h free spelled =
    let p = process_in v.roles name r start in
    let within = role_within v.roles r (Contains-not_not (role_names v.roles) r (λ unknown. free.free UnknownName (inl (refl, unknown)))) in record {
      state = process_sound (At v g) name r start h.state free;
      named = record {
        roles = h.named.roles;
        roles_differ = h.named.roles_differ;
        kinds = h.named.kinds;
        kinds_differ = h.named.kinds_differ;
        processes = All-push (IsNamedProcess (length v.roles)) v.processes p h.named.processes (record { name = spelled; role = within });
        processes_differ = names_more (λ (p : Process). p.name) v.processes p h.named.processes_differ (λ there. free.free Twice (inr (inr (inl (inl (refl, there))))));
      };
      opened = tt;
    }

-- a line that may stand there, and that nothing stands against, keeps it so
said_kept : (v : Declared) (g : Group) (item : Said) → Keeps v g → MayStand g item → IsFree (LineBlocks (At v g) item) → IsSpelled item → IsClauseSpelled item v g → (IsLongLine (At v g) (words_for item) → ⊥) → Keeps (after_line (At v g) item).parts (after_line (At v g) item).group
said_kept v g (head_line format) h may free spelled spells short = record { state = head_sound (At v g) format; named = nothing_named format; opened = tt }
said_kept v g (role_line name) h may free spelled spells short =
    record { state = role_opens (At v g) name h.state free; named = h.named; opened = (spelled, λ there. free.free Twice (inl (refl, there)), none_named) }
said_kept v g (local_line n) h may free spelled spells short = local_kept v g n h may free spelled
said_kept v g (start_line n) h may free spelled spells short = start_kept v g n h may free
said_kept v g (set_line n members) h may free spelled spells short = set_kept v g n members h may
said_kept v g (arc_line p q f) h may free spelled spells short = arc_kept v g p q f h may free
said_kept v g (kind_line name a b) h may free spelled spells short =
    record { state = kind_opens (At v g) name a b h.state free; named = h.named; opened = (spelled.0, λ there. free.free Twice (inr (inr (inl (refl, there)))), λ k d lt. absurd (omega arith)) }
said_kept v g (require_line words form) h may free spelled spells short = clause_kept v g words form h may free spells (λ long. short (refl, long))
said_kept v g end_line h may free spelled spells short = end_kept v g h may free
said_kept v g (process_line name r start) h may free spelled spells short = process_kept v g name r start h free spelled.0
said_kept v g (edge_line p q kind) h may free spelled spells short = record {
  state = edge_sound (At v g) p q kind h.state free;
  named = record { roles = h.named.roles; roles_differ = h.named.roles_differ; kinds = h.named.kinds; kinds_differ = h.named.kinds_differ; processes = h.named.processes; processes_differ = h.named.processes_differ };
  opened = tt;
}
said_kept v g done_line h may free spelled spells short = record { state = done_sound (At v g) h.state; named = h.named; opened = tt }

abbrev KeepsIt : State → Type 0
KeepsIt s = Keeps s.parts s.group

taken : (s : State) (line : List ℕ) (t : State) → Takes s line t → KeepsIt s → KeepsIt t
taken s line t takes h = elim takes.leaves [
  | inl passed ↦ subst KeepsIt (sym passed.1) h
  | inr said ↦ (
      let item = said.1.0 in let may = said.1.1.may in
      subst KeepsIt (sym said.1.1.next) (said_kept s.parts s.group item h may.1 (free_by_line s item (record { free = λ cause blocks. takes.free.free cause (inr (said.0, inr (inr (inr (item, may, blocks))))) })) may.0.spelled may.2
      (λ long. takes.free.free Long (inr (said.0, inr (inl (refl, subst (IsLongLine s) (sym may.0.words_are) long))))))
      )
]

stand : (s : State) (lines : List (List ℕ)) (v : SpecParts) → StandsFor specifications s lines v → KeepsIt s → IsSoundValue v
stand s [] v gives h = subst IsSoundValue (sym gives.1) (record {
  roles = h.named.roles;
  roles_differ = h.named.roles_differ;
  kinds = h.named.kinds;
  kinds_differ = h.named.kinds_differ;
  processes = h.named.processes;
  processes_differ = h.named.processes_differ;
  network = h.state.network;
  few_beside = few_beside s.parts.format s.parts.edges h.state.few_edges;
})
stand s (line ∷ lines) v (t, takes, rest) h = stand t lines v rest (taken s line t takes h)

begun : KeepsIt first_state
begun = record { state = nothing_sound First before_head refl refl tt tt; named = nothing_named First; opened = tt }

pub text_sound : (bytes : List ℕ) (v : SpecParts) → IsSpecText bytes v → IsSoundValue v
text_sound bytes v text = stand first_state (lines_of bytes) v text begun

-- each kind of a sound value is over two of its roles
pub kinds_over : (v : SpecParts) → IsSoundValue v → All (IsOverRoles (length v.roles)) v.kinds
kinds_over v sound = λ i d lt. let k = sound.kinds i d lt in record { role_a = k.role_a; role_b = k.role_b }

-- An edge against which nothing stands fits the graph.
use Rattle.std.proofs.Common.{ℕ, ◌≡◌, ◌<◌, inl, inr, List, length, Contains, refl, sym, ap, ◌∙◌, arith}
use Rattle.std.proofs.lemmas.Bool.{cases_eq}
use Rattle.std.proofs.lemmas.List.{length-map}
use Rattle.ctl_form.specs.declared.pair_spec.PairSpec.{PairSpec}
use Rattle.interconnection.specs.declared.parts.Edge.{Edge}
use Rattle.interconnection.specs.declared.parts.Process.{Process}
use Rattle.interconnection.specs.Network.{HasRoles, IsInRange, JoinsTwo}
use Rattle.text_cause.specs.declared.cause.TextCause.TheVariants.{UnknownName, SelfEdge, EdgeTwice, DegreeOver, RoleMismatch}
use Rattle.ctl_text.specs.Value.{AreJoined, kind_ends, kind_names, process_names, number_in, kind_at, process_at}
use Rattle.text_cause.specs.Cause.{IsFree}
use Rattle.ctl_text.specs.Cause.{IsCrowded, AreOfKind}
use Rattle.ctl_text.specs.inside.LineCause.{EdgeStands}
use Rattle.ctl_text.proofs.Crowded.{none_crowded}
use Rattle.ctl_text.proofs.GraphKept.{ends_at}
use Rattle.ctl_text.proofs.Named.{Contains-not_not, number_within}

-- the edge between processes of these names, of the kind of this name
abbrev pub edge_named : List Process → List PairSpec → List ℕ → List ℕ → List ℕ → Edge
edge_named processes kinds p q kind = record { a = number_in (process_names processes) p; b = number_in (process_names processes) q; kind = number_in (kind_names kinds) kind }

pub record Fits (most : ℕ) (processes : List Process) (kinds : List PairSpec) (edges : List Edge) (e : Edge) : Type 0 where
  pub within : IsInRange (kind_ends kinds) processes e
  pub differ : JoinsTwo e
  pub fresh : AreJoined edges e.a e.b → ⊥
  pub roles : HasRoles (kind_ends kinds) processes e
  pub room : (k : ℕ) → IsCrowded most edges e.a e.b k → ⊥

process_within : (processes : List Process) (name : List ℕ) → Contains (process_names processes) name → number_in (process_names processes) name < length processes
process_within processes name there = let lt = number_within (process_names processes) name there in omega (arith, lt, length-map processes (λ (p : Process). p.name))

kind_within : (kinds : List PairSpec) (name : List ℕ) → Contains (kind_names kinds) name → number_in (kind_names kinds) name < length kinds
kind_within kinds name there = let lt = number_within (kind_names kinds) name there in omega (arith, lt, length-map kinds (λ (k : PairSpec). k.name))

-- what is not refuted of two equal numbers
equal : (m n : ℕ) → ((m ≡ n → ⊥) → ⊥) → m ≡ n
equal m n not_not = elim (cases_eq m n) [ inl same ↦ same | inr differ ↦ absurd (not_not differ) ]

of_kind : (processes : List Process) (kinds : List PairSpec) (p q kind : ℕ) → ((AreOfKind processes kinds p q kind → ⊥) → ⊥) → AreOfKind processes kinds p q kind
of_kind processes kinds p q kind not_not = record {
  role_a = equal (process_at processes p).role (kind_at kinds kind).role_a (λ differ. not_not (λ h. differ h.role_a));
  role_b = equal (process_at processes q).role (kind_at kinds kind).role_b (λ differ. not_not (λ h. differ h.role_b));
}

has_roles : (processes : List Process) (kinds : List PairSpec) (e : Edge) → e.kind < length kinds → AreOfKind processes kinds e.a e.b e.kind → HasRoles (kind_ends kinds) processes e
has_roles processes kinds e lt h = let at = ends_at kinds e.kind lt in (h.role_a ∙ sym (ap (λ (ends : ℕ × ℕ). ends.0) at), h.role_b ∙ sym (ap (λ (ends : ℕ × ℕ). ends.1) at))

pub edge_fits : (most : ℕ) (processes : List Process) (kinds : List PairSpec) (edges : List Edge) (p q kind : List ℕ) → IsFree (EdgeStands most processes kinds edges p q kind) → Fits most processes kinds edges (edge_named processes kinds p q kind)
edge_fits most processes kinds edges p q kind free =
    let e = edge_named processes kinds p q kind in
    let p_there = Contains-not_not (process_names processes) p (λ h. free.free UnknownName (inl (refl, h))) in
    let q_there = Contains-not_not (process_names processes) q (λ h. free.free UnknownName (inr (inl (refl, h)))) in
    let kind_there = Contains-not_not (kind_names kinds) kind (λ h. free.free UnknownName (inr (inr (inl (refl, h))))) in
    let known = kind_within kinds kind kind_there in
    let fits = of_kind processes kinds e.a e.b e.kind (λ h. free.free RoleMismatch (inr (inr (inr (inr (inr (inr (refl, h)))))))) in record {
      within = (process_within processes p p_there, process_within processes q q_there, omega (arith, known, length-map {B = ℕ × ℕ} kinds (λ (k : PairSpec). (k.role_a, k.role_b))));
      differ = λ same. free.free SelfEdge (inr (inr (inr (inl (refl, same)))));
      fresh = λ joined. free.free EdgeTwice (inr (inr (inr (inr (inl (refl, joined))))));
      roles = has_roles processes kinds e known fits;
      room = none_crowded most edges e.a e.b (λ k first. free.free (DegreeOver k) (inr (inr (inr (inr (inr (inl (k, refl, first))))))));
    }

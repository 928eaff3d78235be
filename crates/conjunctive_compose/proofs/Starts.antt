-- The start.
use Rattle.std.proofs.Common.{ℕ, ◌≡◌, ◌<◌, length, arith, sym, ◌∙◌}
use Rattle.std.proofs.lemmas.List.{get_or-replicate, length-replicate}
use Rattle.std.proofs.lemmas.List.Elements.{All-contains}
use Rattle.std.proofs.lemmas.List.FromFn.{get_or-map-range_with_len, length-map-range_with_len}
use Rattle.conjunctive_compose.specs.System.{SystemParts, IsSystem, edge_at, edge_count, process_count, role_of, structure_at}
use Rattle.conjunctive_compose.specs.Whole.{HasPair, local_at, start_local, start_of, start_place, start_state, value_at}
use Rattle.conjunctive_compose.specs.Laws.{IsStart}
use Rattle.conjunctive_compose.proofs.Edges.{edge_lawful, role_lawful, start_lawful}
use Rattle.conjunctive_compose.proofs.StartStates.{place_within, start_at_place, start_is_first}
use Rattle.skeleton_extract.proofs.Sides.{same_pairs}

pub local_at_start : (sys : SystemParts) (k : ℕ) → k < process_count sys → local_at (start_of sys) k ≡ start_local sys k
local_at_start sys k lt = get_or-map-range_with_len (start_local sys) 0 (process_count sys) k k 0 lt (omega arith)

-- a process starts in a local state of its role
start_within : (sys : SystemParts) (k : ℕ) → IsSystem sys → k < process_count sys → start_local sys k < length (role_of sys k).locals
start_within sys k lawful lt = All-contains (λ start. start < length (role_of sys k).locals) (role_of sys k).starts (start_local sys k) (role_lawful sys k lawful lt).starts_within (start_lawful sys k lawful lt)

-- at the start each edge has the pair state in which it starts
pub start_pair : (sys : SystemParts) (e : ℕ) → IsSystem sys → e < edge_count sys → HasPair sys (start_of sys) e (start_state sys e)
start_pair sys e lawful lt =
    let edge = edge_lawful sys e lawful lt in
    let a = (edge_at sys e).a in
    let b = (edge_at sys e).b in
    let has_a = start_lawful sys a lawful edge.a in
    let has_b = start_lawful sys b lawful edge.b in
    let first = start_is_first (role_of sys a) (role_of sys b) (structure_at sys e).states edge.over.starts (role_lawful sys a lawful edge.a) (role_lawful sys b lawful edge.b) (start_place sys a) (start_place sys b) (place_within _ _ has_a) (place_within _ _ has_b) in
    let label = same_pairs _ _ _ _ (start_at_place _ _ has_a ∙ sym (local_at_start sys a edge.a)) (start_at_place _ _ has_b ∙ sym (local_at_start sys b edge.b)) in
    let value : value_at (start_of sys) e ≡ 0 = get_or-replicate (edge_count sys) e 0 0 lt in
    record { within = first.within; label_is = first.label_is ∙ label; ordinal_is = first.ordinal_is ∙ sym value }

pub start_is_proper : (sys : SystemParts) → IsSystem sys → IsStart sys
start_is_proper sys lawful = record {
  proper = record {
    locals = length-map-range_with_len (start_local sys) 0 (process_count sys);
    values = length-replicate (edge_count sys) 0;
    within = λ k lt. rw (local_at_start sys k lt) (start_within sys k lawful lt);
    pairs = λ e lt. (start_state sys e, start_pair sys e lawful lt);
  };
  pairs = λ e lt. start_pair sys e lawful lt;
}

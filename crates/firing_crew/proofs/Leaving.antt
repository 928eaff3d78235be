-- Some arc leaves each local state of a process.
use Rattle.std.proofs.Common.{ℕ, zero, suc, ◌≡◌, ◌<◌, true, List, [], ◌∷◌, length, cond, arith, refl, ap, ◌∙◌}
use Rattle.std.proofs.lemmas.Bool.{eq-eqb}
use Rattle.std.proofs.lemmas.List.Elements.{All-get_or}
use Rattle.std.proofs.lemmas.List.Sums.{sum_by-cons}
use Rattle.pair_structure.specs.declared.side.LocalArc.{LocalArc}
use Rattle.pair_structure.specs.Role.{HasArcFrom}
use Rattle.interconnection.specs.Network.{HasRole}
use Rattle.conjunctive_compose.specs.System.{IsSystem, SystemParts, process_count, role_of}
use Rattle.firing_crew.specs.Choice.{leaves, leaving_count}

some_from : (arcs : List LocalArc) (local : ℕ) → HasArcFrom arcs local → 0 < leaving_count arcs local
some_from [] local (k, arc, within, is, from) = absurd (omega (arith, within))
some_from (x ∷ xs) local (zero, arc, within, is, from) =
    let yes : leaves local x ≡ true = eq-eqb x.from local (ap (λ (a : LocalArc). a.from) is ∙ from) in
    let one = sum_by-cons (λ a. cond (leaves local a) 1 0) x xs in
    let first : ◌≡◌ {A = ℕ} (cond (leaves local x) 1 0) 1 = rw yes refl in
    omega (arith, one, first)
some_from (x ∷ xs) local (suc k, arc, within, is, from) =
    let one = sum_by-cons (λ a. cond (leaves local a) 1 0) x xs in
    let more : 0 < leaving_count xs local = some_from xs local (k, arc, omega (arith, within), is, from) in
    omega (arith, one, more)

pub some_leaves : (sys : SystemParts) (k local : ℕ) → IsSystem sys → k < process_count sys → local < length (role_of sys k).locals → 0 < leaving_count (role_of sys k).arcs local
some_leaves sys k local is lt within =
    let role = All-get_or (HasRole sys.network.roles) sys.network.processes k _ lt is.network.own_roles in
    some_from (role_of sys k).arcs local ((is.roles _ role).leaves local within)

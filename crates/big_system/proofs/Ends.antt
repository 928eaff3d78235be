-- Where a run of philosophers leaves them.
use Rattle.std.proofs.Common.{ℕ, zero, suc, ◌≡◌, ◌<◌, List, [], ◌∷◌, ◌++◌, length, get_or, map, replicate, take, All, arith, refl, sym, subst, ◌∙◌, ap}
use Rattle.std.specs.Prelude.{slice_set}
use Rattle.std.specs.List.{range_with_len}
use Rattle.std.proofs.Math.Seq.{take-suc}
use Rattle.std.proofs.lemmas.List.{ext_get_or, get_or-replicate, length-replicate, map-append}
use Rattle.std.proofs.lemmas.List.FromFn.{get_or-map-range_with_len, length-map-range_with_len}
use Rattle.interconnection.specs.declared.parts.Process.{Process}
use Rattle.interconnection.specs.Network.{process_at, role_of as role_number}
use Rattle.pair_structure.specs.declared.side.LocalArc.{LocalArc}
use Rattle.pair_structure.specs.Parts.{arc_at, role_at}
use Rattle.pair_structure.specs.Role.{RoleParts}
use Rattle.conjunctive_compose.specs.declared.wish.Wish.{Wish}
use Rattle.conjunctive_compose.specs.Firing.{arc_of, fired}
use Rattle.conjunctive_compose.specs.Run.{IsRun, whole_after}
use Rattle.conjunctive_compose.specs.System.{SystemParts, process_count, role_of}
use Rattle.conjunctive_compose.specs.Whole.{WholeParts, start_local, start_of}
use Rattle.firing_journal.specs.declared.journal.Entry.{Entry}
use Rattle.firing_journal.specs.Journal.{wish_of, wishes_of}
use Rattle.big_system.specs.declared.philosopher.TheConstants.{NONCRITICAL}
use Rattle.big_system.specs.Philosophers.{philosopher, philosopher_arcs}
use Rattle.big_system.specs.Systems.{IsBigSystem, process_of}
use Rattle.big_system.specs.inside.Locals.{IsPhilosophers, locals_after, moved}

-- the local states after one more wish
pub after-append : (locals : List ℕ) (run : List Wish) (wish : Wish) → locals_after locals (run ++ wish ∷ []) ≡ moved (locals_after locals run) wish
after-append locals [] wish = refl
after-append locals (first ∷ run) wish = after-append (moved locals first) run wish

-- so many processes
pub big_count : (count seed : ℕ) (sys : SystemParts) → IsBigSystem count seed sys → process_count sys ≡ count
big_count count seed sys big = ap {B = ℕ} length big.network.processes ∙ length-map-range_with_len process_of 0 count

-- each of which is the like
pub big_process : (count seed : ℕ) (sys : SystemParts) (k : ℕ) → IsBigSystem count seed sys → k < count → process_at sys.network.processes k ≡ process_of k
big_process count seed sys k big lt = ap (λ (l : List Process). process_at l k) big.network.processes ∙ get_or-map-range_with_len process_of 0 count k k (record { name = []; role = 0; start = 0 }) lt (omega arith)

-- and plays the philosopher
pub big_role : (count seed : ℕ) (sys : SystemParts) (k : ℕ) → IsBigSystem count seed sys → k < count → role_of sys k ≡ philosopher
big_role count seed sys k big lt =
    ap (λ (roles : List RoleParts). role_at roles (role_number sys.network.processes k)) big.network.roles
    ∙ ap (λ (p : Process). role_at (philosopher ∷ []) p.role) (big_process count seed sys k big lt)

-- all begin in their start
pub big_start : (count seed : ℕ) (sys : SystemParts) → IsBigSystem count seed sys → (start_of sys).locals ≡ replicate count NONCRITICAL
big_start count seed sys big = ap (λ (n : ℕ). map (start_local sys) (range_with_len 0 n)) (big_count count seed sys big) ∙ ext_get_or 0 (map (start_local sys) (range_with_len 0 count)) (replicate count NONCRITICAL)
    (length-map-range_with_len (start_local sys) 0 count ∙ sym (length-replicate count NONCRITICAL))
    (λ i lt. at i (omega (arith, lt, length-map-range_with_len (start_local sys) 0 count)))
  where
    at : (i : ℕ) → i < count → get_or (map (start_local sys) (range_with_len 0 count)) i 0 ≡ get_or (replicate count NONCRITICAL) i 0
    at i lt = get_or-map-range_with_len (start_local sys) 0 count i i 0 lt (omega arith) ∙ ap (λ (p : Process). p.start) (big_process count seed sys i big lt) ∙ sym (get_or-replicate count i NONCRITICAL 0 lt)

-- a run leaves them where its arcs lead
pub run_ends : (count seed : ℕ) (sys : SystemParts) (w : WholeParts) (run : List Wish) → IsBigSystem count seed sys → IsRun sys w run → (whole_after sys w run).locals ≡ locals_after w.locals run
run_ends count seed sys w [] big is = refl
run_ends count seed sys w (wish ∷ run) big is =
    let lt : wish.process < count = omega (arith, is.0.fits.process_in, big_count count seed sys big) in
    let role : role_of sys wish.process ≡ philosopher = big_role count seed sys wish.process big lt in
    let arc : arc_of sys wish.process wish.arc ≡ arc_at philosopher_arcs wish.arc = ap (λ (r : RoleParts). arc_at r.arcs wish.arc) role in
    run_ends count seed sys (fired sys w wish) run big is.1 ∙ ap (λ (a : LocalArc). locals_after (slice_set w.locals wish.process a.to) run) arc

-- the wishes of a run are philosophers'
pub run_fits : (count seed : ℕ) (sys : SystemParts) (w : WholeParts) (entries : List Entry) → IsBigSystem count seed sys → IsRun sys w (wishes_of entries) → All (IsPhilosophers count) entries
run_fits count seed sys w [] big is i d lt = absurd (omega (arith, lt))
run_fits count seed sys w (entry ∷ entries) big is zero d lt =
    let within : entry.wish.process < count = omega (arith, is.0.fits.process_in, big_count count seed sys big) in
    let role : role_of sys entry.wish.process ≡ philosopher = big_role count seed sys entry.wish.process big within in
    record { process_in = within; arc_in = subst (λ (r : RoleParts). entry.wish.arc < length r.arcs) role is.0.fits.arc_in }
run_fits count seed sys w (entry ∷ entries) big is (suc i) d lt = run_fits count seed sys (fired sys w entry.wish) entries big is.1 i d (omega (arith, lt))

-- a run from the start does
pub last_of : (count seed : ℕ) (sys : SystemParts) (run : List Wish) → IsBigSystem count seed sys → IsRun sys (start_of sys) run → (whole_after sys (start_of sys) run).locals ≡ locals_after (replicate count NONCRITICAL) run
last_of count seed sys run big is = run_ends count seed sys (start_of sys) run big is ∙ ap (λ (l : List ℕ). locals_after l run) (big_start count seed sys big)

-- one more firing
pub one_more : (first now : List ℕ) (entries : List Entry) (i j : ℕ) (d : Entry) → i < length entries → j ≡ suc i → now ≡ locals_after first (wishes_of (take i entries)) → moved now (get_or entries i d).wish ≡ locals_after first (wishes_of (take j entries))
one_more first now entries i j d lt next so =
    let entry : Entry = get_or entries i d in
    ap (λ (l : List ℕ). moved l entry.wish) so
    ∙ sym (after-append first (wishes_of (take i entries)) entry.wish)
    ∙ sym (ap (locals_after first) (map-append wish_of (take i entries) (entry ∷ [])))
    ∙ sym (ap (λ (l : List Entry). locals_after first (wishes_of l)) (ap (λ (n : ℕ). take n entries) next ∙ take-suc entries i d lt))

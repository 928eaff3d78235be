-- The local state of one process is what its firings alone make of it.
use Rattle.std.proofs.Common.{ℕ, suc, ◌≡◌, ◌<◌, Bool, true, false, List, [], ◌∷◌, length, get_or, arith, refl, sym, ◌∙◌, ap, eqb-true}
use Rattle.std.specs.Prelude.{cond, ◌==◌, slice_index, slice_set}
use Rattle.std.specs.List.{filter}
use Rattle.std.proofs.lemmas.Bool.{eqb-false}
use Rattle.std.proofs.lemmas.List.{get_or-set_other, get_or-set_same, length-set}
use Rattle.conjunctive_compose.specs.declared.wish.Wish.{Wish}
use Rattle.conjunctive_compose.specs.System.{SystemParts}
use Rattle.conjunctive_compose.specs.Whole.{WholeParts, local_at}
use Rattle.conjunctive_compose.specs.Firing.{arc_of, fired}
use Rattle.conjunctive_compose.specs.Run.{whole_after}
use Rattle.firing_journal.specs.declared.journal.Entry.{Entry}
use Rattle.firing_journal.specs.Journal.{wishes_of}

-- the local state in which these firings leave process k
abbrev pub local_from : SystemParts → ℕ → ℕ → List Wish → ℕ
local_from sys k local [] = local
local_from sys k local (wish ∷ later) = local_from sys k (cond (wish.process == k) (arc_of sys wish.process wish.arc).to local) later

-- what a process reads after a write at one of them
pub local_set : (locals : List ℕ) (process to k : ℕ) → k < length locals → slice_index (slice_set locals process to) k ≡ cond (process == k) to (slice_index locals k)
local_set locals process to k lt = by (process == k) refl
  where
    by : (b : Bool) → (process == k) ≡ b → slice_index (slice_set locals process to) k ≡ cond b to (slice_index locals k)
    by true is =
        let same : process ≡ k = eqb-true process k is in
        rw same (get_or-set_same locals k to 0 lt)
    by false is = get_or-set_other locals process k to 0 (λ same. eqb-false process k is (sym same))

pub local_after : (sys : SystemParts) (w : WholeParts) (k : ℕ) (run : List Wish) → k < length w.locals → local_at (whole_after sys w run) k ≡ local_from sys k (local_at w k) run
local_after sys w k [] lt = refl
local_after sys w k (wish ∷ later) lt =
    local_after sys (fired sys w wish) k later (omega (arith, lt, length-set w.locals wish.process (arc_of sys wish.process wish.arc).to))
    ∙ ap (λ (x : ℕ). local_from sys k x later) (local_set w.locals wish.process (arc_of sys wish.process wish.arc).to k lt)

-- entries of other processes do not count
pub local_filter : (sys : SystemParts) (k local : ℕ) (p : Entry → Bool) (entries : List Entry) → ((i : ℕ) (d : Entry) → i < length entries → (get_or entries i d).wish.process ≡ k → p (get_or entries i d) ≡ true) → local_from sys k local (wishes_of entries) ≡ local_from sys k local (wishes_of (filter p entries))
local_filter sys k local p [] passes = refl
local_filter sys k local p (e ∷ es) passes = by (p e) refl (e.wish.process == k) refl (λ x. local_filter sys k x p es (λ i d lt. passes (suc i) d (omega (arith, lt))))
  where
    to : ℕ
    to = (arc_of sys e.wish.process e.wish.arc).to

    by : (b : Bool) → p e ≡ b → (t : Bool) → (e.wish.process == k) ≡ t → ((x : ℕ) → local_from sys k x (wishes_of es) ≡ local_from sys k x (wishes_of (filter p es))) → local_from sys k local (wishes_of (e ∷ es)) ≡ local_from sys k local (wishes_of (cond b (e ∷ filter p es) (filter p es)))
    by true is t same rest = rest (cond (e.wish.process == k) to local)
    by false is true same rest = absurd (let yes = passes 0 e (omega arith) (eqb-true e.wish.process k same) in cc)
    by false is false same rest = ap (λ (t : Bool). local_from sys k (cond t to local) (wishes_of es)) same ∙ rest local

-- How many replies the lists and the passes have: no fewer than the history has entries.
use Rattle.std.proofs.Common.{ℕ, zero, suc, ◌≡◌, ◌<◌, ◌≤◌, ◌+◌, List, [], ◌∷◌, ◌++◌, length, set, arith, ap}
use Rattle.firing_words.specs.History.{Firing, made_by}
use Rattle.firing_words.proofs.Making.{length-made, sum_below}
use Rattle.firing_hall.specs.inside.Taking.{kept_in, total}
use Rattle.firing_journal.specs.Report.{list_by}
use Rattle.firing_hall.specs.inside.Gathering.{AreListsOf, makings_of}
use Rattle.firing_journal.specs.declared.asked.Asked.{Asked}
use Rattle.firing_journal.specs.declared.asked.Asked.TheVariants.{Fired, Away, Blocked, Seen, SeenPair}
use Rattle.firing_hall.specs.declared.pass.Pass.{Pass}

pub total-push : (ls : List (List Asked)) (l : List Asked) → total (ls ++ l ∷ []) ≡ total ls + length l
total-push [] l = omega arith
total-push (x ∷ ls) l = let a = total-push ls l in omega (arith, a)

pub total-set : (ls : List (List Asked)) (i : ℕ) (l : List Asked) → total (set ls i l) ≤ total ls + length l
total-set [] i l = omega arith
total-set (x ∷ ls) zero l = omega arith
total-set (x ∷ ls) (suc i) l = let a = total-set ls i l in omega (arith, a)

pub kept_in-push : (ps : List Pass) (p : Pass) → kept_in (ps ++ p ∷ []) ≡ kept_in ps + length p.asked.items
kept_in-push [] p = omega arith
kept_in-push (x ∷ ps) p = let a = kept_in-push ps p in omega (arith, a)

fired_few : (list : List Asked) → length (makings_of list) ≤ length list
fired_few [] = omega arith
fired_few (Fired wish n ∷ list) = let a = fired_few list in omega (arith, a)
fired_few (Away wish local p ∷ list) = let a = fired_few list in omega (arith, a)
fired_few (Blocked wish j p ∷ list) = let a = fired_few list in omega (arith, a)
fired_few (Seen k m local ∷ list) = let a = fired_few list in omega (arith, a)
fired_few (SeenPair e m s ∷ list) = let a = fired_few list in omega (arith, a)

sum_below-first : (f : ℕ → ℕ) (n : ℕ) → sum_below f (suc n) ≡ f 0 + sum_below (λ c. f (suc c)) n
sum_below-first f zero = omega arith
sum_below-first f (suc n) = let a = sum_below-first f n in omega (arith, a)

-- what stays below the lists' lengths sums up to no more than these
sum_few : (f : ℕ → ℕ) (ls : List (List Asked)) → ((c : ℕ) → c < length ls → f c ≤ length (list_by ls c)) → sum_below f (length ls) ≤ total ls
sum_few f [] few = omega arith
sum_few f (l ∷ ls) few =
    let a = sum_few (λ c. f (suc c)) ls (λ c lt. few (suc c) (omega (arith, lt))) in
    let b = few 0 (omega arith) in
    omega (arith, a, b, sum_below-first f (length ls))

-- a history has no more entries than there are replies
pub log_few : (log : List Firing) (lists : List (List Asked)) → AreListsOf log lists → length log ≤ total lists
log_few log lists are =
    let made = length-made (length lists) log are.callers in
    let few = sum_few (λ c. length (made_by c log)) lists (λ c lt. let a = fired_few (list_by lists c) in omega (arith, a, ap length (are.fired c lt))) in
    omega (arith, made, few)

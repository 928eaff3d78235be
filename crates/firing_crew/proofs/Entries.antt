-- The entries before a place, and the firings of a list before a reply there.
use Rattle.std.proofs.Common.{ℕ, zero, suc, ◌≡◌, ◌<◌, ◌≤◌, ◌+◌, ◌-◌, Bool, true, false, nat_lt, List, [], ◌∷◌, ◌++◌, length, get_or, map, take, All, AllPairs, arith, refl, sym, ◌∙◌, ap}
use Rattle.std.specs.Prelude.{cond}
use Rattle.std.specs.List.{filter}
use Rattle.std.proofs.lemmas.Bool.{le-ltb, lt-ltb}
use Rattle.std.proofs.lemmas.Bool.Decides.{nat_tests}
use Rattle.std.proofs.lemmas.List.{append-nil}
use Rattle.std.proofs.lemmas.List.Elements.{filter-append}
use Rattle.conjunctive_compose.specs.declared.wish.Wish.{Wish}
use Rattle.conjunctive_compose.specs.Order.{MayFollow}
use Rattle.conjunctive_compose.specs.Reply.{Told, away_at}
use Rattle.conjunctive_compose.specs.System.{SystemParts}
use Rattle.firing_journal.specs.declared.asked.Asked.{Asked}
use Rattle.firing_journal.specs.declared.asked.Asked.TheVariants.{Fired, Away, Blocked, Seen, SeenPair}
use Rattle.firing_journal.specs.declared.journal.Entry.{Entry}
use Rattle.firing_journal.specs.Journal.{AreNumbered}
use Rattle.firing_journal.specs.Report.{entries_by, fired_of, is_by, told_of}
use Rattle.firing_journal.proofs.Numbered.{number_at}

abbrev pub is_before : ℕ → Entry → Bool
is_before p entry = nat_lt entry.number p

pub each_before : {X : Type 0} (R : X → X → Type 0) (xs : List X) (y : X) (ys : List X) → AllPairs R (xs ++ y ∷ ys) → All (λ (x : X). R x y) xs
each_before R [] y ys pairs i d lt = absurd (omega (arith, lt))
each_before {X} R (x ∷ xs) y ys pairs zero d lt = seam xs (λ j lt. pairs 0 (suc j) d (omega arith) (omega (arith, lt)))
  where
    seam : (zs : List X) → ((j : ℕ) → j < length (zs ++ y ∷ ys) → R x (get_or (zs ++ y ∷ ys) j d)) → R x y
    seam [] each = each 0 (omega arith)
    seam (z ∷ zs) each = seam zs (λ j lt. each (suc j) (omega (arith, lt)))
each_before R (x ∷ xs) y ys pairs (suc i) d lt = each_before R xs y ys (λ i j d lt in'. pairs (suc i) (suc j) d (omega (arith, lt)) (omega (arith, in'))) i d (omega (arith, lt))

pub each_behind : {X : Type 0} (R : X → X → Type 0) (xs : List X) (y : X) (ys : List X) → AllPairs R (xs ++ y ∷ ys) → All (λ (x : X). R y x) ys
each_behind R [] y ys pairs i d lt = pairs 0 (suc i) d (omega arith) (omega (arith, lt))
each_behind R (x ∷ xs) y ys pairs i d lt = each_behind R xs y ys (λ i j d lt in'. pairs (suc i) (suc j) d (omega (arith, lt)) (omega (arith, in'))) i d lt

pub fired-append : (c : ℕ) (xs ys : List Asked) → fired_of c (xs ++ ys) ≡ fired_of c xs ++ fired_of c ys
fired-append c [] ys = refl
fired-append c (Fired wish n ∷ xs) ys = ap (λ (l : List Entry). record { number = n; caller = c; wish = wish } ∷ l) (fired-append c xs ys)
fired-append c (Away wish local p ∷ xs) ys = fired-append c xs ys
fired-append c (Blocked wish j p ∷ xs) ys = fired-append c xs ys
fired-append c (Seen k m local ∷ xs) ys = fired-append c xs ys
fired-append c (SeenPair e m s ∷ xs) ys = fired-append c xs ys

-- what stands before an away at p was fired before p
pub fired_before : (sys : SystemParts) (run : List Wish) (wish : Wish) (c local p : ℕ) (list : List Asked) → All (λ (t : Told). MayFollow sys run t (away_at wish local p)) (map told_of list) → filter (is_before p) (fired_of c list) ≡ fired_of c list
fired_before sys run wish c local p [] each = refl
fired_before sys run wish c local p (Fired own n ∷ list) each =
    let lt : suc n ≤ p = omega (arith, each 0 (told_of (Fired own n)) (omega arith)) in
    let e : Entry = record { number = n; caller = c; wish = own } in
    ap (λ (b : Bool). cond b (e ∷ filter (is_before p) (fired_of c list)) (filter (is_before p) (fired_of c list))) (lt-ltb n p (omega (arith, lt)))
    ∙ ap (λ (l : List Entry). e ∷ l) (fired_before sys run wish c local p list (λ i d lt. each (suc i) d (omega (arith, lt))))
fired_before sys run wish c local p (Away own l q ∷ list) each = fired_before sys run wish c local p list (λ i d lt. each (suc i) d (omega (arith, lt)))
fired_before sys run wish c local p (Blocked own j q ∷ list) each = fired_before sys run wish c local p list (λ i d lt. each (suc i) d (omega (arith, lt)))
fired_before sys run wish c local p (Seen k m l ∷ list) each = fired_before sys run wish c local p list (λ i d lt. each (suc i) d (omega (arith, lt)))
fired_before sys run wish c local p (SeenPair e m s ∷ list) each = fired_before sys run wish c local p list (λ i d lt. each (suc i) d (omega (arith, lt)))

-- what stands behind it was not
pub fired_behind : (sys : SystemParts) (run : List Wish) (wish : Wish) (c local p : ℕ) (list : List Asked) → All (λ (t : Told). MayFollow sys run (away_at wish local p) t) (map told_of list) → filter (is_before p) (fired_of c list) ≡ []
fired_behind sys run wish c local p [] each = refl
fired_behind sys run wish c local p (Fired own n ∷ list) each =
    let le : p ≤ n = each 0 (told_of (Fired own n)) (omega arith) in
    let e : Entry = record { number = n; caller = c; wish = own } in
    ap (λ (b : Bool). cond b (e ∷ filter (is_before p) (fired_of c list)) (filter (is_before p) (fired_of c list))) (le-ltb n p le)
    ∙ fired_behind sys run wish c local p list (λ i d lt. each (suc i) d (omega (arith, lt)))
fired_behind sys run wish c local p (Away own l q ∷ list) each = fired_behind sys run wish c local p list (λ i d lt. each (suc i) d (omega (arith, lt)))
fired_behind sys run wish c local p (Blocked own j q ∷ list) each = fired_behind sys run wish c local p list (λ i d lt. each (suc i) d (omega (arith, lt)))
fired_behind sys run wish c local p (Seen k m l ∷ list) each = fired_behind sys run wish c local p list (λ i d lt. each (suc i) d (omega (arith, lt)))
fired_behind sys run wish c local p (SeenPair e m s ∷ list) each = fired_behind sys run wish c local p list (λ i d lt. each (suc i) d (omega (arith, lt)))

-- the numbers rise by one from n on
abbrev AreNumberedFrom : ℕ → List Entry → Type 0
AreNumberedFrom n entries = (i : ℕ) (d : Entry) → i < length entries → (get_or entries i d).number ≡ n + i

before_from : (n p : ℕ) (entries : List Entry) → AreNumberedFrom n entries → filter (is_before p) entries ≡ take (p - n) entries
before_from n p [] numbered = by (p - n)
  where
    by : (k : ℕ) → ◌≡◌ {A = List Entry} [] (take k [])
    by zero = refl
    by (suc k) = refl
before_from n p (e ∷ es) numbered = by (nat_lt n p) refl (before_from (suc n) p es (λ i d lt. numbered (suc i) d (omega (arith, lt)) ∙ omega arith))
  where
    number : e.number ≡ n
    number = numbered 0 e (omega arith) ∙ omega arith

    kept : (b : Bool) → nat_lt n p ≡ b → filter (is_before p) (e ∷ es) ≡ cond b (e ∷ filter (is_before p) es) (filter (is_before p) es)
    kept b is = ap (λ (t : Bool). cond t (e ∷ filter (is_before p) es) (filter (is_before p) es)) (ap (λ (x : ℕ). nat_lt x p) number ∙ is)

    by : (b : Bool) → nat_lt n p ≡ b → filter (is_before p) es ≡ take (p - suc n) es → filter (is_before p) (e ∷ es) ≡ take (p - n) (e ∷ es)
    by true is rest =
        let more : suc (p - suc n) ≡ p - n = grind (arith, nat_tests) in
        kept true is ∙ ap (λ (l : List Entry). e ∷ l) rest ∙ ap (λ (k : ℕ). take k (e ∷ es)) more
    by false is rest =
        let none : p - suc n ≡ 0 = grind (arith, nat_tests) in
        let none' : 0 ≡ p - n = grind (arith, nat_tests) in
        kept false is ∙ rest ∙ ap (λ (k : ℕ). take k es) none ∙ ap (λ (k : ℕ). take k (e ∷ es)) none'

-- the entries with numbers below p are the first p
pub before_is_take : (p : ℕ) (entries : List Entry) → AreNumbered entries → filter (is_before p) entries ≡ take p entries
before_is_take p entries numbered = before_from 0 p entries (λ i d lt. number_at entries i d numbered lt ∙ omega arith) ∙ ap (λ (k : ℕ). take k entries) (omega arith)

filters_swap : {X : Type 0} (p q : X → Bool) (xs : List X) → filter p (filter q xs) ≡ filter q (filter p xs)
filters_swap p q [] = refl
filters_swap {X} p q (x ∷ xs) = by (p x) refl (q x) refl (filters_swap p q xs)
  where
    by : (s : Bool) → p x ≡ s → (t : Bool) → q x ≡ t → filter p (filter q xs) ≡ filter q (filter p xs) → filter p (cond t (x ∷ filter q xs) (filter q xs)) ≡ filter q (cond s (x ∷ filter p xs) (filter p xs))
    by true e true f rest = rw (e, f) (ap (λ (l : List X). x ∷ l) rest)
    by true e false f rest = rw f rest
    by false e true f rest = rw e rest
    by false e false f rest = rest

-- the firings of a list before an away at p are the caller's entries before p
pub before_away : (sys : SystemParts) (run : List Wish) (wish : Wish) (c local p : ℕ) (entries : List Entry) (front back : List Asked) → AreNumbered entries → entries_by c entries ≡ fired_of c (front ++ Away wish local p ∷ back) → AllPairs (MayFollow sys run) (map told_of front ++ away_at wish local p ∷ map told_of back) → entries_by c (take p entries) ≡ fired_of c front
before_away sys run wish c local p entries front back numbered once order =
    ap (entries_by c) (sym (before_is_take p entries numbered))
    ∙ filters_swap (is_by c) (is_before p) entries
    ∙ ap (filter (is_before p)) (once ∙ fired-append c front (Away wish local p ∷ back))
    ∙ filter-append (is_before p) (fired_of c front) (fired_of c back)
    ∙ ap (λ (l : List Entry). l ++ filter (is_before p) (fired_of c back)) (fired_before sys run wish c local p front (each_before (MayFollow sys run) (map told_of front) (away_at wish local p) (map told_of back) order))
    ∙ ap (λ (l : List Entry). fired_of c front ++ l) (fired_behind sys run wish c local p back (each_behind (MayFollow sys run) (map told_of front) (away_at wish local p) (map told_of back) order))
    ∙ append-nil (fired_of c front)

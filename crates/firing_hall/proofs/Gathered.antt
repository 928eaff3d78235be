-- The firings of all callers, each at its place, are the history.
use Rattle.std.proofs.Common.{ℕ, zero, suc, ◌≡◌, ◌≢◌, ◌<◌, ◌≤◌, ◌+◌, inl, inr, ⊎_elim, Some, List, [], ◌∷◌, length, drop, set, get_or, arith, refl, sym, ◌∙◌, ap, subst, length-set, get_or-set_same, get_or-set_other}
use Rattle.std.specs.Prelude.{slice_get}
use Rattle.std.proofs.lemmas.Bool.{cases_eq}
use Rattle.std.proofs.lemmas.List.{drop_more}
use Rattle.std.proofs.lemmas.Option.{slice_get-get_or, slice_get_within}
use Rattle.conjunctive_compose.specs.declared.wish.Wish.{Wish}
use Rattle.firing_words.specs.History.{CallersBelow, Firing, Making, made_by}
use Rattle.firing_words.specs.Lists.{Has}
use Rattle.firing_words.proofs.Journal.{made_complete, made_sound}
use Rattle.firing_journal.specs.declared.asked.Asked.{Asked}
use Rattle.firing_journal.specs.declared.asked.Asked.TheVariants.{Fired, Away, Blocked, Seen, SeenPair}
use Rattle.firing_journal.specs.declared.journal.Entry.{Entry}
use Rattle.firing_journal.specs.Journal.{AreNumbered}
use Rattle.firing_journal.specs.Report.{list_by}
use Rattle.firing_journal.proofs.Numbered.{numbered_each}
use Rattle.firing_hall.specs.inside.Gathering.{AreListsOf, all_placed, entry_at, makings_of, no_entry, placed}
use Rattle.firing_hall.specs.Reports.{firing_of, log_of}

-- at place p the entry is the history's
abbrev pub IsFilled : List Firing → List Entry → ℕ → Type 0
IsFilled log entries p = (e : Firing) → slice_get log p ≡ Some e → entry_at entries p ≡ record { number = p; caller = e.caller; wish = e.wish }

-- the firings of a list are those of caller c
abbrev pub AreOf : List Firing → ℕ → List Asked → Type 0
AreOf log c list = (n : ℕ) (wish : Wish) → Has (record { number = n; wish = wish }) (makings_of list) → (e : Firing) × (slice_get log n ≡ Some e) × (e.caller ≡ c) × (e.wish ≡ wish)

same_firing : (log : List Firing) (n : ℕ) (e f : Firing) → slice_get log n ≡ Some e → slice_get log n ≡ Some f → e ≡ f
same_firing log n e f a b = let q : Some e ≡ Some f = sym a ∙ b in cc

-- one entry more at its place
set_filled : (log : List Firing) (entries : List Entry) (n c : ℕ) (wish : Wish) → n < length entries → (e : Firing) × (slice_get log n ≡ Some e) × (e.caller ≡ c) × (e.wish ≡ wish) → IsFilled log (set entries n (record { number = n; caller = c; wish = wish })) n
set_filled log entries n c wish lt is f at =
    let same = same_firing log n is.0 f is.1 at in
    get_or-set_same entries n (record { number = n; caller = c; wish = wish }) no_entry lt
    ∙ (λ i. record { number = n; caller = (sym is.2 ∙ ap (λ (x : Firing). x.caller) same) i; wish = (sym is.3 ∙ ap (λ (x : Firing). x.wish) same) i })

set_keeps : (log : List Firing) (entries : List Entry) (n c p : ℕ) (wish : Wish) → n < length entries → (e : Firing) × (slice_get log n ≡ Some e) × (e.caller ≡ c) × (e.wish ≡ wish) → IsFilled log entries p → IsFilled log (set entries n (record { number = n; caller = c; wish = wish })) p
set_keeps log entries n c p wish lt is old = ⊎_elim
    (λ (e : p ≡ n). subst (IsFilled log (set entries n (record { number = n; caller = c; wish = wish }))) (sym e) (set_filled log entries n c wish lt is))
    (λ (ne : p ≢ n). λ f at. get_or-set_other entries n p (record { number = n; caller = c; wish = wish }) no_entry ne ∙ old f at)
    (cases_eq p n)

module _ (log : List Firing) (c : ℕ) where
  pub length-placed : (entries : List Entry) (list : List Asked) → length (placed entries c list) ≡ length entries
  length-placed entries [] = refl
  length-placed entries (Fired wish n ∷ list) = length-placed (set entries n (record { number = n; caller = c; wish = wish })) list ∙ length-set entries n (record { number = n; caller = c; wish = wish })
  length-placed entries (Away wish local p ∷ list) = length-placed entries list
  length-placed entries (Blocked wish j p ∷ list) = length-placed entries list
  length-placed entries (Seen k m local ∷ list) = length-placed entries list
  length-placed entries (SeenPair e m s ∷ list) = length-placed entries list

  pub keeps : (entries : List Entry) (list : List Asked) (p : ℕ) → length entries ≡ length log → AreOf log c list → IsFilled log entries p → IsFilled log (placed entries c list) p
  keeps entries [] p long are old = old
  keeps entries (Fired wish n ∷ list) p long are old =
      let is = are n wish (inl refl) in
      let lt : n < length entries = let w = slice_get_within log n is.0 is.1 in omega (arith, w, long) in
      keeps (set entries n (record { number = n; caller = c; wish = wish })) list p (length-set entries n (record { number = n; caller = c; wish = wish }) ∙ long) (λ m w has. are m w (inr has)) (set_keeps log entries n c p wish lt is old)
  keeps entries (Away wish local q ∷ list) p long are old = keeps entries list p long are old
  keeps entries (Blocked wish j q ∷ list) p long are old = keeps entries list p long are old
  keeps entries (Seen k m local ∷ list) p long are old = keeps entries list p long are old
  keeps entries (SeenPair e m s ∷ list) p long are old = keeps entries list p long are old

  pub fills : (entries : List Entry) (list : List Asked) (p : ℕ) (wish : Wish) → length entries ≡ length log → AreOf log c list → Has (record { number = p; wish = wish }) (makings_of list) → IsFilled log (placed entries c list) p
  fills entries [] p wish long are has = absurd has
  fills entries (Fired w n ∷ list) p wish long are (inl e) =
      let is = are n w (inl refl) in
      let lt : n < length entries = let x = slice_get_within log n is.0 is.1 in omega (arith, x, long) in
      subst (IsFilled log (placed (set entries n (record { number = n; caller = c; wish = w })) c list)) (ap (λ (m : Making). m.number) e)
      (keeps (set entries n (record { number = n; caller = c; wish = w })) list n (length-set entries n (record { number = n; caller = c; wish = w }) ∙ long) (λ m v has. are m v (inr has)) (set_filled log entries n c w lt is))
  fills entries (Fired w n ∷ list) p wish long are (inr has) = fills (set entries n (record { number = n; caller = c; wish = w })) list p wish (length-set entries n (record { number = n; caller = c; wish = w }) ∙ long) (λ m v h. are m v (inr h)) has
  fills entries (Away w local q ∷ list) p wish long are has = fills entries list p wish long are has
  fills entries (Blocked w j q ∷ list) p wish long are has = fills entries list p wish long are has
  fills entries (Seen k m local ∷ list) p wish long are has = fills entries list p wish long are has
  fills entries (SeenPair e m s ∷ list) p wish long are has = fills entries list p wish long are has

-- the lists from caller c on
abbrev pub AreFrom : List Firing → ℕ → List (List Asked) → Type 0
AreFrom log c ls = (j : ℕ) → j < length ls → makings_of (list_by ls j) ≡ made_by (c + j) log

first_are : (log : List Firing) (c : ℕ) (l : List Asked) → makings_of l ≡ made_by c log → AreOf log c l
first_are log c l is n wish has = made_sound c log n wish (subst (Has (record { number = n; wish = wish })) is has)

tail_from : (log : List Firing) (c : ℕ) (l : List Asked) (ls : List (List Asked)) → AreFrom log c (l ∷ ls) → AreFrom log (c + 1) ls
tail_from log c l ls from j lt = from (suc j) (omega (arith, lt)) ∙ ap (λ (m : ℕ). made_by m log) (omega arith)

head_from : (log : List Firing) (c : ℕ) (l : List Asked) (ls : List (List Asked)) → AreFrom log c (l ∷ ls) → makings_of l ≡ made_by c log
head_from log c l ls from = from 0 (omega arith) ∙ ap (λ (m : ℕ). made_by m log) (omega arith)

pub length-all_placed : (entries : List Entry) (c : ℕ) (ls : List (List Asked)) → length (all_placed entries c ls) ≡ length entries
length-all_placed entries c [] = refl
length-all_placed entries c (l ∷ ls) = length-all_placed (placed entries c l) (c + 1) ls ∙ length-placed [] c entries l

all_keeps : (log : List Firing) (entries : List Entry) (c p : ℕ) (ls : List (List Asked)) → length entries ≡ length log → AreFrom log c ls → IsFilled log entries p → IsFilled log (all_placed entries c ls) p
all_keeps log entries c p [] long from old = old
all_keeps log entries c p (l ∷ ls) long from old =
    all_keeps log (placed entries c l) (c + 1) p ls (length-placed log c entries l ∙ long) (tail_from log c l ls from) (keeps log c entries l p long (first_are log c l (head_from log c l ls from)) old)

all_fills : (log : List Firing) (entries : List Entry) (c p : ℕ) (ls : List (List Asked)) (e : Firing) → length entries ≡ length log → AreFrom log c ls → slice_get log p ≡ Some e → c ≤ e.caller → e.caller < c + length ls → IsFilled log (all_placed entries c ls) p
all_fills log entries c p [] e long from at low high = absurd (omega (arith, low, high))
all_fills log entries c p (l ∷ ls) e long from at low high = ⊎_elim
    (λ (same : e.caller ≡ c).
    let has = subst (λ (m : ℕ). Has (record { number = p; wish = e.wish }) (made_by m log)) same (made_complete log p e at) in
    let mine = head_from log c l ls from in
    all_keeps log (placed entries c l) (c + 1) p ls (length-placed log c entries l ∙ long) (tail_from log c l ls from)
    (fills log c entries l p e.wish long (first_are log c l mine) (subst (Has (record { number = p; wish = e.wish })) (sym mine) has)))
    (λ (ne : e.caller ≢ c). all_fills log (placed entries c l) (c + 1) p ls e (length-placed log c entries l ∙ long) (tail_from log c l ls from) at (omega (arith, low, ne)) (omega (arith, high)))
    (cases_eq e.caller c)

below_at : (n : ℕ) (log : List Firing) (p : ℕ) (e : Firing) → CallersBelow n log → slice_get log p ≡ Some e → e.caller < n
below_at n [] p e below at = absurd (cc)
below_at n (x ∷ log) zero e below at = let is : x ≡ e = cc in subst (λ (f : Firing). f.caller < n) is below.0
below_at n (x ∷ log) (suc p) e below at = below_at n log p e below.1 at

same_log : (entries : List Entry) (log : List Firing) → length entries ≡ length log → ((p : ℕ) (e : Firing) → slice_get log p ≡ Some e → firing_of (entry_at entries p) ≡ e) → log_of entries ≡ log
same_log [] [] long f = refl
same_log [] (x ∷ log) long f = absurd (omega (arith, long))
same_log (y ∷ entries) [] long f = absurd (omega (arith, long))
same_log (y ∷ entries) (x ∷ log) long f = λ i. f 0 x refl i ∷ same_log entries log (omega (arith, long)) (λ p e at. f (suc p) e at) i

-- all firings at their places are the history, and are numbered
pub gathered : (log : List Firing) (lists : List (List Asked)) (blank : List Entry) → AreListsOf log lists → length blank ≡ length log → (log_of (all_placed blank 0 lists) ≡ log) × AreNumbered (all_placed blank 0 lists)
gathered log lists blank are long = (
  same_log (all_placed blank 0 lists) log (length-all_placed blank 0 lists ∙ long) (λ p e at. ap firing_of (filled p e at)),
  numbered_each (all_placed blank 0 lists) no_entry (λ n lt. let at = slice_get-get_or log n (record { caller = 0; wish = no_entry.wish }) (omega (arith, lt, length-all_placed blank 0 lists, long)) in ap {B = ℕ} (λ (e : Entry). e.number) (filled n _ at)),
)
  where
    filled : (p : ℕ) (e : Firing) → slice_get log p ≡ Some e → entry_at (all_placed blank 0 lists) p ≡ record { number = p; caller = e.caller; wish = e.wish }
    filled p e at = all_fills log blank 0 p lists e long (λ j lt. are.fired j lt ∙ ap (λ (m : ℕ). made_by m log) (omega arith)) at (omega arith) (omega (arith, below_at (length lists) log p e are.callers at)) e at

-- one reply after another
pub placed_next : (entries : List Entry) (c : ℕ) (item : Asked) (rest : List Asked) → placed (placed entries c (item ∷ [])) c rest ≡ placed entries c (item ∷ rest)
placed_next entries c (Fired wish n) rest = refl
placed_next entries c (Away wish local p) rest = refl
placed_next entries c (Blocked wish j p) rest = refl
placed_next entries c (Seen k m local) rest = refl
placed_next entries c (SeenPair e m s) rest = refl

fired_first : (m : Making) (item : Asked) (rest : List Asked) → Has m (makings_of (item ∷ [])) → Has m (makings_of (item ∷ rest))
fired_first m (Fired wish n) rest (inl e) = inl e
fired_first m (Fired wish n) rest (inr none) = absurd none
fired_first m (Away wish local p) rest h = absurd h
fired_first m (Blocked wish j p) rest h = absurd h
fired_first m (Seen k n local) rest h = absurd h
fired_first m (SeenPair e n s) rest h = absurd h

fired_rest : (m : Making) (item : Asked) (rest : List Asked) → Has m (makings_of rest) → Has m (makings_of (item ∷ rest))
fired_rest m (Fired wish n) rest h = inr h
fired_rest m (Away wish local p) rest h = h
fired_rest m (Blocked wish j p) rest h = h
fired_rest m (Seen k n local) rest h = h
fired_rest m (SeenPair e n s) rest h = h

pub no_asked : Asked
no_asked = Seen 0 0 0

-- all firings that are left have a place
abbrev pub HavePlaces : List Entry → List Asked → Type 0
HavePlaces entries list = (m : Making) → Has m (makings_of list) → m.number < length entries

pub places_first : (entries : List Entry) (list : List Asked) (i : ℕ) (d : Asked) → i < length list → HavePlaces entries (drop i list) → HavePlaces entries (get_or list i d ∷ [])
places_first entries list i d lt have m has = have m (subst (λ (l : List Asked). Has m (makings_of l)) (sym (drop_more list i d lt)) (fired_first m (get_or list i d) (drop (i + 1) list) has))

pub places_rest : (entries new : List Entry) (c : ℕ) (list : List Asked) (i : ℕ) (d : Asked) → i < length list → new ≡ placed entries c (get_or list i d ∷ []) → HavePlaces entries (drop i list) → HavePlaces new (drop (i + 1) list)
places_rest entries new c list i d lt is have m has =
    let a = have m (subst (λ (l : List Asked). Has m (makings_of l)) (sym (drop_more list i d lt)) (fired_rest m (get_or list i d) (drop (i + 1) list) has)) in
    omega (arith, a, ap length is, length-placed [] c entries (get_or list i d ∷ []))

pub placed_step : (entries new start : List Entry) (c : ℕ) (list : List Asked) (i : ℕ) (d : Asked) → i < length list → new ≡ placed entries c (get_or list i d ∷ []) → placed entries c (drop i list) ≡ placed start c list → placed new c (drop (i + 1) list) ≡ placed start c list
placed_step entries new start c list i d lt is old =
    ap (λ (es : List Entry). placed es c (drop (i + 1) list)) is ∙ (placed_next entries c (get_or list i d) (drop (i + 1) list) ∙ (ap (placed entries c) (sym (drop_more list i d lt)) ∙ old))

-- the firings of a list that is of a history have places
pub list_places : (log : List Firing) (entries : List Entry) (lists : List (List Asked)) (c : ℕ) → length log ≡ length entries → AreListsOf log lists → c < length lists → HavePlaces entries (list_by lists c)
list_places log entries lists c long are lt m has =
    let is = first_are log c (list_by lists c) (are.fired c lt) m.number m.wish has in
    let within = slice_get_within log m.number is.0 is.1 in
    omega (arith, within, long)

pub lists_step : (entries new start : List Entry) (lists : List (List Asked)) (c : ℕ) → c < length lists → new ≡ placed entries c (list_by lists c) → all_placed entries c (drop c lists) ≡ all_placed start 0 lists → all_placed new (c + 1) (drop (c + 1) lists) ≡ all_placed start 0 lists
lists_step entries new start lists c lt is old = ap (λ (es : List Entry). all_placed es (c + 1) (drop (c + 1) lists)) is ∙ (ap (all_placed entries c) (sym (drop_more lists c [] lt)) ∙ old)

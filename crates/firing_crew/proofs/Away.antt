-- No reply of a crew is away.
use Rattle.std.proofs.Common.{ℕ, ◌≡◌, ◌<◌, ◌%◌, true, List, [], ◌∷◌, ◌++◌, length, get_or, map, take, All, Contains, arith, refl, sym, ◌∙◌, ap, subst, append_assoc, length-append, AllPairs}
use Rattle.std.specs.Prelude.{slice_index}
use Rattle.std.specs.List.{range_with_len}
use Rattle.std.proofs.lemmas.Bool.{eq-eqb}
use Rattle.std.proofs.Math.Nat.{mod-eq_of_lt}
use Rattle.std.proofs.Math.Seq.{get_or-append_seam}
use Rattle.std.proofs.lemmas.List.{length-map, map-append, take-map}
use Rattle.std.proofs.lemmas.List.Elements.{All-cons, All-contains, All-get_or, All-nil, All-take, Contains-get_or}
use Rattle.std.proofs.lemmas.List.FromFn.{length-range_with_len}
use Rattle.conjunctive_compose.specs.declared.wish.StepAnswer.TheVariants.{Away as AwayAnswer}
use Rattle.conjunctive_compose.specs.declared.wish.Wish.{Wish}
use Rattle.conjunctive_compose.specs.System.{SystemParts, process_count}
use Rattle.conjunctive_compose.specs.Whole.{local_at, start_local, start_of}
use Rattle.conjunctive_compose.specs.Firing.{arc_of}
use Rattle.conjunctive_compose.specs.Order.{IsTold, MayFollow}
use Rattle.conjunctive_compose.specs.Reply.{IsRefusedAt, ReplyHolds, after_first, away_at}
use Rattle.conjunctive_compose.proofs.Filters.{filter_has}
use Rattle.firing_journal.specs.declared.asked.Asked.{Asked}
use Rattle.firing_journal.specs.declared.asked.Asked.TheVariants.{Fired, Away, Blocked, Seen, SeenPair}
use Rattle.firing_journal.specs.declared.journal.Entry.{Entry}
use Rattle.firing_journal.specs.Journal.{wishes_of, wish_of}
use Rattle.firing_journal.specs.Report.{IsLawful, IsToldOf, entries_by, fired_of, is_by, list_by, told_of}
use Rattle.firing_crew.specs.Laws.{AreByRule, NeverAway}
use Rattle.firing_crew.specs.declared.orders.Orders.{Orders}
use Rattle.firing_crew.specs.Workers.{AreReplies, IsNotAway, WorkerParts, Wishes, first_worker}
use Rattle.firing_crew.specs.inside.Working.{after_all}
use Rattle.firing_crew.proofs.Entries.{before_away}
use Rattle.firing_crew.proofs.Locals.{local_after, local_filter, local_from}
use Rattle.firing_crew.proofs.Own.{IsOwn, Owns, fired_own, locals_known, next_behind, owns_all}

all_behind : {X : Type 0} (P : X → Type 0) (front xs : List X) → ((fore : List X) (x : X) (back : List X) → front ++ xs ≡ fore ++ x ∷ back → P x) → All P xs
all_behind P front [] each = All-nil P
all_behind P front (x ∷ xs) each = All-cons P x xs (each front x xs refl) (all_behind P (front ++ x ∷ []) xs (λ fore y back is. each fore y back (sym (append_assoc front (x ∷ []) xs) ∙ is)))

module _ (sys : SystemParts) (orders : Orders) (entries : List Entry) (lists : List (List Asked)) (rule : AreByRule sys orders lists) (lawful : IsLawful sys entries lists) where
  abbrev run : List Wish
  run = wishes_of entries

  first_owns : (c : ℕ) → c < orders.callers → Owns orders.callers c (first_worker sys orders c)
  first_owns c lt = record { caller = refl; next = mod-eq_of_lt lt }

  -- an entry is one of its caller's processes
  entry_own : (i : ℕ) (d : Entry) → i < length entries → (get_or entries i d).wish.process % orders.callers ≡ (get_or entries i d).caller
  entry_own i d lt =
      let e : Entry = get_or entries i d in
      let c : ℕ = e.caller in
      let listed : c < length lists = lawful.listed i d lt in
      let below : c < orders.callers = omega (arith, listed, rule.callers) in
      let among : Contains (entries_by c entries) e = filter_has (is_by c) entries e (Contains-get_or entries i d lt) (eq-eqb c c refl) in
      let own : All (IsOwn orders.callers c) (entries_by c entries) = subst (All (IsOwn orders.callers c)) (sym (lawful.each_once c listed)) (fired_own sys orders c (first_worker sys orders c) (list_by lists c) below (first_owns c below) (rule.replies c below)) in
      All-contains (IsOwn orders.callers c) (entries_by c entries) e own among

  -- so the entries of a process are all by its caller
  by_owner : (c k : ℕ) → k % orders.callers ≡ c → (p i : ℕ) (d : Entry) → i < length (take p entries) → (get_or (take p entries) i d).wish.process ≡ k → is_by c (get_or (take p entries) i d) ≡ true
  by_owner c k own p i d lt is =
      let e : Entry = get_or (take p entries) i d in
      let same : e.wish.process % orders.callers ≡ e.caller = All-take (λ (e : Entry). e.wish.process % orders.callers ≡ e.caller) p entries entry_own i d lt in
      eq-eqb e.caller c (sym same ∙ ap (λ (x : ℕ). x % orders.callers) is ∙ own)

  not_away : (c : ℕ) → c < orders.callers → (front back : List Asked) (wish : Wish) (local p : ℕ) → list_by lists c ≡ front ++ Away wish local p ∷ back → ⊥
  not_away c lt front back wish local p split = holds.answered.1 (leaves ∙ sym state ∙ sym holds.answered.0)
    where
      k : ℕ
      k = wish.process

      first : WorkerParts
      first = first_worker sys orders c

      w : WorkerParts
      w = after_all sys orders.callers first front

      listed : c < length lists
      listed = omega (arith, lt, rule.callers)

      told : IsTold sys run (map told_of (list_by lists c))
      told = All-get_or (IsToldOf sys entries) lists c [] listed lawful.told

      split_told : map told_of (list_by lists c) ≡ map told_of front ++ away_at wish local p ∷ map told_of back
      split_told = ap (map told_of) split ∙ map-append told_of front (Away wish local p ∷ back)

      holds : IsRefusedAt sys run wish (AwayAnswer local) p
      holds = All-contains (ReplyHolds sys run) (map told_of front ++ away_at wish local p ∷ map told_of back) (away_at wish local p) (subst (All (ReplyHolds sys run)) split_told told.holds) (length (map told_of front), omega (arith, length-append (map told_of front) (away_at wish local p ∷ map told_of back)), get_or-append_seam (map told_of front) (away_at wish local p) (map told_of back) (away_at wish local p))

      before : entries_by c (take p entries) ≡ fired_of c front
      before = before_away sys run wish c local p entries front back lawful.numbered (lawful.each_once c listed ∙ ap (fired_of c) split) (subst (AllPairs (MayFollow sys run)) split_told told.order)

      comes : Wishes sys orders.turn w wish
      comes = next_behind sys orders first front (Away wish local p) back (subst (AreReplies sys orders first) split (rule.replies c lt))

      own : k % orders.callers ≡ c
      own = ap (λ (x : ℕ). x % orders.callers) comes.1.process ∙ (owns_all sys orders.callers c first front lt (first_owns c lt)).next

      known : k < length first.locals
      known = omega (arith, holds.fits.process_in, length-map (range_with_len 0 (process_count sys)) (start_local sys), length-range_with_len 0 (process_count sys))

      state : local_at (after_first sys run p) k ≡ slice_index w.locals k
      state =
          local_after sys (start_of sys) k (take p run) known
          ∙ ap (local_from sys k (slice_index first.locals k)) (take-map wish_of p entries)
          ∙ local_filter sys k (slice_index first.locals k) (is_by c) (take p entries) (λ i d lt. by_owner c k own p i d lt)
          ∙ ap (λ (es : List Entry). local_from sys k (slice_index first.locals k) (wishes_of es)) before
          ∙ sym (locals_known sys orders.callers c k first front known)

      leaves : (arc_of sys k wish.arc).from ≡ slice_index w.locals k
      leaves = subst (λ (x : ℕ). (arc_of sys x wish.arc).from ≡ slice_index w.locals x) (sym comes.1.process) comes.1.arc.leaving

  is_not_away : (c : ℕ) → c < orders.callers → (front : List Asked) (x : Asked) (back : List Asked) → list_by lists c ≡ front ++ x ∷ back → IsNotAway x
  is_not_away c lt front (Fired wish n) back split = tt
  is_not_away c lt front (Away wish local p) back split = not_away c lt front back wish local p split
  is_not_away c lt front (Blocked wish j p) back split = tt
  is_not_away c lt front (Seen k m local) back split = tt
  is_not_away c lt front (SeenPair e m s) back split = tt

pub never_away : NeverAway
never_away sys orders entries lists rule lawful c lt = all_behind IsNotAway [] (list_by lists c) (λ front x back split. is_not_away sys orders entries lists rule lawful c lt front x back split)

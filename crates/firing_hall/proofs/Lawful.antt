-- The lists of all callers and the gathered journal are a lawful report.
use Rattle.std.proofs.Common.{ℕ, zero, suc, ◌≡◌, ◌<◌, ◌+◌, Bool, true, false, List, [], ◌∷◌, length, map, get_or, arith, refl, sym, ◌∙◌, ap, subst}
use Rattle.std.specs.Prelude.{cond, ◌==◌}
use Rattle.std.proofs.lemmas.Bool.{eqb-true}
use Rattle.std.proofs.lemmas.List.{get_or_default}
use Rattle.conjunctive_compose.specs.Order.{IsTold}
use Rattle.conjunctive_compose.specs.declared.wish.Wish.{Wish}
use Rattle.conjunctive_compose.specs.Run.{IsRun}
use Rattle.conjunctive_compose.specs.System.{SystemParts, IsSystem}
use Rattle.conjunctive_compose.specs.Whole.{start_of}
use Rattle.firing_words.specs.declared.view.Item.{Item}
use Rattle.firing_words.specs.declared.view.View.{View}
use Rattle.firing_words.specs.History.{CallersBelow, Firing, Making, made_by, made_from, wishes}
use Rattle.firing_words.specs.Notes.{made_of}
use Rattle.firing_words.specs.Telling.{AreTold}
use Rattle.firing_words.specs.Views.{IsPartOf}
use Rattle.firing_words.proofs.Telling.{told_of_track}
use Rattle.firing_journal.specs.Journal.{AreNumbered, wishes_of}
use Rattle.firing_journal.specs.Report.{IsLawful, entries_by, fired_of, list_by, told_of}
use Rattle.firing_journal.proofs.Numbered.{number_at}
use Rattle.firing_hall.specs.inside.Gathering.{AreListsOf, makings_of}
use Rattle.firing_hall.specs.Reports.{HasLists, log_of}
use Rattle.firing_journal.specs.declared.asked.Asked.{Asked}
use Rattle.firing_journal.specs.declared.asked.Asked.TheVariants.{Fired, Away, Blocked, Seen as SeenAsked, SeenPair}
use Rattle.firing_journal.specs.declared.journal.Entry.{Entry}

-- the firings of a list are the entries of what it is told of
made_same : (sys : SystemParts) (ys : List Item) (list : List Asked) → AreTold sys ys (map told_of list) → made_of ys ≡ makings_of list
made_same sys [] [] told = refl
made_same sys [] (a ∷ list) told = absurd told
made_same sys (y ∷ ys) [] told = absurd told
made_same sys (y ∷ ys) (Fired wish n ∷ list) told = ap (λ (x : Item). made_of (x ∷ ys)) told.0 ∙ ap (λ (l : List Making). record { number = n; wish = wish } ∷ l) (made_same sys ys list told.1)
made_same sys (y ∷ ys) (Away wish local p ∷ list) told = ap (λ (x : Item). made_of (x ∷ ys)) told.0.1 ∙ made_same sys ys list told.1
made_same sys (y ∷ ys) (Blocked wish j p ∷ list) told = ap (λ (x : Item). made_of (x ∷ ys)) told.0.1 ∙ made_same sys ys list told.1
made_same sys (y ∷ ys) (SeenAsked k m local ∷ list) told = ap (λ (x : Item). made_of (x ∷ ys)) told.0 ∙ made_same sys ys list told.1
made_same sys (y ∷ ys) (SeenPair e m s ∷ list) told = ap (λ (x : Item). made_of (x ∷ ys)) told.0 ∙ made_same sys ys list told.1

pub lists_of : (sys : SystemParts) (v : View) (log : List Firing) (lists : List (List Asked)) → IsPartOf sys (length lists) v log → HasLists sys v lists → AreListsOf log lists
lists_of sys v log lists part has = record {
  callers = part.1;
  fired = λ c lt.
      let t = has c lt in
      let track = part.4 t.0 t.1 in
      sym (made_same sys t.0.items (list_by lists c) t.3) ∙ (track.made ∙ ap (λ (k : ℕ). made_by k log) t.2);
}

-- a caller's firing, as an entry
abbrev entry_for : ℕ → Making → Entry
entry_for c m = record { number = m.number; caller = c; wish = m.wish }

fired_same : (c : ℕ) (list : List Asked) → fired_of c list ≡ map (entry_for c) (makings_of list)
fired_same c [] = refl
fired_same c (Fired wish n ∷ list) = ap (λ (l : List Entry). record { number = n; caller = c; wish = wish } ∷ l) (fired_same c list)
fired_same c (Away wish local p ∷ list) = fired_same c list
fired_same c (Blocked wish j p ∷ list) = fired_same c list
fired_same c (SeenAsked k m local ∷ list) = fired_same c list
fired_same c (SeenPair e m s ∷ list) = fired_same c list

-- the numbers of the entries rise by one from n on
abbrev AreNumberedFrom : ℕ → List Entry → Type 0
AreNumberedFrom n entries = (i : ℕ) (d : Entry) → i < length entries → (get_or entries i d).number ≡ n + i

entries_same : (c n : ℕ) (entries : List Entry) → AreNumberedFrom n entries → entries_by c entries ≡ map (entry_for c) (made_from c n (log_of entries))
entries_same c n [] numbered = refl
entries_same c n (e ∷ es) numbered = by_head (e.caller == c) refl (entries_same c (suc n) es (λ i d lt. numbered (suc i) d (omega (arith, lt)) ∙ omega arith))
  where
    made : Making
    made = record { number = n; wish = e.wish }

    by_head : (b : Bool) → (e.caller == c) ≡ b → entries_by c es ≡ map (entry_for c) (made_from c (suc n) (log_of es)) → cond b (e ∷ entries_by c es) (entries_by c es) ≡ map (entry_for c) (cond b (made ∷ made_from c (suc n) (log_of es)) (made_from c (suc n) (log_of es)))
    by_head true is rest =
        let number : e.number ≡ n = numbered 0 e (omega arith) ∙ omega arith in
        let caller : e.caller ≡ c = eqb-true e.caller c is in
        λ i. record { number = number i; caller = caller i; wish = e.wish } ∷ rest i
    by_head false is rest = rest

have_lists : (n : ℕ) (entries : List Entry) → CallersBelow n (log_of entries) → (i : ℕ) (d : Entry) → i < length entries → (get_or entries i d).caller < n
have_lists n [] below i d lt = absurd (omega (arith, lt))
have_lists n (e ∷ es) below zero d lt = below.0
have_lists n (e ∷ es) below (suc i) d lt = have_lists n es below.1 i d (omega (arith, lt))

wishes_same : (entries : List Entry) → wishes (log_of entries) ≡ wishes_of entries
wishes_same [] = refl
wishes_same (e ∷ es) = ap (λ (l : List Wish). e.wish ∷ l) (wishes_same es)

lawful_from : (sys : SystemParts) (entries : List Entry) (lists : List (List Asked)) → IsRun sys (start_of sys) (wishes (log_of entries)) → AreNumbered entries → AreListsOf (log_of entries) lists → ((c : ℕ) → c < length lists → IsTold sys (wishes (log_of entries)) (map told_of (list_by lists c))) → IsLawful sys entries lists
lawful_from sys entries lists run numbered are told = record {
  run = subst (IsRun sys (start_of sys)) (wishes_same entries) run;
  numbered = numbered;
  listed = have_lists (length lists) entries are.callers;
  each_once = λ c lt. entries_same c 0 entries (λ i d within. number_at entries i d numbered within ∙ omega arith) ∙ (ap (map (entry_for c)) (sym (are.fired c lt)) ∙ sym (fired_same c (list_by lists c)));
  told = λ c d lt. subst (λ (list : List Asked). IsTold sys (wishes_of entries) (map told_of list)) (get_or_default lists c [] d lt) (subst (λ (run : List Wish). IsTold sys run (map told_of (list_by lists c))) (wishes_same entries) (told c lt));
}

pub lawful_of : (sys : SystemParts) (v : View) (log : List Firing) (entries : List Entry) (lists : List (List Asked)) → IsSystem sys → IsPartOf sys (length lists) v log → HasLists sys v lists → log_of entries ≡ log → AreNumbered entries → IsLawful sys entries lists
lawful_of sys v log entries lists system part has is numbered = lawful_from sys entries lists
    (subst (λ (l : List Firing). IsRun sys (start_of sys) (wishes l)) (sym is) part.0)
    numbered
    (subst (λ (l : List Firing). AreListsOf l lists) (sym is) (lists_of sys v log lists part has))
    (λ c lt.
    let t = has c lt in
    subst (λ (l : List Firing). IsTold sys (wishes l) (map told_of (list_by lists c))) (sym is) (told_of_track sys log t.0 (map told_of (list_by lists c)) system part.0 (part.4 t.0 t.1) t.3))

-- How a hand and its view go on together.
use Rattle.std.proofs.Common.{ℕ, zero, suc, Result, Ok, Err, ◌≡◌, ◌≢◌, ◌<◌, ◌≤◌, ◌+◌, ◌==◌, inl, inr, ⊎_elim, Bool, true, false, cond, List, [], ◌∷◌, ◌++◌, drop, length, length-append, get_or, arith, refl, sym, ◌∙◌, ap, subst}
use Rattle.std.specs.Prelude.{IfErr, IfOk}
use Rattle.std.proofs.lemmas.Bool.{cases_lt}
use Rattle.std.proofs.lemmas.List.{drop_more}
use mathlib.Core.List.{map-append}
use Rattle.conjunctive_compose.specs.declared.wish.StepAnswer.{StepAnswer}
use Rattle.conjunctive_compose.specs.declared.wish.StepAnswer.TheVariants.{Moved, Away, Blocked}
use Rattle.conjunctive_compose.specs.declared.wish.Wish.{Wish}
use Rattle.conjunctive_compose.specs.Firing.{WishFits}
use Rattle.conjunctive_compose.specs.System.{SystemParts, IsSystem, process_count}
use Rattle.conjunctive_compose.specs.Whole.{start_of}
use Rattle.conjunctive_compose.proofs.Edges.{role_lawful}
use Rattle.conjunctive_compose.proofs.Starts.{start_is_proper}
use Rattle.firing_words.specs.declared.limits.TheConstants.{HALF_WORD, MAX_ENTRIES}
use Rattle.firing_words.specs.declared.cell.Cell.{Cell}
use Rattle.firing_words.specs.declared.cell.Cell.TheVariants.{Process}
use Rattle.firing_words.specs.declared.cell.Reading.{Reading}
use Rattle.firing_words.specs.declared.view.Item.{Item}
use Rattle.firing_words.specs.declared.view.Item.TheVariants.{Made}
use Rattle.firing_words.specs.declared.view.Track.{Track}
use Rattle.firing_words.specs.declared.view.View.{View}
use Rattle.firing_words.specs.Cells.{HasContent, IsCell, is_under}
use Rattle.firing_words.specs.Firings.{IsDecided}
use Rattle.firing_words.specs.Hands.{Agrees, IsFirstCaller, remembered}
use Rattle.firing_words.specs.History.{IsPossible, Knows}
use Rattle.firing_words.specs.Judged.{AreStorable, IsAnswered, IsMovable}
use Rattle.firing_words.specs.inside.Judging.{IsJudged}
use Rattle.firing_words.specs.Lists.{Has}
use Rattle.firing_words.specs.Stars.{AreKnown, IsKnown}
use Rattle.firing_words.specs.Views.{IsOne, callers_of, committed, does, forgotten, holding, joined, knowing, opened_from, rest_of, stored, track_tried, tried, unlocked}
use Rattle.firing_words.proofs.Deciding.{is_firing}
use Rattle.firing_words.proofs.Lists.{first_of, has_push}
use Rattle.firing_words.proofs.Seats.{callers-does, callers-map}

nothing_known : (sys : SystemParts) (known : List Reading) → IsSystem sys → known ≡ [] → IsPossible sys known
nothing_known sys known system none = (start_of sys, (start_is_proper sys system).proper, λ r has. let n : Has r [] = subst (Has r) none has in absurd n)

-- a step that changes neither callers nor what is known or owed
pub agrees_still : (sys : SystemParts) (v w : View) (caller at : ℕ) (known owed : List Reading) → callers_of w ≡ callers_of v → w.known ≡ v.known → w.owed ≡ v.owed → Agrees sys v caller at known owed → Agrees sys w caller at known owed
agrees_still sys v w caller at known owed callers same done a = record {
  mine = (a.mine.0, callers ∙ a.mine.1);
  sound = subst (λ (k : List Reading). AreKnown k known) (sym same) a.sound;
  possible = subst (IsPossible sys) (sym same) a.possible;
  owing = done ∙ a.owing;
  storable = subst (AreStorable sys) (sym done) a.storable;
}

pub agrees_does : (sys : SystemParts) (v w : View) (z : Item) (caller at : ℕ) (known owed : List Reading) → w ≡ does v z → Agrees sys v caller at known owed → Agrees sys w caller at known owed
agrees_does sys v w z caller at known owed is a = agrees_still sys v w caller at known owed (ap callers_of is ∙ callers-does v z) (ap (λ (u : View). u.known) is) (ap (λ (u : View). u.owed) is) a

-- a lock is won or lost
pub agrees_locked : (sys : SystemParts) (v w : View) (l c n caller at : ℕ) (known owed : List Reading) (result : Result (Unit {0}) ℕ) → IfOk result (λ _. w ≡ holding v l) → IfErr result (λ holder. (holder ≢ c) × (holder < n) × (w ≡ tried v l holder))
    → Agrees sys v caller at known owed → Agrees sys w caller at known owed
agrees_locked sys v w l c n caller at known owed (Ok u) won lost a = agrees_still sys v w caller at known owed (ap callers_of won) (ap (λ (x : View). x.known) won) (ap (λ (x : View). x.owed) won) a
agrees_locked sys v w l c n caller at known owed (Err h) won (ne, lt, lost) a =
    agrees_still sys v w caller at known owed (ap callers_of lost ∙ callers-map (track_tried l h) (λ t. refl) v.tracks) (ap (λ (x : View). x.known) lost) (ap (λ (x : View). x.owed) lost) a

-- the one caller of a view is the hand's
pub only_caller : (sys : SystemParts) (v : View) (caller at : ℕ) (known owed : List Reading) → IsOne v → Agrees sys v caller at known owed → callers_of v ≡ caller ∷ []
only_caller sys v caller at known owed (c, one) a = one ∙ ap {B = List ℕ} (λ (x : ℕ). x ∷ []) (first_same (sym one ∙ a.mine.1))
  where
    first_same : {x y : ℕ} {xs ys : List ℕ} → x ∷ xs ≡ y ∷ ys → x ≡ y
    first_same e = cc

known_wider : (known : List Reading) (r q : Reading) → IsKnown known q → IsKnown (r ∷ known) q
known_wider known r q is = record { has = inr is.has; moves = is.moves; content = is.content }

-- one reading more
pub agrees_knows : (sys : SystemParts) (v w : View) (caller at most : ℕ) (known owed : List Reading) (r : Reading) → w ≡ knowing v r → IsPossible sys w.known → r.moves ≤ MAX_ENTRIES → r.content < HALF_WORD → Agrees sys v caller at known owed
    → Agrees sys w caller at (remembered most known r) owed
agrees_knows sys v w caller at most known owed r is possible moves content a = subst (λ (u : View). IsPossible sys u.known → Agrees sys u caller at (remembered most known r) owed) (sym is)
    (λ may. record { mine = a.mine; sound = by_room (length known == most); possible = may; owing = a.owing; storable = a.storable })
    possible
  where
    new : IsKnown (r ∷ v.known) r
    new = record { has = inl refl; moves = moves; content = content }

    by_room : (b : Bool) → AreKnown (r ∷ v.known) (cond b (r ∷ []) (known ++ r ∷ []))
    by_room true q has = ⊎_elim (λ (e : r ≡ q). subst (IsKnown (r ∷ v.known)) e new) (λ (n : Has q []). absurd n) has
    by_room false q has = ⊎_elim (λ (h : Has q known). known_wider v.known r q (a.sound q h)) (λ (e : r ≡ q). subst (IsKnown (r ∷ v.known)) e new) (has_push q r known has)

forgotten_less : (sys : SystemParts) (l : ℕ) (known : List Reading) (q : Reading) → Has q (forgotten sys l known) → Has q known
forgotten_less sys l [] q h = h
forgotten_less sys l (r ∷ known) q h = by_head (is_under sys l r.cell) (forgotten_less sys l known q) h
  where
    by_head : (b : Bool) → (Has q (forgotten sys l known) → Has q known) → Has q (cond b (forgotten sys l known) (r ∷ forgotten sys l known)) → Has q (r ∷ known)
    by_head true less i = inr (less i)
    by_head false less i = ⊎_elim (λ (e : r ≡ q). inl e) (λ (j : Has q (forgotten sys l known)). inr (less j)) i

-- a lock is given up, and with it all that the hand keeps
pub agrees_unlocked : (sys : SystemParts) (v w : View) (l caller at : ℕ) (known now owed : List Reading) → w ≡ unlocked sys v l → now ≡ [] → Agrees sys v caller at known owed → Agrees sys w caller at now owed
agrees_unlocked sys v w l caller at known now owed is none a = subst (λ (p : View × List Reading). Agrees sys p.0 caller at p.1 owed) (λ i. (sym is i, sym none i)) (record {
  mine = a.mine;
  sound = λ r has. absurd has;
  possible = let p = a.possible in (p.0, p.1, λ r has. p.2 r (forgotten_less sys l v.known r has));
  owing = a.owing;
  storable = a.storable;
})

-- an entry is made: the stores are owed
pub agrees_committed : (sys : SystemParts) (v w : View) (n caller at : ℕ) (wish : Wish) (known now owed stores : List Reading) → IsSystem sys → w ≡ committed v n wish stores → now ≡ [] → AreStorable sys stores → Agrees sys v caller at known owed
    → Agrees sys w caller 0 now stores
agrees_committed sys v w n caller at wish known now owed stores system is none storable a = subst (λ (p : View × List Reading). Agrees sys p.0 caller 0 p.1 stores) (λ i. (sym is i, sym none i)) (record {
  mine = (a.mine.0, callers-does v (Made n wish) ∙ a.mine.1);
  sound = λ r has. absurd has;
  possible = nothing_known sys [] system refl;
  owing = refl;
  storable = storable;
})

rest_less : (r : Reading) (rs : List Reading) → Has r (rest_of rs) → Has r rs
rest_less r [] h = h
rest_less r (q ∷ rs) h = inr h

-- what is owed next, where something is
pub owed_next : (sys : SystemParts) (v : View) (caller at : ℕ) (known owed : List Reading) (d : Reading) → at < length owed → Agrees sys v caller at known owed → v.owed ≡ get_or owed at d ∷ drop (at + 1) owed
owed_next sys v caller at known owed d lt a = a.owing ∙ drop_more owed at d lt

nothing_behind : (owed : List Reading) (at : ℕ) → length owed ≤ at → drop at owed ≡ []
nothing_behind [] zero le = refl
nothing_behind [] (suc at) le = refl
nothing_behind (r ∷ owed) zero le = absurd (omega (arith, le))
nothing_behind (r ∷ owed) (suc at) le = nothing_behind owed at (omega (arith, le))

pub owes_within : (sys : SystemParts) (v : View) (caller at : ℕ) (known owed : List Reading) → v.owed ≢ [] → Agrees sys v caller at known owed → at < length owed
owes_within sys v caller at known owed some a = ⊎_elim (λ (lt : at < length owed). lt) (λ (le : length owed ≤ at). absurd (some (a.owing ∙ nothing_behind owed at le))) (cases_lt at (length owed))

pub owes_some : (sys : SystemParts) (v : View) (caller at : ℕ) (known owed : List Reading) (d : Reading) → at < length owed → Agrees sys v caller at known owed → v.owed ≢ []
owes_some sys v caller at known owed d lt a none = let next = owed_next sys v caller at known owed d lt a in absurd (let no = sym next ∙ none in cc)

-- a process's local state fits a byte, where some whole state has what was read
pub local_small : (sys : SystemParts) (k : ℕ) (r : Reading) (known : List Reading) → IsSystem sys → k < process_count sys → r.cell ≡ Process k → Has r known → IsPossible sys known → r.content < 256
local_small sys k r known system lt cell has (w, proper, knows) =
    let there = subst (λ (i : Cell). HasContent sys w i r.content) cell (knows r has) in
    omega (arith, there, proper.within k lt, (role_lawful sys k system lt).few_locals)

-- what is stored next fits its word
pub next_storable : (sys : SystemParts) (v : View) (caller at : ℕ) (known owed : List Reading) (d : Reading) → at < length owed → Agrees sys v caller at known owed → IsCell sys (get_or owed at d).cell × ((get_or owed at d).moves < HALF_WORD) × ((get_or owed at d).content < HALF_WORD)
next_storable sys v caller at known owed d lt a = a.storable (get_or owed at d) (first_of (get_or owed at d) v.owed (drop (at + 1) owed) (owed_next sys v caller at known owed d lt a))

pub agrees_stored : (sys : SystemParts) (v w : View) (caller at : ℕ) (known owed : List Reading) (d : Reading) → w ≡ stored v → at < length owed → Agrees sys v caller at known owed → Agrees sys w caller (at + 1) known owed
agrees_stored sys v w caller at known owed d is lt a = subst (λ (u : View). Agrees sys u caller (at + 1) known owed) (sym is) (record {
  mine = a.mine;
  sound = a.sound;
  possible = a.possible;
  owing = ap rest_of (owed_next sys v caller at known owed d lt a);
  storable = λ r has. a.storable r (rest_less r v.owed has);
})

-- another view is taken in
pub agrees_joined : (sys : SystemParts) (v u w : View) (caller at : ℕ) (known owed : List Reading) → IsSystem sys → w ≡ joined v u → v.known ≡ [] → v.owed ≡ [] → Agrees sys v caller at known owed → Agrees sys w caller at known owed
agrees_joined sys v u w caller at known owed system is none done a = subst (λ (x : View). Agrees sys x caller at known owed) (sym is) (record {
  mine = (a.mine.0 ++ callers_of u, map-append (λ (t : Track). t.caller) v.tracks u.tracks ∙ ap (λ (l : List ℕ). l ++ callers_of u) a.mine.1);
  sound = subst (λ (k : List Reading). AreKnown k known) none a.sound;
  possible = nothing_known sys [] system refl;
  owing = sym done ∙ a.owing;
  storable = λ r has. absurd has;
})

-- what a firing would store is made ready, and nothing is owed
pub agrees_judged : (sys : SystemParts) (v : View) (caller at : ℕ) (known owed ready : List Reading) → v.owed ≡ [] → Agrees sys v caller at known owed → Agrees sys v caller (length ready) known ready
agrees_judged sys v caller at known owed ready done a = record {
  mine = a.mine;
  sound = a.sound;
  possible = a.possible;
  owing = done ∙ sym (nothing_behind ready (length ready) (omega arith));
  storable = a.storable;
}

pub judged_answered : (sys : SystemParts) (known : List Reading) (wish : Wish) (stores : List Reading) (answer : StepAnswer) → IsSystem sys → WishFits sys wish → IsJudged sys known wish stores answer → IsAnswered sys known wish answer
judged_answered sys known wish stores Moved system fits judged = (is_firing sys known wish stores system fits judged.0).moves
judged_answered sys known wish stores (Away local) system fits judged = judged
judged_answered sys known wish stores (Blocked j) system fits judged = judged

-- a wish that moves wherever the whole state has what is known has no other answer
pub never_away : (sys : SystemParts) (known : List Reading) (wish : Wish) (local : ℕ) → IsPossible sys known → IsMovable sys known wish → IsDecided sys known wish (Away local) → ⊥
never_away sys known wish local (w, proper, knows) moves decided = let away = decided w proper knows in away.1 ((moves w proper knows).leaves ∙ sym away.0)

pub never_blocked : (sys : SystemParts) (known : List Reading) (wish : Wish) (j : ℕ) → IsPossible sys known → IsMovable sys known wish → IsDecided sys known wish (Blocked j) → ⊥
never_blocked sys known wish j (w, proper, knows) moves decided = let blocks = (decided w proper knows).1.0 in blocks.5 ((moves w proper knows).permit blocks.0 blocks.1 blocks.2 blocks.3)

-- a hand that has done nothing
pub agrees_fresh : (sys : SystemParts) (v : View) (c : ℕ) (known owed : List Reading) → IsSystem sys → v ≡ opened_from c 1 → known ≡ [] → owed ≡ [] → Agrees sys v c 0 known owed
agrees_fresh sys v c known owed system is none ready = subst (λ (p : View × List Reading × List Reading). Agrees sys p.0 c 0 p.1 p.2) (λ i. (sym is i, sym none i, sym ready i)) (record {
  mine = ([], refl);
  sound = λ r has. absurd has;
  possible = nothing_known sys [] system refl;
  owing = refl;
  storable = λ r has. absurd has;
})

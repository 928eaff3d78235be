-- One reply more.
use Rattle.std.proofs.Common.{ℕ, ◌≡◌, ◌+◌, Some, None, List, [], ◌∷◌, ◌++◌, length, length-append, refl, ap, sym, ◌∙◌, subst}
use Rattle.std.specs.Prelude.{IfSome}
use Rattle.conjunctive_compose.specs.declared.wish.Wish.{Wish}
use Rattle.conjunctive_compose.specs.System.{SystemParts}
use Rattle.firing_journal.specs.declared.asked.Asked.{Asked}
use Rattle.firing_journal.specs.declared.asked.Asked.TheVariants.{Fired as FiredAsked, Away as AwayAsked, Blocked as BlockedAsked, Seen as SeenAsked}
use Rattle.firing_hall.specs.declared.reply.Reply.{Reply}
use Rattle.firing_hall.specs.declared.reply.Reply.TheVariants.{Fired, Away, Blocked, Full, Busy}
use Rattle.firing_hall.specs.declared.looking.Looked.{Looked}
use Rattle.firing_hall.specs.declared.looking.Looked.TheVariants.{Seen, Full as FullLook}
use Rattle.firing_words.specs.Of.{system_of}
use Rattle.firing_hall.specs.declared.firing.Hall.{Hall}
use Rattle.firing_hall.specs.declared.pass.Pass.{Pass}
use Rattle.firing_hall.specs.Gates.{IsAnswered}
use Rattle.firing_hall.specs.Passes.{IsPassOf, kept_look, kept_of, with_kept}
use Rattle.firing_crew.specs.declared.orders.Orders.{Orders}
use Rattle.firing_crew.specs.Workers.{AreReplies, IsNextReply, IsNextWish, WorkerParts, after_reply, first_worker}
use Rattle.firing_crew.specs.inside.Working.{IsWorkerOf, StandsAt, Works, after_all}

-- what is not answered is not kept
pub unanswered : (r : Reply) (wish : Wish) (list : List Asked) → (IsAnswered r → ⊥) → with_kept list (kept_of wish r) ≡ list
unanswered (Fired n) wish list not = absurd (not tt)
unanswered (Away local p) wish list not = absurd (not tt)
unanswered (Blocked j p) wish list not = absurd (not tt)
unanswered Full wish list not = refl
unanswered (Busy lock holder) wish list not = refl

after_push : (sys : SystemParts) (n : ℕ) (w : WorkerParts) (list : List Asked) (asked : Asked) → after_all sys n w (list ++ asked ∷ []) ≡ after_reply sys n (after_all sys n w list) asked
after_push sys n w [] asked = refl
after_push sys n w (first ∷ list) asked = after_push sys n (after_reply sys n w first) list asked

replies_push : (sys : SystemParts) (orders : Orders) (w : WorkerParts) (list : List Asked) (asked : Asked) → AreReplies sys orders w list → IsNextReply sys orders.turn (after_all sys orders.callers w list) asked → AreReplies sys orders w (list ++ asked ∷ [])
replies_push sys orders w [] asked are next = (next, tt)
replies_push sys orders w (first ∷ list) asked are next = (are.0, replies_push sys orders (after_reply sys orders.callers w first) list asked are.1 next)

-- the reply comes next, and the worker has taken it in
pub stands_push : (sys : SystemParts) (orders : Orders) (c : ℕ) (list : List Asked) (v w : WorkerParts) (asked : Asked) → StandsAt sys orders c list v → IsNextReply sys orders.turn v asked → w ≡ after_reply sys orders.callers v asked → IsWorkerOf sys w → StandsAt sys orders c (list ++ asked ∷ []) w
stands_push sys orders c list v w asked stands next heard of = record {
  of = of;
  replies = replies_push sys orders (first_worker sys orders c) list asked stands.replies (subst (λ (u : WorkerParts). IsNextReply sys orders.turn u asked) stands.behind next);
  behind = heard ∙ ap (λ (u : WorkerParts). after_reply sys orders.callers u asked) stands.behind ∙ sym (after_push sys orders.callers (first_worker sys orders c) list asked);
}

pub record StandsOn (sys : SystemParts) (orders : Orders) (c : ℕ) (list now : List Asked) (w : WorkerParts) : Type 0 where
  pub stands : StandsAt sys orders c now w
  pub more : length now ≡ length list + 1

pushed : (sys : SystemParts) (orders : Orders) (c : ℕ) (list now : List Asked) (v w : WorkerParts) (asked : Asked) → StandsAt sys orders c list v → IsNextReply sys orders.turn v asked → now ≡ list ++ asked ∷ [] → w ≡ after_reply sys orders.callers v asked → IsWorkerOf sys w → StandsOn sys orders c list now w
pushed sys orders c list now v w asked stands next is heard of = record {
  stands = subst (λ (l : List Asked). StandsAt sys orders c l w) (sym is) (stands_push sys orders c list v w asked stands next heard of);
  more = ap length is ∙ length-append list (asked ∷ []);
}

pub wish_stands : (sys : SystemParts) (orders : Orders) (c : ℕ) (list now : List Asked) (v w : WorkerParts) (wish : Wish) (r : Reply) → StandsAt sys orders c list v → v.look ≡ None → IsNextWish sys orders.turn v wish → IsAnswered r → now ≡ with_kept list (kept_of wish r) → IfSome (kept_of wish r) (λ asked. w ≡ after_reply sys orders.callers v asked) → IsWorkerOf sys w → StandsOn sys orders c list now w
wish_stands sys orders c list now v w wish (Fired n) stands none next answered is heard of = pushed sys orders c list now v w (FiredAsked wish n) stands (none, next) is heard of
wish_stands sys orders c list now v w wish (Away local p) stands none next answered is heard of = pushed sys orders c list now v w (AwayAsked wish local p) stands (none, next) is heard of
wish_stands sys orders c list now v w wish (Blocked j p) stands none next answered is heard of = pushed sys orders c list now v w (BlockedAsked wish j p) stands (none, next) is heard of
wish_stands sys orders c list now v w wish Full stands none next answered is heard of = absurd answered
wish_stands sys orders c list now v w wish (Busy lock holder) stands none next answered is heard of = absurd answered

-- the worker after a look
abbrev pub looked_away : WorkerParts → WorkerParts
looked_away v = record { caller = v.caller; next = v.next; word = v.word; locals = v.locals; look = None }

away_of : (sys : SystemParts) (v : WorkerParts) → IsWorkerOf sys v → IsWorkerOf sys (looked_away v)
away_of sys v of = record { caller = of.caller; next = of.next; word = of.word; locals = of.locals; look = λ j is. absurd (cc) }

pub look_stands : (sys : SystemParts) (orders : Orders) (c k : ℕ) (list now : List Asked) (v w : WorkerParts) (r : Looked) → StandsAt sys orders c list v → v.look ≡ Some k → (r ≡ FullLook → ⊥) → now ≡ with_kept list (kept_look k r) → w ≡ looked_away v → StandsOn sys orders c list now w
look_stands sys orders c k list now v w (Seen m local) stands look full is away = pushed sys orders c list now v w (SeenAsked k m local) stands look is away (subst (IsWorkerOf sys) (sym away) (away_of sys v stands.of))
look_stands sys orders c k list now v w FullLook stands look full is away = absurd (full refl)

works_on : (hall : Hall) (orders : Orders) (old now : Pass) (w : WorkerParts) → IsPassOf hall now → now.caller ≡ old.caller → StandsOn (system_of hall.words) orders old.caller old.asked.items now.asked.items w → Works hall orders now w
works_on hall orders old now w of caller on = record {
  of = of;
  stands = subst (λ (c : ℕ). StandsAt (system_of hall.words) orders c now.asked.items w) (sym caller) on.stands;
}

-- a wish was answered and taken in
pub wish_works : (hall : Hall) (orders : Orders) (turn : ℕ) (old now : Pass) (v w : WorkerParts) (wish : Wish) (r : Reply) (sys : SystemParts) → Works hall orders old v → sys ≡ system_of hall.words → orders.turn ≡ turn → v.look ≡ None → IsNextWish sys turn v wish → IsPassOf hall now → now.caller ≡ old.caller → now.asked.items ≡ with_kept old.asked.items (kept_of wish r) → IsAnswered r → IfSome (kept_of wish r) (λ asked. w ≡ after_reply sys orders.callers v asked) → IsWorkerOf sys w → Works hall orders now w
wish_works hall orders turn old now v w wish r sys works same told none next of caller asked answered heard worker =
    let next' = subst (λ (t : ℕ). IsNextWish (system_of hall.words) t v wish) (sym told) (subst (λ (s : SystemParts). IsNextWish s turn v wish) same next) in
    let heard' = subst (λ (s : SystemParts). IfSome (kept_of wish r) (λ asked. w ≡ after_reply s orders.callers v asked)) same heard in
    works_on hall orders old now w of caller (wish_stands (system_of hall.words) orders old.caller old.asked.items now.asked.items v w wish r works.stands none next' answered asked heard' (subst (λ (s : SystemParts). IsWorkerOf s w) same worker))

-- one more was kept
pub answered_more : (r : Reply) (wish : Wish) (list now : List Asked) → IsAnswered r → now ≡ with_kept list (kept_of wish r) → length now ≡ length list + 1
answered_more (Fired n) wish list now answered is = ap length is ∙ length-append list (FiredAsked wish n ∷ [])
answered_more (Away local p) wish list now answered is = ap length is ∙ length-append list (AwayAsked wish local p ∷ [])
answered_more (Blocked j p) wish list now answered is = ap length is ∙ length-append list (BlockedAsked wish j p ∷ [])
answered_more Full wish list now answered is = absurd answered
answered_more (Busy lock holder) wish list now answered is = absurd answered

-- a look was taken in
pub look_works : (hall : Hall) (orders : Orders) (k : ℕ) (old now : Pass) (v w : WorkerParts) (r : Looked) → Works hall orders old v → v.look ≡ Some k → IsPassOf hall now → now.caller ≡ old.caller → (r ≡ FullLook → ⊥) → now.asked.items ≡ with_kept old.asked.items (kept_look k r) → w ≡ looked_away v → Works hall orders now w
look_works hall orders k old now v w r works look of caller full asked away = works_on hall orders old now w of caller (look_stands (system_of hall.words) orders old.caller k old.asked.items now.asked.items v w r works.stands look full asked away)

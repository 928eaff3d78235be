-- What a pass keeps is told of what its caller did.
use Rattle.std.proofs.Common.{ℕ, ◌≡◌, ◌<◌, ◌≤◌, inl, inr, List, [], ◌∷◌, ◌++◌, length, length-append, map, arith, refl, sym, ◌∙◌, ap, subst}
use mathlib.Core.List.{map-append}
use Rattle.std.proofs.lemmas.List.{length-map}
use Rattle.conjunctive_compose.specs.Firing.{WishFits}
use Rattle.conjunctive_compose.specs.Reply.{Told}
use Rattle.conjunctive_compose.specs.System.{SystemParts}
use Rattle.conjunctive_compose.specs.declared.wish.Wish.{Wish}
use Rattle.firing_words.specs.declared.view.Item.{Item}
use Rattle.firing_words.specs.declared.view.Item.TheVariants.{Made, Placed, Seen}
use Rattle.firing_words.specs.declared.view.Track.{Track}
use Rattle.firing_words.specs.declared.view.View.{View}
use Rattle.firing_words.specs.declared.hand.Hand.{Hand}
use Rattle.firing_words.specs.declared.words.Words.{Words}
use Rattle.firing_words.specs.Hands.{IsOf, view}
use Rattle.firing_words.specs.Of.{system_of}
use Rattle.firing_words.specs.Lists.{Has}
use Rattle.firing_words.specs.Notes.{made_of}
use Rattle.firing_words.specs.Telling.{AreTold, Tells}
use Rattle.firing_words.specs.Views.{callers_of}
use Rattle.firing_hall.specs.inside.Replies.{IsReplied}
use Rattle.firing_hall.specs.Passes.{IsToldOf, kept_of, with_kept}
use Rattle.firing_hall.specs.Items.{OneItem, done_of, with_item}
use Rattle.firing_journal.specs.Report.{told_of}
use Rattle.firing_journal.specs.declared.asked.Asked.{Asked}
use Rattle.firing_journal.specs.declared.asked.Asked.TheVariants.{Fired as FiredAsked, Away as AwayAsked, Blocked as BlockedAsked}
use Rattle.firing_hall.specs.declared.reply.Reply.{Reply}
use Rattle.firing_hall.specs.declared.reply.Reply.TheVariants.{Fired, Away, Blocked, Full, Busy}
use Rattle.firing_hall.proofs.Replying.{has_done}

pub callers_done : (v : View) → map {B = ℕ} (λ (r : ℕ × List Item). r.0) (done_of v) ≡ callers_of v
callers_done v = along v.tracks
  where
    along : (ts : List Track) → map {B = ℕ} (λ (r : ℕ × List Item). r.0) (map {B = ℕ × List Item} (λ (t : Track). (t.caller, t.items)) ts) ≡ map (λ (t : Track). t.caller) ts
    along [] = refl
    along (t ∷ ts) = ap (λ (l : List ℕ). t.caller ∷ l) (along ts)

pub one_caller : (sys : SystemParts) (v : View) (caller : ℕ) (asked : List Asked) → IsToldOf sys v caller asked → callers_of v ≡ caller ∷ []
one_caller sys v caller asked told = sym (callers_done v) ∙ ap (map {B = ℕ} (λ (r : ℕ × List Item). r.0)) told.1

-- the hand of a pass has the pass's caller
pub same_caller : (words : Words) (hand : Hand) (caller : ℕ) (asked : List Asked) → IsOf words hand → IsToldOf (system_of words) (view hand) caller asked → hand.caller ≡ caller
same_caller words hand caller asked of told = first_same (sym of.agrees.mine.1 ∙ one_caller (system_of words) (view hand) caller asked told)
  where
    first_same : {x y : ℕ} {xs ys : List ℕ} → x ∷ xs ≡ y ∷ ys → x ≡ y
    first_same e = cc

-- no more entries than replies
made_few : (sys : SystemParts) (ys : List Item) (ts : List Told) → AreTold sys ys ts → length (made_of ys) ≤ length ts
made_few sys [] [] told = omega arith
made_few sys [] (t ∷ ts) told = absurd told
made_few sys (y ∷ ys) [] told = absurd told
made_few sys (Made n wish ∷ ys) (t ∷ ts) told = omega (arith, made_few sys ys ts told.1)
made_few sys (Placed p k known ∷ ys) (t ∷ ts) told = omega (arith, made_few sys ys ts told.1)
made_few sys (Seen r ∷ ys) (t ∷ ts) told = omega (arith, made_few sys ys ts told.1)

pub has_room : (sys : SystemParts) (v : View) (caller room : ℕ) (asked : List Asked) → IsToldOf sys v caller asked → length asked < room → (t : Track) → Has t v.tracks → length (made_of t.items) < room
has_room sys v caller room asked told lt t has =
    let d : Has {A = ℕ × List Item} (t.caller, t.items) ((caller, told.0) ∷ []) = subst (Has {A = ℕ × List Item} (t.caller, t.items)) told.1 (has_done t v.tracks has) in
    let few = made_few sys told.0 (map told_of asked) told.2 in
    only d (omega (arith, few, length-map asked told_of, lt))
  where
    only : Has {A = ℕ × List Item} (t.caller, t.items) ((caller, told.0) ∷ []) → length (made_of told.0) < room → length (made_of t.items) < room
    only (inl e) few = subst (λ (r : ℕ × List Item). length (made_of r.1) < room) e few
    only (inr none) few = absurd none

told_push : (sys : SystemParts) (ys : List Item) (ts : List Told) (z : Item) (t : Told) → AreTold sys ys ts → Tells sys z t → AreTold sys (ys ++ z ∷ []) (ts ++ t ∷ [])
told_push sys [] [] z t told also = (also, tt)
told_push sys [] (s ∷ ts) z t told also = absurd told
told_push sys (y ∷ ys) [] z t told also = absurd told
told_push sys (y ∷ ys) (s ∷ ts) z t told also = (told.0, told_push sys ys ts z t told.1 also)

-- one item more, with its reply
pub keeps_one : (sys : SystemParts) (v w : View) (caller : ℕ) (asked : List Asked) (z : Item) (a : Asked) → IsToldOf sys v caller asked → OneItem z v w → Tells sys z (told_of a) → IsToldOf sys w caller (asked ++ a ∷ [])
keeps_one sys v w caller asked z a told one also = (
  told.0 ++ z ∷ [],
  one.items ∙ ap (map (with_item z)) told.1,
  subst (AreTold sys (told.0 ++ z ∷ [])) (sym (map-append told_of asked (a ∷ []))) (told_push sys told.0 (map told_of asked) z (told_of a) told.2 also),
)

-- what is kept of a reply
pub keeps_reply : (sys : SystemParts) (c caller : ℕ) (wish : Wish) (v w : View) (asked : List Asked) (r : Reply) → WishFits sys wish → IsToldOf sys v caller asked → IsReplied sys c wish v w r → IsToldOf sys w caller (with_kept asked (kept_of wish r))
keeps_reply sys c caller wish v w asked (Fired n) fits told is = keeps_one sys v w caller asked (Made n wish) (FiredAsked wish n) told is refl
keeps_reply sys c caller wish v w asked (Away local p) fits told is = keeps_one sys v w caller asked (Placed p wish.process is.0) (AwayAsked wish local p) told is.1 (is.0, refl, fits, is.2)
keeps_reply sys c caller wish v w asked (Blocked j p) fits told is = keeps_one sys v w caller asked (Placed p wish.process is.0) (BlockedAsked wish j p) told is.1 (is.0, refl, fits, is.2)
keeps_reply sys c caller wish v w asked Full fits told is = absurd is
keeps_reply sys c caller wish v w asked (Busy lock holder) fits told is = (told.0, is.0.items ∙ told.1, told.2)

pub not_full : (sys : SystemParts) (c : ℕ) (wish : Wish) (v w : View) (r : Reply) → IsReplied sys c wish v w r → r ≡ Full → ⊥
not_full sys c wish v w r is e = subst (IsReplied sys c wish v w) e is

pub few_more : (old new : List Asked) (a : Asked) (room : ℕ) → new ≡ old ++ a ∷ [] → length old < room → length new ≤ room
few_more old new a room is lt = omega (arith, ap length is, length-append old (a ∷ []), lt)

-- Tries that are lost one after another.
use Rattle.std.proofs.Common.{ℕ, ◌≡◌, ◌<◌, ◌+◌, ⊎_elim, List, [], ◌∷◌, ◌++◌, length, length-append, map, append-nil, append_assoc, arith, refl, sym, ◌∙◌, ap, subst}
use Rattle.conjunctive_compose.specs.System.{SystemParts}
use Rattle.conjunctive_compose.specs.declared.wish.Wish.{Wish}
use Rattle.firing_words.specs.declared.view.Item.{Item}
use Rattle.firing_words.specs.declared.view.Track.{Track}
use Rattle.firing_words.specs.declared.view.Try.{Try}
use Rattle.firing_words.specs.declared.view.View.{View}
use Rattle.firing_words.specs.Cells.{InPlan}
use Rattle.firing_words.specs.Lists.{Has}
use Rattle.firing_words.specs.Views.{track_does, track_tried, tried}
use Rattle.firing_words.proofs.Lists.{has_split}
use Rattle.firing_hall.specs.Gates.{IsAnswered}
use Rattle.firing_hall.specs.Halls.{HasMade}
use Rattle.firing_hall.specs.inside.Replies.{IsReplied}
use Rattle.firing_hall.specs.Tries.{HasTried, HaveLost, IsBusy, IsBusyAfter, IsRefused, tries_of, try_at}
use Rattle.firing_hall.specs.declared.reply.Reply.{Reply}
use Rattle.firing_hall.specs.declared.reply.Reply.TheVariants.{Fired, Away, Blocked, Full, Busy}

add_none : (xs : List (List Try)) → xs ≡ map (λ ts. ts ++ []) xs
add_none [] = refl
add_none (x ∷ xs) = λ i. sym (append-nil x) i ∷ add_none xs i

add_twice : (a b : List Try) (xs : List (List Try)) → map (λ ts. ts ++ b) (map (λ ts. ts ++ a) xs) ≡ map (λ ts. ts ++ (a ++ b)) xs
add_twice a b [] = refl
add_twice a b (x ∷ xs) = λ i. append_assoc x a b i ∷ add_twice a b xs i

tries-tried : (l h : ℕ) (ts : List Track) → map (λ (t : Track). t.tries) (map (track_tried l h) ts) ≡ map (λ (s : List Try). s ++ try_at l h ∷ []) (map (λ (t : Track). t.tries) ts)
tries-tried l h [] = refl
tries-tried l h (t ∷ ts) = λ i. (t.tries ++ try_at l h ∷ []) ∷ tries-tried l h ts i

pub lost_none : (sys : SystemParts) (k : ℕ) (v : View) → HaveLost sys k [] v v
lost_none sys k v = record { added = add_none (tries_of v); planned = λ t none. absurd none }

-- what comes after leaves the tries as they are
pub lost_as : (sys : SystemParts) (k : ℕ) (lost : List Try) (u v w : View) → HaveLost sys k lost u v → w.tracks ≡ v.tracks → HaveLost sys k lost u w
lost_as sys k lost u v w old same = record { added = ap (map (λ (t : Track). t.tries)) same ∙ old.added; planned = old.planned }

pub lost_both : (sys : SystemParts) (k : ℕ) (a b : List Try) (u v w : View) → HaveLost sys k a u v → HaveLost sys k b v w → HaveLost sys k (a ++ b) u w
lost_both sys k a b u v w first then = record {
  added = then.added ∙ (ap (map (λ ts. ts ++ b)) first.added ∙ add_twice a b (tries_of u));
  planned = λ t has. ⊎_elim (first.planned t) (then.planned t) (has_split t a b has);
}

pub lost_one : (sys : SystemParts) (k l h : ℕ) (v w : View) → InPlan sys k l → w ≡ tried v l h → HaveLost sys k (try_at l h ∷ []) v w
lost_one sys k l h v w planned is = record {
  added = ap tries_of is ∙ tries-tried l h v.tracks;
  planned = λ t has. ⊎_elim (λ (e : try_at l h ≡ t). subst (λ (x : Try). InPlan sys k x.lock) e planned) (λ (none : Has t []). absurd none) has;
}

pub refused_after : (sys : SystemParts) (k left tries : ℕ) (lost : List Try) (last : Try) (u v w : View) → HaveLost sys k lost u v → IsRefused sys k left last v w → length lost + left ≡ tries → IsRefused sys k tries last u w
refused_after sys k left tries lost last u v w first then all = (
  lost ++ then.0,
  subst (λ (ts : List Try). HaveLost sys k ts u w) (sym (append_assoc lost then.0 (last ∷ []))) (lost_both sys k lost (then.0 ++ last ∷ []) u v w first then.1),
  (let more = then.2 in omega (arith, more, all, length-append lost then.0)),
)

pub refused_as : (sys : SystemParts) (k n : ℕ) (last : Try) (u v w : View) → IsRefused sys k n last u v → w.tracks ≡ v.tracks → IsRefused sys k n last u w
refused_as sys k n last u v w is same = (is.0, lost_as sys k (is.0 ++ last ∷ []) u v w is.1 same, is.2)

tries-does : (z : Item) (ts : List Track) → map (λ (t : Track). t.tries) (map (track_does z) ts) ≡ map (λ (t : Track). t.tries) ts
tries-does z [] = refl
tries-does z (t ∷ ts) = ap (λ (l : List (List Try)). t.tries ∷ l) (tries-does z ts)

-- one item more leaves the tries as they are
pub tries_same : (z : Item) (v w : View) → w.tracks ≡ map (track_does z) v.tracks → tries_of w ≡ tries_of v
tries_same z v w is = ap (map (λ (t : Track). t.tries)) is ∙ tries-does z v.tracks

pub lost_then : (sys : SystemParts) (k : ℕ) (lost : List Try) (u v w : View) → HaveLost sys k lost u v → tries_of w ≡ tries_of v → HaveLost sys k lost u w
lost_then sys k lost u v w old same = record { added = same ∙ old.added; planned = old.planned }

-- a reply that any caller may get is not Busy
pub not_busy : (sys : SystemParts) (callers caller : ℕ) (wish : Wish) (tries : ℕ) (v w u x : View) (r : Reply) → ((c : ℕ) → IsReplied sys c wish v w r) → IsBusyAfter sys callers caller wish tries u x r
not_busy sys callers caller wish tries v w u x (Fired n) is = tt
not_busy sys callers caller wish tries v w u x (Away local p) is = tt
not_busy sys callers caller wish tries v w u x (Blocked j p) is = tt
not_busy sys callers caller wish tries v w u x Full is = tt
not_busy sys callers caller wish tries v w u x (Busy lock holder) is = absurd ((is holder).2 refl)

pub is_answered : (sys : SystemParts) (wish : Wish) (v w : View) (r : Reply) → ((c : ℕ) → IsReplied sys c wish v w r) → IsAnswered r
is_answered sys wish v w (Fired n) is = tt
is_answered sys wish v w (Away local p) is = tt
is_answered sys wish v w (Blocked j p) is = tt
is_answered sys wish v w Full is = is 0
is_answered sys wish v w (Busy lock holder) is = (is holder).2 refl

-- who alone is a caller is never refused a lock
pub never_busy : (sys : SystemParts) (callers caller : ℕ) (wish : Wish) (tries : ℕ) (v w : View) (r : Reply) → caller < callers → callers ≡ 1 → IsBusyAfter sys callers caller wish tries v w r → IsBusy r → ⊥
never_busy sys callers caller wish tries v w (Fired n) below one after busy = busy
never_busy sys callers caller wish tries v w (Away local p) below one after busy = busy
never_busy sys callers caller wish tries v w (Blocked j p) below one after busy = busy
never_busy sys callers caller wish tries v w Full below one after busy = busy
never_busy sys callers caller wish tries v w (Busy lock holder) below one after busy = after.1 (omega (arith, below, one, after.2))

pub tried_refused : (sys : SystemParts) (wish : Wish) (tries lock holder : ℕ) (v w : View) → IsRefused sys wish.process tries (try_at lock holder) v w → HasTried sys wish tries v w (Busy lock holder)
tried_refused sys wish tries lock holder v w is = (is.0 ++ try_at lock holder ∷ [], is.1, λ none. absurd none)

pub tried_none : (sys : SystemParts) (wish : Wish) (tries : ℕ) (v : View) → HasTried sys wish tries v v Full
tried_none sys wish tries v = ([], lost_none sys wish.process v, λ none. absurd none)

pub made_by_reply : (sys : SystemParts) (caller : ℕ) (wish : Wish) (v w : View) (r : Reply) → IsReplied sys caller wish v w r → HasMade sys wish v w r
made_by_reply sys caller wish v w (Fired n) is = is
made_by_reply sys caller wish v w (Away local p) is = is
made_by_reply sys caller wish v w (Blocked j p) is = is
made_by_reply sys caller wish v w Full is = absurd is
made_by_reply sys caller wish v w (Busy lock holder) is = is.0

-- What a caller was told, when more is.
use Rattle.std.proofs.Common.{ℕ, ◌≡◌, ◌≤◌, ◌+◌, List, [], ◌∷◌, ◌++◌, length, take, get_or, arith, refl, ◌∙◌, ap, All, Contains}
use Rattle.std.specs.Prelude.{count_by, Some, slice_get, Bool, false, cond, is_some, ◌==◌}
use Rattle.std.proofs.lemmas.List.{length-append, take_all, get_or_push, take-append-le, get_or_append_left}
use Rattle.std.proofs.lemmas.Option.{slice_get_within, get_or_from_slice_get, slice_get-get_or}
use Rattle.std.proofs.lemmas.List.Elements.{All-push, All-contains, All-weaker, Contains-get_or}
use Rattle.std.proofs.lemmas.List.Sums.{count_by_more_no, sum_by-take-le}
use Rattle.std.proofs.lemmas.List.Quantifiers.{all_pairs_push}
use Rattle.conjunctive_compose.specs.declared.wish.Wish.{Wish}
use Rattle.conjunctive_compose.specs.declared.wish.StepAnswer.{StepAnswer}
use Rattle.conjunctive_compose.specs.declared.wish.StepAnswer.TheVariants.{Away, Blocked}
use Rattle.conjunctive_compose.specs.System.{SystemParts, edge_at, side_on}
use Rattle.conjunctive_compose.specs.Reply.{Told, fired_at, away_at, blocked_at, seen, seen_pair, ReplyHolds, IsRefusedAt, count_of, count_on}
use Rattle.conjunctive_compose.specs.Order.{MayFollow, FollowsPlace, FollowsBlock, FollowsSeen, FollowsSeenPair, AreOrdered, IsTold, IsNow, IsWithin, ListGrows, OrderGrows}

pub refused_longer : (sys : SystemParts) (run more : List Wish) (wish : Wish) (answer : StepAnswer) (p : ℕ) → IsRefusedAt sys run wish answer p → IsRefusedAt sys (run ++ more) wish answer p
refused_longer sys run more wish answer p h = record {
  within = omega (arith, length-append run more, h.within);
  fits = h.fits;
  answered = rw (take-append-le p run more h.within) h.answered;
}

-- what holds in a run holds in a longer one
pub holds_longer : (sys : SystemParts) (run more : List Wish) (told : Told) → ReplyHolds sys run told → ReplyHolds sys (run ++ more) told
holds_longer sys run more (fired_at wish n) h =
    let lt = slice_get_within run n wish h in
    slice_get-get_or (run ++ more) n wish (omega (arith, length-append run more, lt)) ∙ ap Some (get_or_append_left run more wish n lt ∙ get_or_from_slice_get run n wish wish h)
holds_longer sys run more (away_at wish local p) h = refused_longer sys run more wish (Away local) p h
holds_longer sys run more (blocked_at wish j p) h = refused_longer sys run more wish (Blocked j) p h
holds_longer sys run more (seen k m local) (p, h) = (p, record { process_in = h.process_in; within = omega (arith, length-append run more, h.within); count = rw (take-append-le p run more h.within) h.count; shows = rw (take-append-le p run more h.within) h.shows })
holds_longer sys run more (seen_pair e m s) (p, h) = (p, record { edge_in = h.edge_in; within = omega (arith, length-append run more, h.within); count = rw (take-append-le p run more h.within) h.count; shows = rw (take-append-le p run more h.within) h.shows })

pub count_longer : (run more : List Wish) (test : Wish → Bool) (p : ℕ) → p ≤ length run → count_by test (take p (run ++ more)) ≡ count_by test (take p run)
count_longer run more test p le = rw (take-append-le p run more le) refl

pub count_whole : (run : List Wish) (test : Wish → Bool) (p : ℕ) → count_by test (take p run) ≤ count_by test (take (length run) run)
count_whole run test p = rw (take_all (length run) run (omega arith)) (sum_by-take-le (λ x. cond (test x) 1 0) run p)

pub place_longer : (sys : SystemParts) (run more : List Wish) (k p : ℕ) (y : Told) → p ≤ length run → FollowsPlace sys run k p y → FollowsPlace sys (run ++ more) k p y
place_longer sys run more k p (fired_at wish n) le h = h
place_longer sys run more k p (away_at wish local q) le h = h
place_longer sys run more k p (blocked_at wish j q) le h = h
place_longer sys run more k p (seen j m local) le h = λ e. omega (arith, h e, count_longer run more (λ wish. wish.process == k) p le)
place_longer sys run more k p (seen_pair e m s) le h = λ lt side on. omega (arith, h lt side on, count_longer run more (λ wish. is_some (side_on (edge_at sys e) wish.process)) p le)

pub block_longer : (sys : SystemParts) (run more : List Wish) (k p : ℕ) (y : Told) → p ≤ length run → FollowsBlock run k p y → FollowsBlock (run ++ more) k p y
block_longer sys run more k p (fired_at wish n) le h = tt
block_longer sys run more k p (away_at wish local q) le h = tt
block_longer sys run more k p (blocked_at wish j q) le h = tt
block_longer sys run more k p (seen j m local) le h = λ e. omega (arith, h e, count_longer run more (λ wish. wish.process == k) p le)
block_longer sys run more k p (seen_pair e m s) le h = tt

-- a wish that the test does not pass is not counted
pub count_passes : (run : List Wish) (wish : Wish) (test : Wish → Bool) → test wish ≡ false → count_by test (take (length run + 1) (run ++ wish ∷ [])) ≡ count_by test (take (length run) run)
count_passes run wish test over =
    let last : test (get_or (run ++ wish ∷ []) (length run) wish) ≡ false = ap test (get_or_push run wish wish (length run) refl) ∙ over in
    count_by_more_no test (run ++ wish ∷ []) (length run) wish (omega (arith, length-append run (wish ∷ []))) last ∙ count_longer run (wish ∷ []) test (length run) (omega arith)

-- what holds does not reach past the run
pub holds_within : (sys : SystemParts) (run : List Wish) (told : Told) → ReplyHolds sys run told → IsWithin sys run told
holds_within sys run (fired_at wish n) h = slice_get_within run n wish h
holds_within sys run (away_at wish local p) h = h.within
holds_within sys run (blocked_at wish j p) h = h.within
holds_within sys run (seen k m local) (p, h) = omega (arith, h.count, count_whole run (λ wish. wish.process == k) p)
holds_within sys run (seen_pair e m s) (p, h) = omega (arith, h.count, count_whole run (λ wish. is_some (side_on (edge_at sys e) wish.process)) p)

pub count_grows : (run more : List Wish) (test : Wish → Bool) → count_by test (take (length run) run) ≤ count_by test (take (length (run ++ more)) (run ++ more))
count_grows run more test = omega (arith, count_longer run more test (length run) (omega arith), count_whole (run ++ more) test (length run))

pub within_longer : (sys : SystemParts) (run more : List Wish) (told : Told) → IsWithin sys run told → IsWithin sys (run ++ more) told
within_longer sys run more (fired_at wish n) h = omega (arith, length-append run more, h)
within_longer sys run more (away_at wish local p) h = omega (arith, length-append run more, h)
within_longer sys run more (blocked_at wish j p) h = omega (arith, length-append run more, h)
within_longer sys run more (seen k m local) h = omega (arith, h, count_grows run more (λ wish. wish.process == k))
within_longer sys run more (seen_pair e m s) h = omega (arith, h, count_grows run more (λ wish. is_some (side_on (edge_at sys e) wish.process)))

pub seen_longer : (sys : SystemParts) (run more : List Wish) (k m : ℕ) (y : Told) → IsWithin sys run y → FollowsSeen run k m y → FollowsSeen (run ++ more) k m y
seen_longer sys run more k m (fired_at wish n) within h = omega (arith, h, count_longer run more (λ wish. wish.process == k) n (omega (arith, within)))
seen_longer sys run more k m (away_at wish local q) within h = omega (arith, h, count_longer run more (λ wish. wish.process == k) q within)
seen_longer sys run more k m (blocked_at wish j q) within h = omega (arith, h, count_longer run more (λ wish. wish.process == k) q within)
seen_longer sys run more k m (seen j n local) within h = h
seen_longer sys run more k m (seen_pair e n s) within h = tt

pub pair_longer : (sys : SystemParts) (run more : List Wish) (e m : ℕ) (y : Told) → IsWithin sys run y → FollowsSeenPair sys run e m y → FollowsSeenPair sys (run ++ more) e m y
pair_longer sys run more e m (fired_at wish n) within h = omega (arith, h, count_longer run more (λ wish. is_some (side_on (edge_at sys e) wish.process)) n (omega (arith, within)))
pair_longer sys run more e m (away_at wish local q) within h = omega (arith, h, count_longer run more (λ wish. is_some (side_on (edge_at sys e) wish.process)) q within)
pair_longer sys run more e m (blocked_at wish j q) within h = omega (arith, h, count_longer run more (λ wish. is_some (side_on (edge_at sys e) wish.process)) q within)
pair_longer sys run more e m (seen j n local) within h = tt
pair_longer sys run more e m (seen_pair f n s) within h = h

-- the order of two that do not reach past the run stays
pub follow_longer : (sys : SystemParts) (run more : List Wish) (x y : Told) → IsWithin sys run x → IsWithin sys run y → MayFollow sys run x y → MayFollow sys (run ++ more) x y
follow_longer sys run more (fired_at wish n) y x_in y_in h = place_longer sys run more wish.process (n + 1) y (omega (arith, x_in)) h
follow_longer sys run more (away_at wish local p) y x_in y_in h = place_longer sys run more wish.process p y x_in h
follow_longer sys run more (blocked_at wish j p) y x_in y_in h = (place_longer sys run more wish.process p y x_in h.0, block_longer sys run more j p y x_in h.1)
follow_longer sys run more (seen k m local) y x_in y_in h = seen_longer sys run more k m y y_in h
follow_longer sys run more (seen_pair e m s) y x_in y_in h = pair_longer sys run more e m y y_in h

pub place_now : (sys : SystemParts) (run : List Wish) (k p : ℕ) (y : Told) → p ≤ length run → IsNow run y → FollowsPlace sys run k p y × FollowsBlock run k p y
place_now sys run k p (fired_at wish n) le is = absurd is
place_now sys run k p (away_at wish local q) le is = (omega (arith, le, is), tt)
place_now sys run k p (blocked_at wish j q) le is = (omega (arith, le, is), tt)
place_now sys run k p (seen j m local) le is = absurd is
place_now sys run k p (seen_pair e m s) le is = absurd is

pub place_at_now : (sys : SystemParts) (run : List Wish) (k j p : ℕ) (y : Told) → p ≤ length run → IsNow run y → FollowsPlace sys run k p y × FollowsBlock run j p y
place_at_now sys run k j p y le is = ((place_now sys run k p y le is).0, (place_now sys run j p y le is).1)

pub seen_now : (run : List Wish) (k m : ℕ) (y : Told) → m ≤ count_of run k (length run) → IsNow run y → FollowsSeen run k m y
seen_now run k m (fired_at wish n) le is = absurd is
seen_now run k m (away_at wish local q) le is = rw is le
seen_now run k m (blocked_at wish j q) le is = rw is le
seen_now run k m (seen j n local) le is = absurd is
seen_now run k m (seen_pair e n s) le is = absurd is

pub pair_now : (sys : SystemParts) (run : List Wish) (e m : ℕ) (y : Told) → m ≤ count_on sys run e (length run) → IsNow run y → FollowsSeenPair sys run e m y
pair_now sys run e m (fired_at wish n) le is = absurd is
pair_now sys run e m (away_at wish local q) le is = rw is le
pair_now sys run e m (blocked_at wish j q) le is = rw is le
pair_now sys run e m (seen j n local) le is = absurd is
pair_now sys run e m (seen_pair f n s) le is = absurd is

-- the run's length may be told as a place after all that does not reach past the run
pub follow_now : (sys : SystemParts) (run : List Wish) (x y : Told) → IsWithin sys run x → IsNow run y → MayFollow sys run x y
follow_now sys run (fired_at wish n) y within is = (place_now sys run wish.process (n + 1) y (omega (arith, within)) is).0
follow_now sys run (away_at wish local p) y within is = (place_now sys run wish.process p y within is).0
follow_now sys run (blocked_at wish j p) y within is = place_at_now sys run wish.process j p y within is
follow_now sys run (seen k m local) y within is = seen_now run k m y within is
follow_now sys run (seen_pair e m s) y within is = pair_now sys run e m y within is

pub follow_entry : (sys : SystemParts) (run more : List Wish) (x : Told) (wish : Wish) → IsWithin sys run x → MayFollow sys (run ++ more) x (fired_at wish (length run))
follow_entry sys run more (fired_at wish' n) wish within = omega (arith, within)
follow_entry sys run more (away_at wish' local p) wish within = within
follow_entry sys run more (blocked_at wish' j p) wish within = (within, tt)
follow_entry sys run more (seen k m local) wish within = omega (arith, within, count_longer run more (λ wish. wish.process == k) (length run) (omega arith))
follow_entry sys run more (seen_pair e m s) wish within = omega (arith, within, count_longer run more (λ wish. is_some (side_on (edge_at sys e) wish.process)) (length run) (omega arith))

within_now : (sys : SystemParts) (run : List Wish) (y : Told) → IsNow run y → IsWithin sys run y
within_now sys run (fired_at wish n) is = absurd is
within_now sys run (away_at wish local p) is = omega (arith, is)
within_now sys run (blocked_at wish j p) is = omega (arith, is)
within_now sys run (seen k m local) is = absurd is
within_now sys run (seen_pair e m s) is = absurd is

ordered_longer : (sys : SystemParts) (run more : List Wish) (list : List Told) → AreOrdered sys run list → AreOrdered sys (run ++ more) list
ordered_longer sys run more list are = record {
  within = All-weaker (IsWithin sys run) (IsWithin sys (run ++ more)) (within_longer sys run more) list are.within;
  order = λ i j d lt in'. follow_longer sys run more (get_or list i d) (get_or list j d) (are.within i d (omega arith)) (are.within j d in') (are.order i j d lt in');
}

ordered_push : (sys : SystemParts) (run : List Wish) (list : List Told) (y : Told) → AreOrdered sys run list → IsWithin sys run y → ((x : Told) → Contains list x → MayFollow sys run x y) → AreOrdered sys run (list ++ y ∷ [])
ordered_push sys run list y are within after = record {
  within = All-push (IsWithin sys run) list y are.within within;
  order = all_pairs_push (MayFollow sys run) list y are.order (λ i d lt. after (get_or list i d) (Contains-get_or list i d lt));
}

pub order_stays : (sys : SystemParts) (run : List Wish) (list : List Told) → AreOrdered sys run list → OrderGrows sys run list
order_stays sys run list are = record {
  longer = λ more. ordered_longer sys run more list are;
  entry = λ wish. ordered_push sys (run ++ wish ∷ []) list (fired_at wish (length run)) (ordered_longer sys run (wish ∷ []) list are) (omega (arith, length-append run (wish ∷ []))) (λ x has. follow_entry sys run (wish ∷ []) x wish (All-contains (IsWithin sys run) list x are.within has));
  place = λ y now. ordered_push sys run list y are (within_now sys run y now) (λ x has. follow_now sys run x y (All-contains (IsWithin sys run) list x are.within has) now);
  next = λ y within after. ordered_push sys run list y are within after;
}

all_longer : (sys : SystemParts) (run more : List Wish) (list : List Told) → IsTold sys run list → All (ReplyHolds sys (run ++ more)) list
all_longer sys run more list told = All-weaker (ReplyHolds sys run) (ReplyHolds sys (run ++ more)) (holds_longer sys run more) list told.holds

-- so the order of replies stays, and they hold
pub told_stays : (sys : SystemParts) (run : List Wish) (list : List Told) → IsTold sys run list → ListGrows sys run list
told_stays sys run list told = record {
  longer = λ more. record { holds = all_longer sys run more list told; order = (grows.longer more).order };
  entry = λ wish. record { holds = All-push (ReplyHolds sys (run ++ wish ∷ [])) list (fired_at wish (length run)) (all_longer sys run (wish ∷ []) list told) (entry_is wish); order = (grows.entry wish).order };
  place = λ y now holds. record { holds = All-push (ReplyHolds sys run) list y told.holds holds; order = (grows.place y now).order };
  look = λ y look holds after. record { holds = All-push (ReplyHolds sys run) list y told.holds holds; order = (grows.next y (holds_within sys run y holds) after).order };
}
  where
    grows : OrderGrows sys run list
    grows = order_stays sys run list (record { within = All-weaker (ReplyHolds sys run) (IsWithin sys run) (holds_within sys run) list told.holds; order = told.order })

    entry_is : (wish : Wish) → slice_get (run ++ wish ∷ []) (length run) ≡ Some wish
    entry_is wish = slice_get-get_or (run ++ wish ∷ []) (length run) wish (omega (arith, length-append run (wish ∷ []))) ∙ ap Some (get_or_push run wish wish (length run) refl)

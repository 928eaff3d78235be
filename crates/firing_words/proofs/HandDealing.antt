-- Hands that are taken from the front, and passes that are made of them.
use Rattle.std.proofs.Common.{ℕ, suc, ◌≡◌, ◌<◌, ◌+◌, List, [], ◌∷◌, ◌++◌, length, length-append, get_or, arith, refl, sym, ◌∙◌, ap, subst}
use Rattle.std.specs.Prelude.{remove}
use Rattle.std.proofs.lemmas.Option.{slice_get-get_or, slice_get_read}
use Rattle.atomic_table.specs.declared.shared.Seat.{Seat}
use Rattle.firing_words.specs.declared.view.View.{View}
use Rattle.firing_words.specs.declared.words.Words.{Words}
use Rattle.firing_words.specs.Of.{IsSeatOf, seat_view}
use Rattle.firing_words.specs.Views.{opened_from}
use Rattle.firing_words.specs.declared.hand.Hand.{Hand}
use Rattle.firing_words.specs.Hands.{AreHands, IsFreshHand}
use Rattle.firing_words.specs.inside.Dealing.{AreSeatsFrom}
use Rattle.firing_words.proofs.Dealt.{all_push}

pub first_dealt : (words : Words) (c : ℕ) (hands : List (Seat (Unit {0}) View)) (h : Seat (Unit {0}) View) → AreSeatsFrom words c hands → 0 < length hands → h ≡ get_or hands 0 h → IsSeatOf words h × (seat_view h ≡ opened_from c 1)
first_dealt words c hands h dealt some is =
    let all = dealt 0 h (slice_get_read hands (length hands) 0 h refl some is) in
    (all.0, all.1 ∙ ap (λ (n : ℕ). opened_from n 1) (omega arith))

pub rest_dealt : (words : Words) (c : ℕ) (hands : List (Seat (Unit {0}) View)) → AreSeatsFrom words c hands → AreSeatsFrom words (c + 1) (remove hands 0)
rest_dealt words c [] dealt j h is = absurd (cc)
rest_dealt words c (x ∷ hands) dealt j h is =
    let all = dealt (suc j) h is in
    (all.0, all.1 ∙ ap (λ (n : ℕ). opened_from n 1) (omega arith))

-- one hand more
pub hands_push : (words : Words) (hands now : List Hand) (hand : Hand) (c : ℕ) → AreHands words c hands → IsFreshHand words c hand → now ≡ hands ++ hand ∷ [] → AreHands words (c + 1) now
hands_push words hands now hand c old fresh is =
    let len = old.0 in
    subst (AreHands words (c + 1)) (sym is) (
      omega (arith, len, length-append hands (hand ∷ [])),
      all_push (IsFreshHand words) hands hand old.1 (subst (λ (n : ℕ). IsFreshHand words n hand) (sym len) fresh),
    )

-- Which words a hand is of, and how what it keeps of its own agrees with its view.
use Rattle.std.specs.Prelude.{ℕ, ◌≡◌, ◌<◌, ◌≤◌, ◌+◌, ◌==◌, List, [], ◌∷◌, ◌++◌, cond, drop, length, slice_get, Some, vec_capacity}
use Rattle.interconnection.specs.Graph.{degree_of}
use Rattle.conjunctive_compose.specs.System.{SystemParts, process_count}
use Rattle.firing_words.specs.declared.cell.Reading.{Reading}
use Rattle.firing_words.specs.declared.hand.Hand.{Hand}
use Rattle.firing_words.specs.declared.hand.Space.{Space}
use Rattle.firing_words.specs.declared.view.View.{View}
use Rattle.firing_words.specs.declared.words.Words.{Words}
use Rattle.firing_words.specs.History.{IsPossible}
use Rattle.firing_words.specs.Judged.{AreStorable}
use Rattle.firing_words.specs.Of.{IsSeatOf, seat_view, system_of}
use Rattle.firing_words.specs.Stars.{AreKnown}
use Rattle.firing_words.specs.Views.{callers_of, opened_from}

abbrev pub view : Hand → View
view hand = seat_view hand.seat

-- the first of the view's callers has this number
abbrev pub IsFirstCaller : View → ℕ → Type 0
IsFirstCaller v c = (rest : List ℕ) × (callers_of v ≡ c ∷ rest)

-- what the hand keeps is its view's: the first caller, readings that are known, and what is owed, behind what is stored
pub record Agrees (sys : SystemParts) (v : View) (caller stored : ℕ) (known owed : List Reading) : Type 0 where
  pub mine : IsFirstCaller v caller
  pub sound : AreKnown v.known known
  pub possible : IsPossible sys v.known
  pub owing : v.owed ≡ drop stored owed
  pub storable : AreStorable sys v.owed

-- room for the readings of each process and of its edges
abbrev pub HasSpace : SystemParts → Space → Type 0
HasSpace sys s = (k : ℕ) → k < process_count sys → (degree_of sys.network.edges k + 1 ≤ vec_capacity s.star) × (degree_of sys.network.edges k + 1 ≤ vec_capacity s.owed)

-- and for so many that are known: one at least, and those of each process and of its edges
abbrev pub KeepsStars : SystemParts → ℕ → Space → Type 0
KeepsStars sys most s = (0 < most) × (most ≤ vec_capacity s.known) × (length s.known.items ≤ most) × ((k : ℕ) → k < process_count sys → degree_of sys.network.edges k < most)

pub record IsOf (words : Words) (hand : Hand) : Type 0 where
  pub seat : IsSeatOf words hand.seat
  pub agrees : Agrees (system_of words) (view hand) hand.caller hand.stored hand.space.known.items hand.space.owed.items
  pub space : HasSpace (system_of words) hand.space
  pub keeps : KeepsStars (system_of words) hand.most hand.space

-- the readings that the hand keeps
abbrev pub kept : Hand → List Reading
kept hand = hand.space.known.items

-- one reading more; where there is no room for it the earlier ones are dropped
abbrev pub remembered : ℕ → List Reading → Reading → List Reading
remembered most known r = cond (length known == most) (r ∷ []) (known ++ r ∷ [])

-- the caller and the room are as before
abbrev pub IsSameHand : Hand → Hand → Type 0
IsSameHand v w = (w.caller ≡ v.caller) × (w.most ≡ v.most)

-- a hand for each caller below n, in order, that has done nothing and keeps nothing
abbrev pub AreHands : Words → ℕ → List Hand → Type 0
AreHands words n hands = (length hands ≡ n) × ((c : ℕ) (h : Hand) → slice_get hands c ≡ Some h → IsOf words h × (view h ≡ opened_from c 1) × (h.caller ≡ c) × (kept h ≡ []))

-- the hand of this caller, that has done nothing and keeps nothing
abbrev pub IsFreshHand : Words → ℕ → Hand → Type 0
IsFreshHand words c h = IsOf words h × (view h ≡ opened_from c 1) × (h.caller ≡ c) × (kept h ≡ [])

-- Which hall a pass is of, and what it keeps.
use Rattle.std.specs.Prelude.{ℕ, ◌≡◌, ◌<◌, ◌≤◌, ◌+◌, Option, Some, None, List, [], ◌∷◌, ◌++◌, length, map, vec_capacity}
use Rattle.conjunctive_compose.specs.System.{SystemParts}
use Rattle.conjunctive_compose.specs.declared.wish.Wish.{Wish}
use Rattle.firing_words.specs.declared.view.Item.{Item}
use Rattle.firing_words.specs.declared.view.View.{View}
use Rattle.firing_words.specs.Hands.{IsOf, view}
use Rattle.firing_words.specs.Of.{system_of}
use Rattle.firing_words.specs.Telling.{AreTold}
use Rattle.firing_words.specs.Views.{IsQuiet}
use Rattle.firing_hall.specs.Items.{done_of}
use Rattle.firing_journal.specs.Report.{told_of}
use Rattle.firing_journal.specs.declared.asked.Asked.{Asked}
use Rattle.firing_journal.specs.declared.asked.Asked.TheVariants.{Fired as FiredAsked, Away as AwayAsked, Blocked as BlockedAsked, Seen as SeenAsked, SeenPair as SeenPairAsked}
use Rattle.firing_hall.specs.declared.firing.Hall.{Hall}
use Rattle.firing_hall.specs.declared.looking.Looked.{Looked}
use Rattle.firing_hall.specs.declared.looking.Looked.TheVariants.{Seen, Full as FullLook}
use Rattle.firing_hall.specs.declared.looking.PairLooked.{PairLooked}
use Rattle.firing_hall.specs.declared.looking.PairLooked.TheVariants.{Seen as SeenState, Full as FullPair}
use Rattle.firing_hall.specs.declared.pass.Pass.{Pass}
use Rattle.firing_hall.specs.declared.reply.Reply.{Reply}
use Rattle.firing_hall.specs.declared.reply.Reply.TheVariants.{Fired, Away, Blocked, Full, Busy}

-- the view has one caller, and these replies are told of what it did
abbrev pub IsToldOf : SystemParts → View → ℕ → List Asked → Type 0
IsToldOf sys v caller asked = (items : List Item) × (done_of v ≡ (caller, items) ∷ []) × AreTold sys items (map told_of asked)

pub record IsPassOf (hall : Hall) (pass : Pass) : Type 0 where
  pub of : IsOf hall.words pass.hand
  pub quiet : IsQuiet (view pass.hand)
  pub told : IsToldOf (system_of hall.words) (view pass.hand) pass.caller pass.asked.items
  pub below : pass.caller < hall.words.setting.callers
  pub room : pass.room ≡ hall.words.setting.room
  pub few : length pass.asked.items ≤ pass.room
  pub reserved : pass.room ≤ vec_capacity pass.asked

-- what is kept of a reply
abbrev pub kept_of : Wish → Reply → Option Asked
kept_of wish (Fired n) = Some (FiredAsked wish n)
kept_of wish (Away local p) = Some (AwayAsked wish local p)
kept_of wish (Blocked j p) = Some (BlockedAsked wish j p)
kept_of wish Full = None
kept_of wish (Busy lock holder) = None

abbrev pub with_kept : List Asked → Option Asked → List Asked
with_kept list None = list
with_kept list (Some item) = list ++ item ∷ []

abbrev pub kept_look : ℕ → Looked → Option Asked
kept_look k (Seen m local) = Some (SeenAsked k m local)
kept_look k FullLook = None

abbrev pub kept_pair_look : ℕ → PairLooked → Option Asked
kept_pair_look e (SeenState m s) = Some (SeenPairAsked e m s)
kept_pair_look e FullPair = None

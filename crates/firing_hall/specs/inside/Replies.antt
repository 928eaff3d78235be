-- What a reply says of the view.
use Rattle.std.specs.Prelude.{◌≢◌, ℕ, List}
use Rattle.conjunctive_compose.specs.declared.wish.Wish.{Wish}
use Rattle.conjunctive_compose.specs.declared.wish.StepAnswer.TheVariants.{Away as AwayAnswer, Blocked as BlockedAnswer}
use Rattle.conjunctive_compose.specs.System.{SystemParts}
use Rattle.firing_words.specs.declared.cell.Reading.{Reading}
use Rattle.firing_words.specs.declared.view.Item.TheVariants.{Made, Placed}
use Rattle.firing_words.specs.declared.view.View.{View}
use Rattle.firing_words.specs.Cells.{InPlan}
use Rattle.firing_words.specs.Firings.{IsDecided}
use Rattle.firing_hall.specs.declared.reply.Reply.{Reply}
use Rattle.firing_hall.specs.declared.reply.Reply.TheVariants.{Fired, Away, Blocked, Full, Busy}
use Rattle.firing_hall.specs.Items.{OneItem, SameItems}

-- the caller's list grew by exactly the entry or the note of this reply, or not at all
abbrev pub IsReplied : SystemParts → ℕ → Wish → View → View → Reply → Type 0
IsReplied sys caller wish v w (Fired n) = OneItem (Made n wish) v w
IsReplied sys caller wish v w (Away local p) = (known : List Reading) × OneItem (Placed p wish.process known) v w × IsDecided sys known wish (AwayAnswer local)
IsReplied sys caller wish v w (Blocked j p) = (known : List Reading) × OneItem (Placed p wish.process known) v w × IsDecided sys known wish (BlockedAnswer j)
IsReplied sys caller wish v w Full = ⊥
IsReplied sys caller wish v w (Busy lock holder) = SameItems v w × InPlan sys wish.process lock × (holder ≢ caller)

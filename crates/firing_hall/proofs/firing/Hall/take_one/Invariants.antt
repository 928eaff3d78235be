use Rattle.std.proofs.Common.{◌≡◌, ◌≢◌, ◌<◌, ◌+◌, List, [], ◌∷◌, ◌++◌, length}
use Rattle.firing_words.specs.Hands.{IsOf, view}
use Rattle.firing_words.specs.Of.{system_of}
use Rattle.firing_words.specs.declared.view.Try.{Try}
use Rattle.firing_hall.specs.Items.{SameItems}
use Rattle.firing_hall.specs.Tries.{HaveLost, try_at}
use Rattle.firing_hall.proofs.firing.Hall.take_one.Given as goal

abbrev pub invariant-loop : goal.invariant-loop
invariant-loop l = IsOf l.self.words l.hand × SameItems (view l.initial.hand) (view l.hand) × ((view l.hand).held ≡ (view l.initial.hand).held) × ((view l.hand).known ≡ (view l.initial.hand).known) × ((view l.hand).owed ≡ (view l.initial.hand).owed) × (0 < l.counter → (l.holder ≢ l.initial.hand.caller) × (l.holder < l.self.words.setting.callers)) × (l.left + l.counter ≡ l.initial.left) × ((lost : List Try) × HaveLost (system_of l.self.words) l.process lost (view l.initial.hand) (view l.hand) × (length lost ≡ l.counter) × (0 < l.counter → (before : List Try) × (lost ≡ before ++ try_at l.lock l.holder ∷ []))) × (l.hand.caller ≡ l.initial.hand.caller)

-- What a caller's list was and is.
use Rattle.std.specs.Prelude.{◌≡◌, ℕ, List, [], ◌∷◌, ◌++◌, map}
use Rattle.firing_words.specs.declared.view.Item.{Item}
use Rattle.firing_words.specs.declared.view.Track.{Track}
use Rattle.firing_words.specs.declared.view.View.{View}
use Rattle.firing_words.specs.Views.{callers_of}

-- each caller with its items
abbrev pub done_of : View → List (ℕ × List Item)
done_of v = map (λ (t : Track). (t.caller, t.items)) v.tracks

-- the callers and their items are as they were
pub record SameItems (v w : View) : Type 0 where
  pub items : done_of w ≡ done_of v
  pub callers : callers_of w ≡ callers_of v

abbrev pub with_item : Item → ℕ × List Item → ℕ × List Item
with_item z r = (r.0, r.1 ++ z ∷ [])

-- the callers are as they were, and each has one item more
pub record OneItem (z : Item) (v w : View) : Type 0 where
  pub items : done_of w ≡ map (with_item z) (done_of v)
  pub callers : callers_of w ≡ callers_of v

-- What the steps tell.
use Rattle.std.specs.Prelude.{ℕ, ◌≡◌, ◌≢◌, ◌<◌, ◌≤◌, ◌-◌, List, [], ◌∷◌, length}
use Rattle.atomic_table.specs.Table.{Step, Me}
use Rattle.conjunctive_compose.specs.declared.wish.Wish.{Wish}
use Rattle.conjunctive_compose.specs.System.{SystemParts}
use Rattle.firing_words.specs.declared.limits.TheConstants.{HALF_WORD, MAX_ENTRIES}
use Rattle.firing_words.specs.declared.cell.Cell.{Cell}
use Rattle.firing_words.specs.declared.cell.Reading.{Reading}
use Rattle.firing_words.specs.declared.view.View.{View}
use Rattle.firing_words.specs.Cells.{reading}
use Rattle.firing_words.specs.History.{Firing, IsPossible, packed}
use Rattle.firing_words.specs.Views.{IsPartOf, committed, holding, knowing, looked, placed, stored, tried, unlocked}

abbrev pub Mine : Type 0
Mine = Me (Unit {0}) View

-- the lock was free and is held, or another caller has it
abbrev pub locks : ℕ → ℕ → Step (Unit {0}) → Mine → ℕ → Mine → Type 0
locks callers l st m r m' = (r ≤ callers) × (r ≡ 0 → m'.0 ≡ holding m.0 l) × (r ≢ 0 → (r ≢ st.second) × (m'.0 ≡ tried m.0 l (r - 1))) × (m'.1 ≡ m.1)

-- moves and content are in a word, the content in its lower 32 bits
abbrev pub IsIn : ℕ → Reading → Type 0
IsIn word r = (word ≡ packed r.moves r.content) × (r.moves ≤ MAX_ENTRIES) × (r.content < HALF_WORD)

-- the word is known, and some whole state has all that is
abbrev pub reads : SystemParts → Cell → Step (Unit {0}) → Mine → ℕ → Mine → Type 0
reads sys i st m r m' = (moves content : ℕ) × IsIn r (reading i moves content) × (m'.0 ≡ knowing m.0 (reading i moves content)) × IsPossible sys (knowing m.0 (reading i moves content)).known × (m'.1 ≡ m.1)

-- the look is noted, some whole state has what it shows, and the view's tracks are those of a run
abbrev pub looks : SystemParts → ℕ → Cell → Step (Unit {0}) → Mine → ℕ → Mine → Type 0
looks sys callers i st m r m' =
    (moves content : ℕ)
    × IsIn r (reading i moves content)
    × (m'.0 ≡ looked m.0 (reading i moves content))
    × IsPossible sys (reading i moves content ∷ [])
    × ((log : List Firing) × IsPartOf sys callers m'.0 log)
    × (m'.1 ≡ m.1)

abbrev pub commits : Wish → List Reading → Step (Unit {0}) → Mine → ℕ → Mine → Type 0
commits wish stores st m r m' = (m'.0 ≡ committed m.0 r wish stores) × (m'.1 ≡ m.1)

abbrev pub places : ℕ → Step (Unit {0}) → Mine → ℕ → Mine → Type 0
places k st m r m' = (m'.0 ≡ placed m.0 r k) × (m'.1 ≡ m.1)

abbrev pub stores : Step (Unit {0}) → Mine → ℕ → Mine → Type 0
stores st m r m' = (m'.0 ≡ stored m.0) × (m'.1 ≡ m.1)

abbrev pub unlocks : SystemParts → ℕ → Step (Unit {0}) → Mine → ℕ → Mine → Type 0
unlocks sys l st m r m' = (m'.0 ≡ unlocked sys m.0 l) × (m'.1 ≡ m.1)

-- nothing changes, and the view's tracks are those of a run, as long as the counter says
abbrev pub tells : SystemParts → ℕ → Step (Unit {0}) → Mine → ℕ → Mine → Type 0
tells sys callers st m r m' = (m' ≡ m) × (log : List Firing) × (r ≡ length log) × IsPartOf sys callers m.0 log

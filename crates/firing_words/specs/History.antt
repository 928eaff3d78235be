-- The one history, and what a cell shows of it.
use Rattle.std.specs.Prelude.{ℕ, suc, ◌≡◌, ◌≤◌, ◌<◌, ◌+◌, ◌*◌, ◌==◌, List, [], ◌∷◌, cond, length, map, take, count_by}
use Rattle.conjunctive_compose.specs.declared.wish.Wish.{Wish}
use Rattle.conjunctive_compose.specs.System.{SystemParts}
use Rattle.conjunctive_compose.specs.Whole.{WholeParts, IsProper, start_of}
use Rattle.conjunctive_compose.specs.Run.{whole_after}
use Rattle.conjunctive_compose.specs.Reply.{after_first}
use Rattle.firing_words.specs.declared.limits.TheConstants.{HALF_WORD}
use Rattle.firing_words.specs.declared.cell.Cell.{Cell}
use Rattle.firing_words.specs.declared.cell.Reading.{Reading}
use Rattle.firing_words.specs.Cells.{HasContent, is_moved}
use Rattle.firing_words.specs.Lists.{Has}

-- an entry of the history; its number is its place
pub record Firing : Type 0 where
  pub caller : ℕ
  pub wish : Wish

abbrev pub wishes : List Firing → List Wish
wishes log = map (λ (e : Firing). e.wish) log

-- an entry and its number
pub record Making : Type 0 where
  pub number : ℕ
  pub wish : Wish

abbrev pub made_from : ℕ → ℕ → List Firing → List Making
made_from c n [] = []
made_from c n (e ∷ es) = cond (e.caller == c) (record { number = n; wish = e.wish } ∷ made_from c (suc n) es) (made_from c (suc n) es)

-- what a caller made of the history, by number
abbrev pub made_by : ℕ → List Firing → List Making
made_by c log = made_from c 0 log

abbrev pub CallersBelow : ℕ → List Firing → Type 0
CallersBelow n [] = Unit {0}
CallersBelow n (e ∷ es) = (e.caller < n) × CallersBelow n es

-- how often the run moves the cell
abbrev pub moves_in : SystemParts → List Wish → Cell → ℕ
moves_in sys run i = count_by (is_moved sys i) run

-- how often its first p entries do
abbrev pub moves_before : SystemParts → List Wish → Cell → ℕ → ℕ
moves_before sys run i p = moves_in sys (take p run) i

-- after its first m moves the cell had x
abbrev pub Shows : SystemParts → List Wish → Cell → ℕ → ℕ → Type 0
Shows sys run i m x = (p : ℕ) × (p ≤ length run) × (moves_before sys run i p ≡ m) × HasContent sys (after_first sys run p) i x

-- the reading shows all moves of its cell
pub record IsLatest (sys : SystemParts) (run : List Wish) (r : Reading) : Type 0 where
  pub moves : r.moves ≡ moves_in sys run r.cell
  pub content : HasContent sys (whole_after sys (start_of sys) run) r.cell r.content

-- moves and content in 32 bits each
abbrev pub packed : ℕ → ℕ → ℕ
packed m x = m * HALF_WORD + x

abbrev pub IsWordAfter : SystemParts → List Wish → Cell → ℕ → ℕ → Type 0
IsWordAfter sys run i m word = (x : ℕ) × Shows sys run i m x × (word ≡ packed m x)

-- the whole state has what the readings say
abbrev pub Knows : SystemParts → List Reading → WholeParts → Type 0
Knows sys known w = (r : Reading) → Has r known → HasContent sys w r.cell r.content

-- some proper whole state has what is known
abbrev pub IsPossible : SystemParts → List Reading → Type 0
IsPossible sys known = (w : WholeParts) × IsProper sys w × Knows sys known w

-- How the files of a call are taken from the shelf.
use Rattle.std.specs.Prelude.{ℕ, ◌≡◌, ◌<◌, ◌≤◌, Option, Some, IfSome, List, ◌++◌, codes, length, Result, Ok, Err}
use Rattle.edge_io.specs.Counts.{Rose}
use Rattle.edge_io.specs.Told.{file_named, HasLonger}
use Rattle.skeleton_tool.specs.declared.status.Status.{Status}
use Rattle.skeleton_tool.specs.declared.status.Status.TheVariants.{Refused, ReadFault}
use Rattle.skeleton_tool.specs.declared.stop.Stop.{Stop}
use Rattle.skeleton_tool.specs.declared.stop.Stop.TheVariants.{Answered, Memory}

-- the files of a shelf by name, where they are told
abbrev pub Files : Type 0
Files = Option (List (List ℕ × List ℕ))

-- what is known of the shelf before and after the call: its files, where they are told, and its two counts
pub record ShelfSeen : Type 0 where
  pub files : Files
  pub faults_before : ℕ
  pub faults_after : ℕ
  pub longs_before : ℕ
  pub longs_after : ℕ

-- a shelf of which these are the files and the counts, seen before a call and after it
abbrev pub shelf_seen : {A : Type 0} → (A → Files) → (A → ℕ) → (A → ℕ) → A → A → ShelfSeen
shelf_seen files faults longs old new = record { files = files old; faults_before = faults old; faults_after = faults new; longs_before = longs old; longs_after = longs new }

-- the shelf's files and what may be asked of it are the same as before, and no count fell
pub record KeepsShelf {A : Type 0} (files : A → Files) (faults longs : A → ℕ) (may_ask : A → List ℕ → ℕ → Type 0) (old new : A) : Type 0 where
  pub same_files : files new ≡ files old
  pub still_allowed : (n : List ℕ) (k : ℕ) → may_ask old n k → may_ask new n k
  pub not_more_allowed : (n : List ℕ) (k : ℕ) → may_ask new n k → may_ask old n k
  pub faults_stay : faults old ≤ faults new
  pub longs_stay : longs old ≤ longs new

-- the file has these bytes, where the files are told, and they are within its limit
pub record IsGiven (files : Files) (file : List ℕ) (max : ℕ) (bytes : List ℕ) : Type 0 where
  pub told : IfSome files (λ all. file_named all file ≡ Some bytes)
  pub within : length bytes ≤ max

-- the file was found to be longer than its limit; where the files are told, it is
pub record IsTooLong (shelf : ShelfSeen) (file : List ℕ) (max : ℕ) : Type 0 where
  pub counted : Rose shelf.longs_before shelf.longs_after
  pub told : IfSome shelf.files (λ all. HasLonger all file max)

abbrev pub read_fault_text : List ℕ → List ℕ
read_fault_text word = codes "read fault " ++ word ++ codes "\n"

abbrev pub too_long_text : List ℕ → List ℕ
too_long_text word = codes "refused " ++ word ++ codes " 0 TooLong\n"

-- the file of this word was not taken: the shelf failed, or the file is too long
abbrev pub IsUntaken : ShelfSeen → List ℕ → List ℕ → ℕ → Status → List ℕ → Type 0
IsUntaken shelf word file max ReadFault text = Rose shelf.faults_before shelf.faults_after × (text ≡ read_fault_text word)
IsUntaken shelf word file max Refused text = IsTooLong shelf file max × (text ≡ too_long_text word)
IsUntaken shelf word file max status text = ⊥

-- a call stopped for want of memory, or with this text, of which its status may be answered so
abbrev pub StopsAs : (Status → List ℕ → Type 0) → List ℕ → Stop → Type 0
StopsAs answers text Memory = Unit {0}
StopsAs answers text (Answered status) = answers status text × (0 < length text)

-- a call ended with this text, of which its status may be answered so, or it stopped
abbrev pub EndsAs : (Status → List ℕ → Type 0) → List ℕ → Result Status Stop → Type 0
EndsAs answers text (Ok status) = answers status text × (0 < length text)
EndsAs answers text (Err stop) = StopsAs answers text stop

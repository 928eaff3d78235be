-- The summary of a report: how many replies of each kind it has, and how many processes end in each local state.
use Rattle.std.specs.Prelude.{ℕ, ◌≡◌, ◌==◌, ◌++◌, Bool, true, false, List, [], ◌∷◌, codes, count_by, decimal}
use Rattle.strict_text.specs.Spaced.{line_text}
use Rattle.conjunctive_compose.specs.System.{SystemParts}
use Rattle.conjunctive_compose.specs.Whole.{start_of}
use Rattle.conjunctive_compose.specs.Run.{whole_after}
use Rattle.firing_journal.specs.declared.asked.Asked.{Asked}
use Rattle.firing_journal.specs.declared.asked.Asked.TheVariants.{Fired, Away, Blocked, Seen, SeenPair}
use Rattle.firing_journal.specs.declared.report.Report.{Report}
use Rattle.firing_journal.specs.Journal.{wishes_of}
use Rattle.firing_journal.specs.Report.{list_by, lists_of}
use Rattle.firing_crew.specs.Crews.{IsCrewReport, orders_of}
use Rattle.big_system.specs.declared.philosopher.TheConstants.{CRITICAL, NONCRITICAL, TRYING}
use Rattle.big_system.specs.Systems.{IsBigSystem}

abbrev pub is_fired : Asked → Bool
is_fired (Fired wish n) = true
is_fired (Away wish local p) = false
is_fired (Blocked wish j p) = false
is_fired (Seen k m local) = false
is_fired (SeenPair e m s) = false

abbrev pub is_blocked : Asked → Bool
is_blocked (Fired wish n) = false
is_blocked (Away wish local p) = false
is_blocked (Blocked wish j p) = true
is_blocked (Seen k m local) = false
is_blocked (SeenPair e m s) = false

abbrev pub is_seen : Asked → Bool
is_seen (Fired wish n) = false
is_seen (Away wish local p) = false
is_seen (Blocked wish j p) = false
is_seen (Seen k m local) = true
is_seen (SeenPair e m s) = false

-- how many of these local states are this one
abbrev pub number_in : ℕ → List ℕ → ℕ
number_in local locals = count_by (λ other. other == local) locals

-- the local states in which the report's run leaves the processes
abbrev pub last_locals : SystemParts → Report → List ℕ
last_locals sys report = (whole_after sys (start_of sys) (wishes_of report.journal)).locals

-- a word and a number
abbrev pub count_line : List ℕ → ℕ → List ℕ
count_line word n = line_text (word ∷ decimal n ∷ [])

-- how many processes end in the local state of this name
abbrev pub local_line : List ℕ → ℕ → List ℕ
local_line name n = line_text (codes "local" ∷ name ∷ decimal n ∷ [])

abbrev pub replies_text : List Asked → List ℕ
replies_text list = count_line (codes "fired") (count_by is_fired list) ++ count_line (codes "blocked") (count_by is_blocked list) ++ count_line (codes "seen") (count_by is_seen list)

abbrev pub locals_text : List ℕ → List ℕ
locals_text locals = local_line (codes "N") (number_in NONCRITICAL locals) ++ local_line (codes "T") (number_in TRYING locals) ++ local_line (codes "C") (number_in CRITICAL locals)

-- the numbers that it was asked for, the replies, the local states, and `done`
abbrev pub summary_text : ℕ → ℕ → ℕ → List Asked → List ℕ → List ℕ
summary_text count rounds seed list locals = line_text (codes "big" ∷ decimal count ∷ decimal rounds ∷ decimal seed ∷ []) ++ replies_text list ++ locals_text locals ++ line_text (codes "done" ∷ [])

-- the text is the summary of a lawful report of the system: one caller, whose words begin anew, made so many replies by the rule of callers
-- with a policy of turn 0
pub record IsSummaryOf (count rounds seed : ℕ) (text : List ℕ) : Type 0 where
  pub sys : SystemParts
  pub report : Report
  pub big : IsBigSystem count seed sys
  pub crew : IsCrewReport sys (orders_of 1 rounds seed 0) report
  pub spelled : text ≡ summary_text count rounds seed (list_by (lists_of report) 0) (last_locals sys report)

-- a summary was appended
pub record HasSummary (count rounds seed : ℕ) (before now : List ℕ) : Type 0 where
  pub text : List ℕ
  pub appended : now ≡ before ++ text
  pub summary : IsSummaryOf count rounds seed text

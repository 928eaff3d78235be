-- What a look shows is kept.
use Rattle.std.proofs.Common.{ℕ, ◌≡◌, List, [], ◌∷◌, ◌++◌, map, refl, ap}
use Rattle.conjunctive_compose.specs.System.{SystemParts, IsSystem}
use Rattle.firing_words.specs.declared.cell.Cell.TheVariants.{Process, Edge}
use Rattle.firing_words.specs.declared.cell.Reading.{Reading}
use Rattle.firing_words.specs.declared.view.Item.TheVariants.{Seen}
use Rattle.firing_words.specs.declared.view.View.{View}
use Rattle.firing_words.specs.Cells.{reading}
use Rattle.firing_words.specs.History.{Firing, wishes}
use Rattle.firing_words.specs.Views.{IsPartOf, looked}
use Rattle.firing_words.proofs.Telling.{told_of_track}
use Rattle.firing_hall.specs.Looks.{HoldTogether}
use Rattle.firing_journal.specs.Report.{told_of}
use Rattle.firing_hall.specs.Passes.{IsToldOf}
use Rattle.firing_hall.specs.Items.{OneItem}
use Rattle.firing_journal.specs.declared.asked.Asked.{Asked}
use Rattle.firing_journal.specs.declared.asked.Asked.TheVariants.{Seen as SeenAsked, SeenPair as SeenPairAsked}
use Rattle.firing_hall.proofs.Keeping.{keeps_one}
use Rattle.firing_hall.proofs.Same.{one_item}
use Rattle.firing_hall.proofs.Taking.{track_told}

-- a look is noted as what it showed
pub noted : (v w : View) (r : Reading) → w ≡ looked v r → OneItem (Seen r) v w
noted v w r is = one_item (Seen r) v w (ap (λ (u : View). u.tracks) is)

pub keeps_look : (sys : SystemParts) (v w : View) (caller k m x : ℕ) (asked : List Asked) → IsToldOf sys v caller asked → w ≡ looked v (reading (Process k) m x) → IsToldOf sys w caller (asked ++ SeenAsked k m x ∷ [])
keeps_look sys v w caller k m x asked told is = keeps_one sys v w caller asked (Seen (reading (Process k) m x)) (SeenAsked k m x) told (noted v w (reading (Process k) m x) is) refl

pub keeps_pair_look : (sys : SystemParts) (v w : View) (caller e m x : ℕ) (asked : List Asked) → IsToldOf sys v caller asked → w ≡ looked v (reading (Edge e) m x) → IsToldOf sys w caller (asked ++ SeenPairAsked e m x ∷ [])
keeps_pair_look sys v w caller e m x asked told is = keeps_one sys v w caller asked (Seen (reading (Edge e) m x)) (SeenPairAsked e m x) told (noted v w (reading (Edge e) m x) is) refl

-- what a pass keeps holds in the run that its caller is told of, and in order
pub holds_together : (sys : SystemParts) (callers : ℕ) (v : View) (caller : ℕ) (asked : List Asked) (log : List Firing) → IsSystem sys → IsToldOf sys v caller asked → IsPartOf sys callers v log → HoldTogether sys asked
holds_together sys callers v caller asked log system told part =
    let t = track_told sys v caller asked told in
    (wishes log, part.0, told_of_track sys log t.0 (map told_of asked) system part.0 (part.4 t.0 t.1) t.3)

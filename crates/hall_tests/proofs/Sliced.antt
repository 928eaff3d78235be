-- A vector after its slice was changed.
use Rattle.std.proofs.Common.{ℕ, List, ◌++◌, length, take, drop, All}
use Rattle.std.proofs.lemmas.List.Elements.{All-append, All-drop, All-take}

pub all_sliced : {X : Type 0} (P : X → Type 0) (n : ℕ) (new old : List X) → All P new → All P old → All P (take n (new ++ drop (length new) old))
all_sliced P n new old here there = All-take P n (new ++ drop (length new) old) (All-append P new (drop (length new) old) here (All-drop P (length new) old there))

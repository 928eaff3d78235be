-- Pieces that are appended one after another.
use Rattle.std.proofs.Common.{ℕ, ◌≡◌, ◌+◌, ◌++◌, ◌∙◌, List, take, drop, Option, None, Some, sym, ap, subst, append-nil}
use Rattle.std.proofs.Math.Seq.{take-add}
use Rattle.std.proofs.KnownBytes.{Appends-trans}
use Rattle.std.specs.Io.KnownBytes as known
use Rattle.edge_io.specs.Told.{AppendsPrefix}

-- the first n bytes were appended, and then the first k of what was left
pub Appends-take_more : (a b c : Option (List ℕ)) (bytes left : List ℕ) (n k : ℕ) → left ≡ drop n bytes
    → known.Appends a b (take n bytes) → known.Appends b c (take k left) → known.Appends a c (take (n + k) bytes)
Appends-take_more a b c bytes left n k rest before now =
    subst (known.Appends a c) (ap (λ piece. take n bytes ++ take k piece) rest ∙ sym (take-add n k bytes)) (Appends-trans a b c _ _ before now)

-- a sink that took nothing has taken a prefix
pub AppendsPrefix-unchanged : (before now : Option (List ℕ)) (bytes : List ℕ) → now ≡ before → AppendsPrefix before now bytes
AppendsPrefix-unchanged None now bytes same = (0, same)
AppendsPrefix-unchanged (Some written) now bytes same = (0, same ∙ ap Some (sym (append-nil written)))

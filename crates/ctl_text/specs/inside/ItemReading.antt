-- What words say, read; but for a required clause, of which the grammar of formulas speaks.
use Rattle.std.specs.Prelude.{ℕ, true, false, Option, Some, None, List, [], ◌∷◌, codes, ◌&&◌, if◌then◌else◌}
use Rattle.std.specs.Str.{bytes_eq}
use Rattle.ctl_text.specs.declared.format.Format.TheVariants.{First, Second}
use Rattle.ctl_text.specs.Item.{Said, head_line, role_line, local_line, start_line, set_line, arc_line, kind_line, end_line, process_line, edge_line, done_line}

abbrev pub one_at : List ℕ → Option Said
one_at word = if bytes_eq word (codes "end") then Some end_line else if bytes_eq word (codes "done") then Some done_line else None

abbrev pub two_at : List ℕ → List ℕ → Option Said
two_at word a =
    if bytes_eq word (codes "pairs") && bytes_eq a (codes "1") then Some (head_line First) else
    if bytes_eq word (codes "pairs") && bytes_eq a (codes "2") then Some (head_line Second) else
    if bytes_eq word (codes "role") then Some (role_line a) else
    if bytes_eq word (codes "local") then Some (local_line a) else
    if bytes_eq word (codes "start") then Some (start_line a) else None

abbrev pub three_at : List ℕ → List ℕ → List ℕ → Option Said
three_at word a b =
    if bytes_eq word (codes "arc") then Some (arc_line a b false) else
    if bytes_eq word (codes "process") then Some (process_line a b None) else None

abbrev pub four_at : List ℕ → List ℕ → List ℕ → List ℕ → Option Said
four_at word a b c =
    if bytes_eq word (codes "arc") && bytes_eq c (codes "free") then Some (arc_line a b true) else
    if bytes_eq word (codes "kind") then Some (kind_line a b c) else
    if bytes_eq word (codes "process") then Some (process_line a b (Some c)) else
    if bytes_eq word (codes "edge") then Some (edge_line a b c) else None

-- what at most four words say that are no set
abbrev pub few_at : List (List ℕ) → Option Said
few_at (word ∷ []) = one_at word
few_at (word ∷ a ∷ []) = two_at word a
few_at (word ∷ a ∷ b ∷ []) = three_at word a b
few_at (word ∷ a ∷ b ∷ c ∷ []) = four_at word a b c
few_at words = None

abbrev pub item_at : List (List ℕ) → Option Said
item_at (word ∷ a ∷ words) = if bytes_eq word (codes "set") then Some (set_line a words) else few_at (word ∷ a ∷ words)
item_at words = few_at words

-- What stands at the end of a word.
use Rattle.std.proofs.Common.{ℕ, ◌≡◌, ◌-◌, true, false, List, ◌++◌, length, take, drop, sym, ap, ◌∙◌, arith, length-append}
use Rattle.std.proofs.lemmas.List.{take-append-drop}
use Rattle.std.proofs.Math.Seq.{drop-append_seam}
use Rattle.std.specs.Cmp.Lexicographic.{pointwise, same_text, other_text}
use Rattle.std.specs.Prelude.{nat_eq}

-- the word behind whose front the end stands
pub ends_with : (word end : List ℕ) → pointwise nat_eq (drop (length word - length end) word) end ≡ true → word ≡ take (length word - length end) word ++ end
ends_with word end e =
    let same = same_text (drop (length word - length end) word) end (sym e) in
    sym (take-append-drop (length word - length end) word) ∙ ap (λ t. take (length word - length end) word ++ t) same

-- a word that does not end so
pub ends_else : (word end : List ℕ) → pointwise nat_eq (drop (length word - length end) word) end ≡ false → (front : List ℕ) → word ≡ front ++ end → ⊥
ends_else word end e front is =
    let count : length word - length end ≡ length front = (let both = length-append front end in let lengths : length word ≡ length (front ++ end) = ap length is in omega (arith, both, lengths)) in
    other_text (drop (length word - length end) word) end (sym e) (rw (count, is) (drop-append_seam front end))

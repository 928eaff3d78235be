-- The lines of a report as they are written, piece by piece.
use Rattle.std.proofs.Common.{ℕ, suc, ◌≡◌, ◌<◌, ◌+◌, List, [], ◌∷◌, ◌++◌, length, map, take, get_or, arith, sym, ◌∙◌, ap}
use Rattle.std.specs.Global.{Vec}
use Rattle.std.specs.Prelude.{decimal}
use Rattle.std.specs.List.{flat_map}
use Rattle.std.proofs.lemmas.List.{append_assoc, append-nil, length-map, length-take-le, map-append}
use Rattle.std.proofs.Math.Seq.{take-suc}
use Rattle.strict_text.specs.Spaced.{line_text, spaced}
use Rattle.firing_journal.specs.declared.asked.Asked.{Asked}
use Rattle.firing_journal.specs.Report.{lists_in}
use Rattle.firing_journal.specs.ReportText.{caller_text, callers_text, number_text}

-- numbers with a space before each are words with one between
pub spaced_numbers : (word ns : List ℕ) → spaced (word ∷ map decimal ns) ≡ word ++ flat_map number_text ns
spaced_numbers word [] = sym (append-nil word)
spaced_numbers word (n ∷ ns) = ap (λ (l : List ℕ). word ++ 32 ∷ l) (spaced_numbers (decimal n) ns)

-- a line, written as its word, its numbers and the line feed
pub line_written : (into word ns a b all : List ℕ) → a ≡ into ++ word → b ≡ a ++ flat_map number_text ns → all ≡ b ++ 10 ∷ [] → all ≡ into ++ line_text (word ∷ map decimal ns)
line_written into word ns a b all first numbers last =
    let text = flat_map number_text ns in
    let words : b ≡ into ++ spaced (word ∷ map decimal ns) = numbers ∙ (ap (λ (l : List ℕ). l ++ text) first ∙ (append_assoc into word text ∙ ap (λ (l : List ℕ). into ++ l) (sym (spaced_numbers word ns)))) in
    last ∙ (ap (λ (l : List ℕ). l ++ 10 ∷ []) words ∙ append_assoc into (spaced (word ∷ map decimal ns)) (10 ∷ []))

-- one caller more
pub callers_more : (c : ℕ) (lists : List (List Asked)) (list : List Asked) → callers_text c (lists ++ list ∷ []) ≡ callers_text c lists ++ caller_text (c + length lists) list
callers_more c [] list = append-nil (caller_text c list) ∙ ap (λ (n : ℕ). caller_text n list) (omega arith)
callers_more c (l ∷ ls) list =
    let rest = callers_more (c + 1) ls list ∙ ap (λ (n : ℕ). callers_text (c + 1) ls ++ caller_text n list) (omega arith) in
    ap (λ (text : List ℕ). caller_text c l ++ text) rest ∙ sym (append_assoc (caller_text c l) (callers_text (c + 1) ls) (caller_text (c + length (l ∷ ls)) list))

pub callers_step : (callers : List (Vec Asked)) (at : ℕ) (d : Vec Asked) → at < length callers → callers_text 0 (lists_in (take (at + 1) callers)) ≡ callers_text 0 (lists_in (take at callers)) ++ caller_text at (get_or callers at d).items
callers_step callers at d lt =
    let next : at + 1 ≡ suc at = omega arith in
    let before = lists_in (take at callers) in
    let list = (get_or callers at d).items in
    let lists : lists_in (take (at + 1) callers) ≡ before ++ list ∷ [] = ap lists_in (ap (λ (n : ℕ). take n callers) next ∙ take-suc callers at d lt) ∙ map-append (λ (v : Vec Asked). v.items) (take at callers) (get_or callers at d ∷ []) in
    let count : 0 + length before ≡ at = omega (arith, length-map (take at callers) (λ (v : Vec Asked). v.items), length-take-le at callers (omega (arith, lt))) in
    ap (callers_text 0) lists ∙ callers_more 0 before list ∙ ap (λ (n : ℕ). callers_text 0 before ++ caller_text n list) count

pub caller_written : (callers : List (Vec Asked)) (at : ℕ) (d : Vec Asked) (list : List Asked) (into a b : List ℕ) → at < length callers → list ≡ (get_or callers at d).items → a ≡ into ++ callers_text 0 (lists_in (take at callers)) → b ≡ a ++ caller_text at list → b ≡ into ++ callers_text 0 (lists_in (take (at + 1) callers))
caller_written callers at d list into a b lt is before here =
    let text = callers_text 0 (lists_in (take at callers)) in
    let piece : caller_text at list ≡ caller_text at (get_or callers at d).items = ap (caller_text at) is in
    let grown : b ≡ into ++ text ++ caller_text at (get_or callers at d).items = here ∙ (ap (λ (l : List ℕ). l ++ caller_text at list) before ∙ ap (λ (l : List ℕ). into ++ text ++ l) piece) in
    grown ∙ (append_assoc into text (caller_text at (get_or callers at d).items) ∙ ap (λ (l : List ℕ). into ++ l) (sym (callers_step callers at d lt)))

-- Entries under their numbers.
use Rattle.std.proofs.Common.{ℕ, zero, suc, ◌≡◌, ◌<◌, ◌+◌, ◌^◌, List, [], ◌∷◌, ◌++◌, length, get_or, map, take, All, arith, subst, sym, ◌∙◌, ap}
use Rattle.std.specs.List.{range_with_len}
use Rattle.std.proofs.lemmas.Grind.{same_number_lists}
use Rattle.std.proofs.lemmas.List.{get_or-map, length-append, length-map, map-append}
use Rattle.std.proofs.lemmas.List.Elements.{All-cons, All-nil, All-push}
use Rattle.std.proofs.Math.Seq.{take-suc}
use Rattle.std.proofs.lemmas.List.FromFn.{get_or-range_with_len, length-range_with_len}
use Rattle.firing_journal.specs.declared.journal.Entry.{Entry}
use Rattle.firing_journal.specs.Journal.{AreNumbered, IsJournal, number_of}
use Rattle.firing_journal.specs.Said.{HasSmallNumbers, IsWordNumber}

range_more : (a n : ℕ) → range_with_len a (suc n) ≡ range_with_len a n ++ (a + n) ∷ []
range_more a zero = ap (λ (x : ℕ). x ∷ []) (omega arith)
range_more a (suc n) = ap (λ (l : List ℕ). a ∷ l) (range_more (a + 1) n ∙ ap (λ (x : ℕ). range_with_len (a + 1) n ++ x ∷ []) (omega arith))

numbered_push : (entries all : List Entry) (entry : Entry) → AreNumbered entries → entry.number ≡ length entries → all ≡ entries ++ entry ∷ [] → AreNumbered all
numbered_push entries all entry numbered is all_is = rw all_is (map-append number_of entries (entry ∷ []) ∙ ap (λ (l : List ℕ). l ++ entry.number ∷ []) numbered ∙ ap (λ (x : ℕ). range_with_len 0 (length entries) ++ x ∷ []) number ∙ sym (range_more 0 (length entries)) ∙ ap (range_with_len 0) count)
  where
    number : entry.number ≡ 0 + length entries
    number = omega (arith, is)

    count : suc (length entries) ≡ length (entries ++ entry ∷ [])
    count = omega (arith, length-append entries (entry ∷ []))

pub small_numbers : (entry : Entry) → entry.number < 2 ^ 64 → entry.caller < 2 ^ 64 → entry.wish.process < 2 ^ 64 → entry.wish.arc < 2 ^ 64 → entry.wish.pick < 2 ^ 64 → HasSmallNumbers entry
small_numbers entry number caller process arc pick =
    let picks : List ℕ = entry.wish.pick ∷ [] in
    let arcs : List ℕ = entry.wish.arc ∷ picks in
    let processes : List ℕ = entry.wish.process ∷ arcs in
    let callers : List ℕ = entry.caller ∷ processes in
    All-cons IsWordNumber entry.number callers number (All-cons IsWordNumber entry.caller processes caller (All-cons IsWordNumber entry.wish.process arcs process (All-cons IsWordNumber entry.wish.arc picks arc (All-cons IsWordNumber entry.wish.pick [] pick (All-nil IsWordNumber)))))

-- one entry more, under the next number
pub journal_push : (entries all : List Entry) (entry : Entry) → IsJournal entries → entry.number ≡ length entries → all ≡ entries ++ entry ∷ [] → HasSmallNumbers entry → IsJournal all
journal_push entries all entry is number all_is small = record {
  numbered = numbered_push entries all entry is.numbered number all_is;
  small = subst (All HasSmallNumbers) (sym all_is) (All-push HasSmallNumbers entries entry is.small small);
}

pub number_at : (entries : List Entry) (i : ℕ) (d : Entry) → AreNumbered entries → i < length entries → (get_or entries i d).number ≡ i
number_at entries i d numbered lt = sym (get_or-map number_of entries i d 0 lt) ∙ ap (λ (l : List ℕ). get_or l i 0) numbered ∙ get_or-range_with_len 0 (length entries) i 0 lt ∙ omega arith

-- where each entry has its place as its number they are numbered
pub numbered_each : (entries : List Entry) (d : Entry) → ((i : ℕ) → i < length entries → (get_or entries i d).number ≡ i) → AreNumbered entries
numbered_each entries d each = same_number_lists (map number_of entries) (range_with_len 0 (length entries)) (omega (arith, length-map entries number_of, length-range_with_len 0 (length entries))) (λ k within.
    let lt : k < length entries = omega (arith, within, length-map entries number_of) in
    get_or-map number_of entries k d 0 lt ∙ each k lt ∙ sym (get_or-range_with_len 0 (length entries) k 0 lt ∙ omega arith))

-- one entry more has small numbers
pub small_more : (entries : List Entry) (i : ℕ) (d : Entry) → i < length entries → All HasSmallNumbers (take i entries) → HasSmallNumbers (get_or entries i d) → All HasSmallNumbers (take (i + 1) entries)
small_more entries i d lt before here =
    let next : i + 1 ≡ suc i = omega arith in
    subst (All HasSmallNumbers) (sym (ap (λ (n : ℕ). take n entries) next ∙ take-suc entries i d lt)) (All-push HasSmallNumbers (take i entries) (get_or entries i d) before here)

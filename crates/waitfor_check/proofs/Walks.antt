-- A walk over choices, block by block.
use Rattle.std.proofs.Common.{ℕ, ◌≡◌, ◌<◌, ◌≤◌, ◌+◌, ◌-◌, inl, inr, add-one, set, List, [], ◌∷◌, ◌++◌, length, get_or, take, drop, arith, refl, sym, ◌∙◌, ap, subst, Contains}
use Rattle.std.specs.List.{flat_map}
use Rattle.std.proofs.lemmas.Bool.{cases_lt}
use Rattle.std.proofs.lemmas.Grind.{flat_map-append}
use Rattle.std.proofs.lemmas.List.{append-nil, length-append, get_or_append_left, get_or-append_right, get_or_default, get_or-take, length-take, take_more, take_more_set, take-append-drop, take-take, take-set-le, take_all, drop_more}
use Rattle.waitfor_check.specs.Closed.{IsFirstMissing}
use Rattle.waitfor_check.specs.inside.Walk.{AreMembers, Differ, EachDiffer, IsBounded, IsWalked, completions}
use Rattle.waitfor_check.specs.declared.walk.Walked.{Walked}
use Rattle.waitfor_check.specs.declared.walk.Walked.TheVariants.{All as AllMembers, Missing}
use Rattle.waitfor_check.proofs.Distinct.{Differ-take, EachDiffer-at, block, blocks_differ, blocks_to_differ, completions_differ, no_more}

-- the blocks of one number more
pub blocks_more : (chosen : List ℕ) (rest : List (List ℕ)) (xs : List ℕ) (n : ℕ) → n < length xs → flat_map (block chosen rest) (take (n + 1) xs) ≡ flat_map (block chosen rest) (take n xs) ++ block chosen rest (get_or xs n 0)
blocks_more chosen rest xs n lt = ap (flat_map (block chosen rest)) (take_more xs n 0 lt) ∙ flat_map-append (block chosen rest) (take n xs) (get_or xs n 0 ∷ []) ∙ ap (λ b. flat_map (block chosen rest) (take n xs) ++ b) (append-nil (block chosen rest (get_or xs n 0)))

-- members, and then members
pub members_more : (members xs ys : List (List ℕ)) (m n : ℕ) → AreMembers members xs m → AreMembers members ys n → AreMembers members (xs ++ ys) (m + n)
members_more members xs ys m n left right = record {
  all = λ i lt. elim (cases_lt i (length xs)) [
    | inl before ↦ subst (Contains members) (sym (get_or_append_left xs ys [] i before)) (left.all i before)
    | inr after ↦ subst (Contains members) (sym (get_or-append_right xs ys (length xs) i [] refl after)) (right.all (i - length xs) (omega (arith, lt, after, length-append xs ys)))
  ];
  count_is = omega (arith, left.count_is, right.count_is, length-append xs ys);
}

-- members, and then one that is missing, whatever follows
pub missing_more : (members xs ys zs : List (List ℕ)) (m n : ℕ) → AreMembers members xs m → IsFirstMissing members ys n → IsFirstMissing members ((xs ++ ys) ++ zs) (m + n)
missing_more members xs ys zs m n left right = record {
  within = omega (arith, left.count_is, right.within, length-append xs ys, length-append (xs ++ ys) zs);
  missing = λ has. right.missing (subst (Contains members) at has);
  first = λ i lt. first i lt;
}
  where
    at : get_or ((xs ++ ys) ++ zs) (m + n) [] ≡ get_or ys n []
    at = get_or_append_left (xs ++ ys) zs [] (m + n) (omega (arith, left.count_is, right.within, length-append xs ys)) ∙ get_or-append_right xs ys (length xs) (m + n) [] refl (omega (arith, left.count_is)) ∙ ap (λ i. get_or ys i []) (omega (arith, left.count_is))

    first : (i : ℕ) → i < m + n → Contains members (get_or ((xs ++ ys) ++ zs) i [])
    first i lt = subst (Contains members) (sym (get_or_append_left (xs ++ ys) zs [] i (omega (arith, lt, left.count_is, right.within, length-append xs ys)))) (elim (cases_lt i (length xs)) [
      | inl before ↦ subst (Contains members) (sym (get_or_append_left xs ys [] i before)) (left.all i before)
      | inr after ↦ subst (Contains members) (sym (get_or-append_right xs ys (length xs) i [] refl after)) (right.first (i - length xs) (omega (arith, lt, after, left.count_is)))
    ])

-- so many members that differ
pub count_bound : (members xs : List (List ℕ)) (n : ℕ) → Differ xs → AreMembers members xs n → n ≤ length members
count_bound members xs n differ are = omega (arith, are.count_is, no_more xs members differ (λ c has. subst (Contains members) (at c has) (are.all has.0 has.1)))
  where
    at : (c : List ℕ) → (has : Contains xs c) → get_or xs has.0 [] ≡ c
    at c has = get_or_default xs has.0 [] c has.1 ∙ has.2

-- those before one that is missing
pub at_bound : (members xs : List (List ℕ)) (n : ℕ) → Differ xs → IsFirstMissing members xs n → n ≤ length members
at_bound members xs n differ is = count_bound members (take n xs) n (Differ-take n xs differ) (record {
  all = λ i lt. (let in' : i < n = omega (arith, lt, length-take n xs) in subst (Contains members) (sym (get_or-take n xs i [] in')) (is.first i in'));
  count_is = omega (arith, length-take n xs, is.within);
})

-- a missing one, among all blocks
pub blocks_split : (chosen : List ℕ) (rest : List (List ℕ)) (xs : List ℕ) (n : ℕ) → n < length xs → flat_map (block chosen rest) xs ≡ (flat_map (block chosen rest) (take n xs) ++ block chosen rest (get_or xs n 0)) ++ flat_map (block chosen rest) (drop (n + 1) xs)
blocks_split chosen rest xs n lt = ap (flat_map (block chosen rest)) (sym (take-append-drop (n + 1) xs)) ∙ flat_map-append (block chosen rest) (take (n + 1) xs) (drop (n + 1) xs) ∙ ap (λ b. b ++ flat_map (block chosen rest) (drop (n + 1) xs)) (blocks_more chosen rest xs n lt)

-- what follows place n
rest_differ : (lists : List (List ℕ)) (n : ℕ) → EachDiffer lists → n < length lists → EachDiffer (drop (n + 1) lists)
rest_differ lists n differ lt = rw add-one (EachDiffer-at lists n differ lt).1

all_blocks : (lists : List (List ℕ)) (chosen : List ℕ) (place : ℕ) → place < length lists → completions chosen (drop place lists) ≡ flat_map (block chosen (drop (place + 1) lists)) (get_or lists place [])
all_blocks lists chosen place lt = ap (completions chosen) (drop_more lists place [] lt)

-- one number more, all of whose choices are members
pub step_members : (lists members : List (List ℕ)) (chosen : List ℕ) (place i count more : ℕ) → place < length lists → i < length (get_or lists place []) → EachDiffer lists
    → AreMembers members (flat_map (block chosen (drop (place + 1) lists)) (take i (get_or lists place []))) count → AreMembers members (block chosen (drop (place + 1) lists) (get_or (get_or lists place []) i 0)) more
    → AreMembers members (flat_map (block chosen (drop (place + 1) lists)) (take (i + 1) (get_or lists place []))) (count + more) × (count + more ≤ length members)
step_members lists members chosen place i count more lt in' differ before here = (all, count_bound members (flat_map (block chosen (drop (place + 1) lists)) (take (i + 1) (get_or lists place []))) (count + more) (blocks_to_differ chosen (drop (place + 1) lists) (get_or lists place []) (i + 1) (EachDiffer-at lists place differ lt).0 (rest_differ lists place differ lt)) all)
  where
    all : AreMembers members (flat_map (block chosen (drop (place + 1) lists)) (take (i + 1) (get_or lists place []))) (count + more)
    all = subst (λ xs. AreMembers members xs (count + more)) (sym (blocks_more chosen (drop (place + 1) lists) (get_or lists place []) i in')) (members_more members (flat_map (block chosen (drop (place + 1) lists)) (take i (get_or lists place []))) (block chosen (drop (place + 1) lists) (get_or (get_or lists place []) i 0)) count more before here)

-- one number more, with a choice that is missing
pub step_missing : (lists members : List (List ℕ)) (chosen : List ℕ) (place i count at : ℕ) → place < length lists → i < length (get_or lists place []) → EachDiffer lists
    → AreMembers members (flat_map (block chosen (drop (place + 1) lists)) (take i (get_or lists place []))) count → IsFirstMissing members (block chosen (drop (place + 1) lists) (get_or (get_or lists place []) i 0)) at
    → IsFirstMissing members (completions chosen (drop place lists)) (count + at) × (count + at ≤ length members)
step_missing lists members chosen place i count at lt in' differ before here = (subst (λ xs. IsFirstMissing members xs (count + at)) (sym (all_blocks lists chosen place lt)) missing, at_bound members (flat_map (block chosen (drop (place + 1) lists)) (get_or lists place [])) (count + at) (blocks_differ chosen (drop (place + 1) lists) (get_or lists place []) (EachDiffer-at lists place differ lt).0 (λ x. completions_differ (chosen ++ x ∷ []) (drop (place + 1) lists) (rest_differ lists place differ lt))) missing)
  where
    missing : IsFirstMissing members (flat_map (block chosen (drop (place + 1) lists)) (get_or lists place [])) (count + at)
    missing = subst (λ xs. IsFirstMissing members xs (count + at)) (sym (blocks_split chosen (drop (place + 1) lists) (get_or lists place []) i in')) (missing_more members (flat_map (block chosen (drop (place + 1) lists)) (take i (get_or lists place []))) (block chosen (drop (place + 1) lists) (get_or (get_or lists place []) i 0)) (flat_map (block chosen (drop (place + 1) lists)) (drop (i + 1) (get_or lists place []))) count at before here)

-- after the last number
pub all_members : (lists members : List (List ℕ)) (chosen : List ℕ) (place i count : ℕ) → place < length lists → length (get_or lists place []) ≤ i
    → AreMembers members (flat_map (block chosen (drop (place + 1) lists)) (take i (get_or lists place []))) count → AreMembers members (completions chosen (drop place lists)) count
all_members lists members chosen place i count lt end are = subst (λ xs. AreMembers members xs count) (ap (flat_map (block chosen (drop (place + 1) lists))) (take_all i (get_or lists place []) end) ∙ sym (all_blocks lists chosen place lt)) are

-- the target up to the number that was chosen last
pub chosen_now : (place x : ℕ) (target start : List ℕ) → place < length target → take place target ≡ take place start → take (place + 1) (set target place x) ≡ take place start ++ x ∷ []
chosen_now place x target start lt same = take_more_set target place x lt ∙ ap (λ c. c ++ x ∷ []) same

pub chosen_kept : (place x : ℕ) (target new start : List ℕ) → take place target ≡ take place start → take (place + 1) new ≡ take (place + 1) (set target place x) → take place new ≡ take place start
chosen_kept place x target new start same kept =
    sym (take-take place (place + 1) new (omega arith)) ∙ ap (take place) kept ∙ take-take place (place + 1) (set target place x) (omega arith) ∙ take-set-le place target place x (omega arith) ∙ same

-- of choices that differ no more are walked than there are members
pub walked_bound : (members xs : List (List ℕ)) (walked : Walked) → Differ xs → IsWalked members xs walked → IsBounded members walked
walked_bound members xs (AllMembers count) differ are = count_bound members xs count differ are
walked_bound members xs (Missing at) differ is = at_bound members xs at differ is

-- one that is missing, whatever follows
pub missing_first : (members xs zs : List (List ℕ)) (n : ℕ) → IsFirstMissing members xs n → IsFirstMissing members (xs ++ zs) n
missing_first members xs zs n is = record {
  within = omega (arith, is.within, length-append xs zs);
  missing = λ has. is.missing (subst (Contains members) (get_or_append_left xs zs [] n is.within) has);
  first = λ i lt. subst (Contains members) (sym (get_or_append_left xs zs [] i (omega (arith, lt, is.within)))) (is.first i lt);
}

pub missing_second : (members xs ys : List (List ℕ)) (m n : ℕ) → AreMembers members xs m → IsFirstMissing members ys n → IsFirstMissing members (xs ++ ys) (m + n)
missing_second members xs ys m n left right = subst (λ l. IsFirstMissing members l (m + n)) (append-nil (xs ++ ys)) (missing_more members xs ys [] m n left right)

-- The star states in which every leaf may begin, as choices.
use Rattle.std.proofs.Common.{ℕ, ◌≡◌, ◌<◌, ◌+◌, ◌==◌, ◌⊎◌, ◌↔◌, inl, inr, Bool, true, List, [], length, get_or, map, arith, refl, sym, ◌∙◌, ap, subst, Contains, All, eqb-true}
use Rattle.std.specs.Prelude.{filter}
use Rattle.std.specs.List.{range_with_len}
use Rattle.std.proofs.lemmas.Bool.{eq-eqb}
use Rattle.std.proofs.lemmas.List.{get_or_default}
use Rattle.std.proofs.lemmas.List.Elements.{All-contains, Contains-get_or, filter_passes}
use Rattle.pair_structure.specs.Sides.{local_of}
use Rattle.pair_structure.specs.Structure.{label_at}
use Rattle.interconnection.specs.Shape.{ShapeParts}
use Rattle.conjunctive_compose.specs.System.{IsSystem, SystemParts, edge_count, structure_of}
use Rattle.conjunctive_compose.specs.Whole.{start_of}
use Rattle.conjunctive_compose.proofs.Filters.{filter_from, filter_has}
use Rattle.waitfor_check.specs.Accepted.{HasStarts, MayBegin}
use Rattle.waitfor_check.specs.Choices.{choices}
use Rattle.waitfor_check.specs.Star.{IsStarState, centre_at, centre_side, leaf_at, leaf_structure}
use Rattle.waitfor_check.specs.Steps.{HasKinds, places}
use Rattle.waitfor_check.specs.declared.star.Star.{Star}
use Rattle.waitfor_check.specs.inside.Begins.{AreBegins, HasAllBegins, begins_at, begins_by, leaf_begins}
use Rattle.waitfor_check.specs.inside.Fits.{IsFitting}
use Rattle.waitfor_check.specs.declared.walk.Walked.{Walked}
use Rattle.waitfor_check.specs.declared.walk.Walked.TheVariants.{All as AllMembers, Missing}
use Rattle.waitfor_check.specs.inside.Walk.{EachDiffer, IsAll, IsWalked}
use Rattle.waitfor_check.proofs.Risings.{Differ-filter}
use Rattle.waitfor_check.proofs.Rows.{each_differ}
use Rattle.waitfor_check.proofs.StepLists.{choices_have, choices_take, zip_at, zip_from}

-- a pair may begin in states alone
pub may_begin_within : (sys : SystemParts) (kind s : ℕ) → IsSystem sys → kind < length sys.network.ends → MayBegin sys kind s → s < length (structure_of sys.structures kind).states
may_begin_within sys kind s lawful lt (inl zero) = rw zero (lawful.structures.over kind lt).some
may_begin_within sys kind s lawful lt (inr (e, in', is, pair)) = subst (λ (kind : ℕ). s < length (structure_of sys.structures kind).states) is pair.within

-- all of them, of a leaf
pub all_within : (sys : SystemParts) (begins : List (List ℕ)) (kind : ℕ) → IsSystem sys → kind < length sys.network.ends → AreBegins sys begins → All (λ (s : ℕ). s < length (structure_of sys.structures kind).states) (begins_at begins kind)
all_within sys begins kind lawful lt are k d in' = may_begin_within sys kind (get_or (begins_at begins kind) k d) lawful lt ((are.exact kind (get_or (begins_at begins kind) k d) lt).0 (Contains-get_or (begins_at begins kind) k d in'))

pub begins_differ : (sys : SystemParts) (shape : ShapeParts) (begins : List (List ℕ)) (p : ℕ) → AreBegins sys begins → EachDiffer (begins_by sys shape begins p)
begins_differ sys shape begins p are = each_differ (leaf_begins sys shape begins p) (range_with_len 0 (length shape.leaves)) (λ i has. Differ-filter _ (begins_at begins (leaf_at shape i).0) (are.differ (leaf_at shape i).0))

-- the local state of the centre in s, as the first leaf shows it
abbrev pub shown : SystemParts → ShapeParts → ℕ → ℕ
shown sys shape s = local_of (centre_side shape 0) (label_at (leaf_structure sys shape 0).states s)

-- a star state in which each leaf may begin is one of the choices
pub begins_chosen : (sys : SystemParts) (star : Star) (begins : List (List ℕ)) (xs : List ℕ) → IsFitting sys star → AreBegins sys begins → IsStarState sys star.shape xs → ((i : ℕ) → i < length star.shape.leaves → MayBegin sys (leaf_at star.shape i).0 (get_or xs i 0))
    → Contains (choices (begins_by sys star.shape begins (shown sys star.shape (get_or xs 0 0)))) xs
begins_chosen sys star begins xs fits are state may = choices_have (begins_by sys star.shape begins p) xs (zip_from (leaf_begins sys star.shape begins p) (length star.shape.leaves) 0 xs state.count each)
  where
    p : ℕ
    p = shown sys star.shape (get_or xs 0 0)

    at : (i : ℕ) → i < length star.shape.leaves → Contains (leaf_begins sys star.shape begins p i) (get_or xs i 0)
    at i lt = filter_has (λ t. local_of (centre_side star.shape i) (label_at (leaf_structure sys star.shape i).states t) == p) (begins_at begins (leaf_at star.shape i).0) (get_or xs i 0) ((are.exact (leaf_at star.shape i).0 (get_or xs i 0) (fits.kinds.kinds i lt)).1 (may i lt)) (eq-eqb _ _ (state.agree i lt))

    each : (i : ℕ) → i < length star.shape.leaves → Contains (leaf_begins sys star.shape begins p (0 + i)) (get_or xs i 0)
    each i lt = let e : i ≡ 0 + i = omega arith in subst (λ (j : ℕ). Contains (leaf_begins sys star.shape begins p j) (get_or xs i 0)) e (at i lt)

-- and each choice is such a star state
pub chosen_begins : (sys : SystemParts) (star : Star) (begins : List (List ℕ)) (p : ℕ) (ys : List ℕ) → IsSystem sys → IsFitting sys star → AreBegins sys begins → Contains (choices (begins_by sys star.shape begins p)) ys
    → IsStarState sys star.shape ys × ((i : ℕ) → i < length star.shape.leaves → MayBegin sys (leaf_at star.shape i).0 (get_or ys i 0))
chosen_begins sys star begins p ys lawful fits are has = (record { count = zip.0; within = λ i lt. may_begin_within sys (leaf_at star.shape i).0 (get_or ys i 0) lawful (fits.kinds.kinds i lt) (may i lt); agree = λ i lt. local i lt ∙ sym (local 0 fits.some) }, may)
  where
    zip : (length ys ≡ length star.shape.leaves) × ((i : ℕ) → i < length star.shape.leaves → Contains (leaf_begins sys star.shape begins p (0 + i)) (get_or ys i 0))
    zip = zip_at (leaf_begins sys star.shape begins p) (length star.shape.leaves) 0 ys (choices_take (begins_by sys star.shape begins p) ys has)

    at : (i : ℕ) → i < length star.shape.leaves → Contains (leaf_begins sys star.shape begins p i) (get_or ys i 0)
    at i lt = let e : 0 + i ≡ i = omega arith in subst (λ (j : ℕ). Contains (leaf_begins sys star.shape begins p j) (get_or ys i 0)) e (zip.1 i lt)

    test : ℕ → ℕ → Bool
    test i t = local_of (centre_side star.shape i) (label_at (leaf_structure sys star.shape i).states t) == p

    may : (i : ℕ) → i < length star.shape.leaves → MayBegin sys (leaf_at star.shape i).0 (get_or ys i 0)
    may i lt = (are.exact (leaf_at star.shape i).0 (get_or ys i 0) (fits.kinds.kinds i lt)).0 (filter_from (test i) (begins_at begins (leaf_at star.shape i).0) (get_or ys i 0) (at i lt))

    local : (i : ℕ) → i < length star.shape.leaves → centre_at sys star.shape ys i ≡ p
    local i lt = eqb-true _ _ (All-contains (λ (t : ℕ). test i t ≡ true) (leaf_begins sys star.shape begins p i) (get_or ys i 0) (filter_passes (test i) (begins_at begins (leaf_at star.shape i).0)) (at i lt))

-- the star has its starts where all choices with each state of the first leaf are members
pub starts_from : (sys : SystemParts) (star : Star) (begins : List (List ℕ)) → IsFitting sys star → AreBegins sys begins
    → ((i : ℕ) → i < length (begins_at begins (leaf_at star.shape 0).0) → HasAllBegins sys star begins (get_or (begins_at begins (leaf_at star.shape 0).0) i 0)) → HasStarts sys star
starts_from sys star begins fits are all xs state may =
    let found = (are.exact (leaf_at star.shape 0).0 (get_or xs 0 0) (fits.kinds.kinds 0 fits.some)).1 (may 0 fits.some) in
    let here = subst (HasAllBegins sys star begins) (get_or_default (begins_at begins (leaf_at star.shape 0).0) found.0 0 (get_or xs 0 0) found.1 ∙ found.2) (all found.0 found.1) in
    here xs (begins_chosen sys star begins xs fits are state may)

-- a star with its starts has all of them
pub starts_to : (sys : SystemParts) (star : Star) (begins : List (List ℕ)) (s : ℕ) → IsSystem sys → IsFitting sys star → AreBegins sys begins → HasStarts sys star → HasAllBegins sys star begins s
starts_to sys star begins s lawful fits are starts ys has =
    let chosen = chosen_begins sys star begins (shown sys star.shape s) ys lawful fits are has in
    starts ys chosen.0 chosen.1

-- a walk meets members alone where each choice is one
pub all_walked : (members steps : List (List ℕ)) (walked : Walked) → IsWalked members steps walked → IsAll walked ↔ ((ys : List ℕ) → Contains steps ys → Contains members ys)
all_walked members steps (AllMembers count) are = (λ u ys has. subst (Contains members) (get_or_default steps has.0 [] ys has.1 ∙ has.2) (are.all has.0 has.1), λ all. tt)
all_walked members steps (Missing at) is = (λ never. absurd never, λ all. is.missing (all (get_or steps at []) (at, is.within, get_or_default steps at (get_or steps at []) [] is.within)))

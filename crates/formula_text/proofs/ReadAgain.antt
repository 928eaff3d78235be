-- What is spelled is read again, whatever follows it.
use Rattle.std.proofs.Common.{ℕ, ◌≡◌, ◌≤◌, ◌+◌, Bool, Some, None, List, [], ◌∷◌, ◌++◌, refl, arith, append_assoc, sym, subst}
use Rattle.ctl_form.specs.Form.{implies, until}
use Rattle.formula_text.specs.declared.chain.Chain.TheVariants.{Disjunction, Conjunction}
use Rattle.formula_text.specs.declared.sign.Mark.TheVariants.{And, Or, Arrow, Close, Right}
use Rattle.formula_text.specs.declared.sign.Sign.{Sign}
use Rattle.formula_text.specs.declared.sign.Sign.TheVariants.{Behind, Until}
use Rattle.formula_text.specs.Tree.{Tree, leaf, prefixed, grouped, conjunction, disjunction, implication, waits, signs, Fits, tree_form}
use Rattle.formula_text.specs.inside.FormulaReading.{Part, formula, chain_of, unary, goes_on, Found, past, parse}
use Rattle.formula_text.proofs.ReadingRules.{ReadsAs, with_more, leaf_rule, prefix_rule, group_rule, wait_rule, chain_rule, more_rule, chain_ends, formula_ends, arrow_rule}

-- the fuel that the spelling takes where a unary stands
abbrev pub cost : Tree → ℕ
cost (leaf l) = 1
cost (prefixed p f) = cost f + 1
cost (grouped f) = cost f + 7
cost (conjunction f g) = cost f + cost g + 1
cost (disjunction f g) = cost f + cost g + 3
cost (implication f g) = cost f + cost g + 5
cost (waits all weak f g) = cost f + cost g + 12

-- no formula goes on there
pub record IsEnd (rest : List Sign) : Type 0 where
  pub no_and : past And rest ≡ None
  pub no_or : past Or rest ≡ None
  pub no_arrow : past Arrow rest ≡ None

abbrev UnaryAgain : Tree → Type 0
UnaryAgain t = (rest : List Sign) → ReadsAs (cost t) unary (signs t ++ rest) (tree_form t, rest)

abbrev AndAgain : Tree → Type 0
AndAgain t = (rest : List Sign) (x : Found) (k : ℕ) → ReadsAs k (goes_on Conjunction (tree_form t)) rest x → ReadsAs (cost t + 1 + k) (chain_of Conjunction) (signs t ++ rest) x

abbrev OrAgain : Tree → Type 0
OrAgain t = (rest : List Sign) (x : Found) (k : ℕ) → past And rest ≡ None → ReadsAs k (goes_on Disjunction (tree_form t)) rest x → ReadsAs (cost t + 3 + k) (chain_of Disjunction) (signs t ++ rest) x

abbrev FormulaAgain : Tree → Type 0
FormulaAgain t = (rest : List Sign) → IsEnd rest → ReadsAs (cost t + 5) formula (signs t ++ rest) (tree_form t, rest)

-- read again at each level at which it may stand
record Again (t : Tree) : Type 0 where
  as_unary : Fits 3 t → UnaryAgain t
  as_and : Fits 2 t → AndAgain t
  as_or : Fits 1 t → OrAgain t
  as_formula : Fits 0 t → FormulaAgain t

and_from_unary : (t : Tree) → UnaryAgain t → AndAgain t
and_from_unary t again rest x k more = with_more (cost t + k + 1) (cost t + 1 + k) (chain_of Conjunction) (signs t ++ rest) x (omega arith) (chain_rule Conjunction (signs t ++ rest) rest (tree_form t) x (cost t) k (again rest) more)

or_from_and : (t : Tree) → AndAgain t → OrAgain t
or_from_and t again rest x k none more =
    let first = again rest (tree_form t, rest) 1 (chain_ends Conjunction rest (tree_form t) none) in
    with_more (cost t + 1 + 1 + k + 1) (cost t + 3 + k) (chain_of Disjunction) (signs t ++ rest) x (omega arith) (chain_rule Disjunction (signs t ++ rest) rest (tree_form t) x (cost t + 1 + 1) k first more)

formula_from_or : (t : Tree) → OrAgain t → FormulaAgain t
formula_from_or t again rest end =
    let first = again rest (tree_form t, rest) 1 end.no_and (chain_ends Disjunction rest (tree_form t) end.no_or) in
    with_more (cost t + 3 + 1 + 1) (cost t + 5) formula (signs t ++ rest) (tree_form t, rest) (omega arith) (formula_ends (signs t ++ rest) rest (tree_form t) (cost t + 3 + 1) first end.no_arrow)

from_unary : (t : Tree) → ((n : ℕ) → Fits n t → UnaryAgain t) → Again t
from_unary t again = record {
  as_unary = λ fits. again 3 fits;
  as_and = λ fits. and_from_unary t (again 2 fits);
  as_or = λ fits. or_from_and t (and_from_unary t (again 1 fits));
  as_formula = λ fits. formula_from_or t (or_from_and t (and_from_unary t (again 0 fits)));
}

closes : (rest : List Sign) → IsEnd (Behind Close ∷ rest)
closes rest = record { no_and = refl; no_or = refl; no_arrow = refl }

waits_on : (weak : Bool) (rest : List Sign) → IsEnd (Until weak ∷ rest)
waits_on weak rest = record { no_and = refl; no_or = refl; no_arrow = refl }

ends_right : (rest : List Sign) → IsEnd (Behind Right ∷ rest)
ends_right rest = record { no_and = refl; no_or = refl; no_arrow = refl }

along : (k : ℕ) (part : Part) (ss ts : List Sign) (x : Found) → ts ≡ ss → ReadsAs k part ts x → ReadsAs k part ss x
along k part ss ts x same reads = subst (λ ss. ReadsAs k part ss x) same reads

group_again : (f : Tree) → FormulaAgain f → UnaryAgain (grouped f)
group_again f again rest =
    let inner = again (Behind Close ∷ rest) (closes rest) in
    let same : signs f ++ (Behind Close ∷ rest) ≡ (signs f ++ (Behind Close ∷ [])) ++ rest = sym (append_assoc (signs f) (Behind Close ∷ []) rest) in
    let there = along (cost f + 5) formula ((signs f ++ (Behind Close ∷ [])) ++ rest) (signs f ++ (Behind Close ∷ rest)) (tree_form f, Behind Close ∷ rest) same inner in
    with_more (cost f + 5 + 2) (cost f + 7) unary (signs (grouped f) ++ rest) (tree_form f, rest) (omega arith) (group_rule ((signs f ++ (Behind Close ∷ [])) ++ rest) rest (tree_form f) (cost f + 5) there)

second_part : (a b : List Sign) (u r : Sign) (rest : List Sign) → a ++ (u ∷ (b ++ (r ∷ rest))) ≡ (a ++ (u ∷ (b ++ (r ∷ [])))) ++ rest
second_part a b u r rest = simp append_assoc

wait_again : (all weak : Bool) (f g : Tree) → FormulaAgain f → FormulaAgain g → UnaryAgain (waits all weak f g)
wait_again all weak f g first second rest =
    let more : List Sign = signs g ++ (Behind Right ∷ rest) in
    let one = first (Until weak ∷ (signs g ++ (Behind Right ∷ rest))) (waits_on weak (signs g ++ (Behind Right ∷ rest))) in
    let two = second (Behind Right ∷ rest) (ends_right rest) in
    let same = second_part (signs f) (signs g) (Until weak) (Behind Right) rest in
    let there = along (cost f + 5) formula ((signs f ++ (Until weak ∷ (signs g ++ (Behind Right ∷ [])))) ++ rest) (signs f ++ (Until weak ∷ (signs g ++ (Behind Right ∷ rest)))) (tree_form f, Until weak ∷ (signs g ++ (Behind Right ∷ rest))) same one in
    with_more (cost f + 5 + (cost g + 5) + 2) (cost f + cost g + 12) unary (signs (waits all weak f g) ++ rest) (until all weak (tree_form f) (tree_form g), rest) (omega arith)
    (wait_rule all weak ((signs f ++ (Until weak ∷ (signs g ++ (Behind Right ∷ [])))) ++ rest) (signs g ++ (Behind Right ∷ rest)) rest (tree_form f) (tree_form g) (cost f + 5) (cost g + 5) there two)

conjunction_again : (f g : Tree) → AndAgain f → UnaryAgain g → AndAgain (conjunction f g)
conjunction_again f g first second rest x k more =
    let tail = more_rule Conjunction (signs g ++ rest) rest (tree_form f) (tree_form g) x (cost g) k (second rest) more in
    let whole = first (Behind And ∷ (signs g ++ rest)) x (cost g + k + 1) tail in
    let same : signs f ++ (Behind And ∷ (signs g ++ rest)) ≡ (signs f ++ (Behind And ∷ signs g)) ++ rest = sym (append_assoc (signs f) (Behind And ∷ signs g) rest) in
    with_more (cost f + 1 + (cost g + k + 1)) (cost f + cost g + 1 + 1 + k) (chain_of Conjunction) (signs (conjunction f g) ++ rest) x (omega arith)
    (along (cost f + 1 + (cost g + k + 1)) (chain_of Conjunction) (signs (conjunction f g) ++ rest) (signs f ++ (Behind And ∷ (signs g ++ rest))) x same whole)

disjunction_again : (f g : Tree) → OrAgain f → AndAgain g → OrAgain (disjunction f g)
disjunction_again f g first second rest x k none more =
    let part = second rest (tree_form g, rest) 1 (chain_ends Conjunction rest (tree_form g) none) in
    let tail = more_rule Disjunction (signs g ++ rest) rest (tree_form f) (tree_form g) x (cost g + 1 + 1) k part more in
    let whole = first (Behind Or ∷ (signs g ++ rest)) x (cost g + 1 + 1 + k + 1) refl tail in
    let same : signs f ++ (Behind Or ∷ (signs g ++ rest)) ≡ (signs f ++ (Behind Or ∷ signs g)) ++ rest = sym (append_assoc (signs f) (Behind Or ∷ signs g) rest) in
    with_more (cost f + 3 + (cost g + 1 + 1 + k + 1)) (cost f + cost g + 3 + 3 + k) (chain_of Disjunction) (signs (disjunction f g) ++ rest) x (omega arith)
    (along (cost f + 3 + (cost g + 1 + 1 + k + 1)) (chain_of Disjunction) (signs (disjunction f g) ++ rest) (signs f ++ (Behind Or ∷ (signs g ++ rest))) x same whole)

implication_again : (f g : Tree) → OrAgain f → FormulaAgain g → FormulaAgain (implication f g)
implication_again f g first second rest end =
    let one = first (Behind Arrow ∷ (signs g ++ rest)) (tree_form f, Behind Arrow ∷ (signs g ++ rest)) 1 refl (chain_ends Disjunction (Behind Arrow ∷ (signs g ++ rest)) (tree_form f) refl) in
    let whole = arrow_rule (signs f ++ (Behind Arrow ∷ (signs g ++ rest))) (signs g ++ rest) rest (tree_form f) (tree_form g) (cost f + 3 + 1) (cost g + 5) one (second rest end) in
    let same : signs f ++ (Behind Arrow ∷ (signs g ++ rest)) ≡ (signs f ++ (Behind Arrow ∷ signs g)) ++ rest = sym (append_assoc (signs f) (Behind Arrow ∷ signs g) rest) in
    with_more (cost f + 3 + 1 + (cost g + 5) + 1) (cost f + cost g + 5 + 5) formula (signs (implication f g) ++ rest) (implies (tree_form f) (tree_form g), rest) (omega arith)
    (along (cost f + 3 + 1 + (cost g + 5) + 1) formula (signs (implication f g) ++ rest) (signs f ++ (Behind Arrow ∷ (signs g ++ rest))) (implies (tree_form f) (tree_form g), rest) same whole)

again : (t : Tree) → Again t
again (leaf l) = from_unary (leaf l) (λ n fits rest. leaf_rule l rest)
again (prefixed p f) = from_unary (prefixed p f) (λ n fits rest. prefix_rule p (signs f ++ rest) rest (tree_form f) (cost f) ((again f).as_unary fits rest))
again (grouped f) = from_unary (grouped f) (λ n fits. group_again f ((again f).as_formula fits))
again (waits all weak f g) = from_unary (waits all weak f g) (λ n fits. wait_again all weak f g ((again f).as_formula fits.0) ((again g).as_formula fits.1))
again (conjunction f g) =
    let there : (n : ℕ) → Fits n (conjunction f g) → AndAgain (conjunction f g) = λ n fits. conjunction_again f g ((again f).as_and fits.1) ((again g).as_unary fits.2) in
    record {
      as_unary = λ fits. absurd (let le = fits.0 in omega arith);
      as_and = there 2;
      as_or = λ fits. or_from_and (conjunction f g) (there 1 fits);
      as_formula = λ fits. formula_from_or (conjunction f g) (or_from_and (conjunction f g) (there 0 fits));
    }
again (disjunction f g) =
    let there : (n : ℕ) → Fits n (disjunction f g) → OrAgain (disjunction f g) = λ n fits. disjunction_again f g ((again f).as_or fits.1) ((again g).as_and fits.2) in
    record {
      as_unary = λ fits. absurd (let le = fits.0 in omega arith);
      as_and = λ fits. absurd (let le = fits.0 in omega arith);
      as_or = there 1;
      as_formula = λ fits. formula_from_or (disjunction f g) (there 0 fits);
    }
again (implication f g) = record {
  as_unary = λ fits. absurd (let le = fits.0 in omega arith);
  as_and = λ fits. absurd (let le = fits.0 in omega arith);
  as_or = λ fits. absurd (let le = fits.0 in omega arith);
  as_formula = λ fits. implication_again f g ((again f).as_or fits.1) ((again g).as_formula fits.2);
}

-- a whole spelling is read, and nothing is left
pub whole_again : (t : Tree) (m : ℕ) → Fits 0 t → cost t + 5 ≤ m → parse m formula (signs t ++ []) ≡ Some (tree_form t, [])
whole_again t m fits le = ((again t).as_formula fits [] (record { no_and = refl; no_or = refl; no_arrow = refl })).from m le

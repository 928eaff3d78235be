-- One rule for each step of reading, with how much fuel it takes: a reading that has enough goes the same way with more.
use Rattle.std.proofs.Common.{ℕ, zero, suc, ◌≡◌, ◌≤◌, ◌+◌, Bool, Some, None, List, ◌∷◌, refl, arith}
use Rattle.ctl_form.specs.Form.{Form, implies, until}
use Rattle.formula_text.specs.declared.chain.Chain.{Chain}
use Rattle.formula_text.specs.declared.chain.Chain.TheVariants.{Disjunction, Conjunction}
use Rattle.formula_text.specs.declared.sign.Leaf.{Leaf}
use Rattle.formula_text.specs.declared.sign.Mark.TheVariants.{Arrow, Close, Left, Right}
use Rattle.formula_text.specs.declared.sign.Prefix.{Prefix}
use Rattle.formula_text.specs.declared.sign.Sign.{Sign}
use Rattle.formula_text.specs.declared.sign.Sign.TheVariants.{Alone, Before, Open, Behind, Path, Until}
use Rattle.formula_text.specs.Tree.{leaf_form, prefix_form}
use Rattle.formula_text.specs.inside.FormulaReading.{Part, formula, chain_of, unary, goes_on, operand, chain_mark, chained, Found, past, parse}

-- with this much fuel or more, this is read
pub record ReadsAs (k : ℕ) (part : Part) (ss : List Sign) (x : Found) : Type 0 where
  pub from : (m : ℕ) → k ≤ m → parse m part ss ≡ Some x

pub with_more : (k j : ℕ) (part : Part) (ss : List Sign) (x : Found) → k ≤ j → ReadsAs k part ss x → ReadsAs j part ss x
with_more k j part ss x le reads = record { from = λ m h. reads.from m (omega arith) }

leaf_there : (l : Leaf) (rest : List Sign) (m : ℕ) → 1 ≤ m → parse m unary (Alone l ∷ rest) ≡ Some (leaf_form l, rest)
unfolding parse
leaf_there l rest zero le = absurd (omega arith)
leaf_there l rest (suc m) le = refl

pub leaf_rule : (l : Leaf) (rest : List Sign) → ReadsAs 1 unary (Alone l ∷ rest) (leaf_form l, rest)
leaf_rule l rest = record { from = leaf_there l rest }

prefix_there : (p : Prefix) (ss rest : List Sign) (f : Form) (a : ℕ) → ReadsAs a unary ss (f, rest) → (m : ℕ) → a + 1 ≤ m → parse m unary (Before p ∷ ss) ≡ Some (prefix_form p f, rest)
unfolding parse
prefix_there p ss rest f a reads zero le = absurd (omega arith)
prefix_there p ss rest f a reads (suc m) le = rw (reads.from m (omega arith)) refl

pub prefix_rule : (p : Prefix) (ss rest : List Sign) (f : Form) (a : ℕ) → ReadsAs a unary ss (f, rest) → ReadsAs (a + 1) unary (Before p ∷ ss) (prefix_form p f, rest)
prefix_rule p ss rest f a reads = record { from = prefix_there p ss rest f a reads }

group_there : (ss rest : List Sign) (f : Form) (a : ℕ) → ReadsAs a formula ss (f, Behind Close ∷ rest) → (m : ℕ) → a + 2 ≤ m → parse m unary (Open ∷ ss) ≡ Some (f, rest)
unfolding parse
group_there ss rest f a reads zero le = absurd (omega arith)
group_there ss rest f a reads (suc zero) le = absurd (omega arith)
group_there ss rest f a reads (suc (suc m)) le = rw (reads.from m (omega arith)) refl

pub group_rule : (ss rest : List Sign) (f : Form) (a : ℕ) → ReadsAs a formula ss (f, Behind Close ∷ rest) → ReadsAs (a + 2) unary (Open ∷ ss) (f, rest)
group_rule ss rest f a reads = record { from = group_there ss rest f a reads }

wait_there : (all weak : Bool) (ss more rest : List Sign) (f g : Form) (a b : ℕ) → ReadsAs a formula ss (f, Until weak ∷ more) → ReadsAs b formula more (g, Behind Right ∷ rest)
    → (m : ℕ) → a + b + 2 ≤ m → parse m unary (Path all ∷ Behind Left ∷ ss) ≡ Some (until all weak f g, rest)
unfolding parse
wait_there all weak ss more rest f g a b first second zero le = absurd (omega arith)
wait_there all weak ss more rest f g a b first second (suc zero) le = absurd (omega arith)
wait_there all weak ss more rest f g a b first second (suc (suc m)) le = rw (first.from m (omega arith), second.from m (omega arith)) refl

pub wait_rule : (all weak : Bool) (ss more rest : List Sign) (f g : Form) (a b : ℕ) → ReadsAs a formula ss (f, Until weak ∷ more) → ReadsAs b formula more (g, Behind Right ∷ rest)
    → ReadsAs (a + b + 2) unary (Path all ∷ Behind Left ∷ ss) (until all weak f g, rest)
wait_rule all weak ss more rest f g a b first second = record { from = wait_there all weak ss more rest f g a b first second }

chain_there : (c : Chain) (ss rest : List Sign) (f : Form) (x : Found) (a k : ℕ) → ReadsAs a (operand c) ss (f, rest) → ReadsAs k (goes_on c f) rest x → (m : ℕ) → a + k + 1 ≤ m → parse m (chain_of c) ss ≡ Some x
unfolding parse
chain_there c ss rest f x a k first tail zero le = absurd (omega arith)
chain_there c ss rest f x a k first tail (suc m) le = rw (first.from m (omega arith)) (tail.from m (omega arith))

pub chain_rule : (c : Chain) (ss rest : List Sign) (f : Form) (x : Found) (a k : ℕ) → ReadsAs a (operand c) ss (f, rest) → ReadsAs k (goes_on c f) rest x → ReadsAs (a + k + 1) (chain_of c) ss x
chain_rule c ss rest f x a k first tail = record { from = chain_there c ss rest f x a k first tail }

more_there : (c : Chain) (ss rest : List Sign) (f g : Form) (x : Found) (a k : ℕ) → ReadsAs a (operand c) ss (g, rest) → ReadsAs k (goes_on c (chained c f g)) rest x
    → (m : ℕ) → a + k + 1 ≤ m → parse m (goes_on c f) (Behind (chain_mark c) ∷ ss) ≡ Some x
unfolding parse
more_there c ss rest f g x a k first tail zero le = absurd (omega arith)
more_there Disjunction ss rest f g x a k first tail (suc m) le = rw (first.from m (omega arith)) (tail.from m (omega arith))
more_there Conjunction ss rest f g x a k first tail (suc m) le = rw (first.from m (omega arith)) (tail.from m (omega arith))

pub more_rule : (c : Chain) (ss rest : List Sign) (f g : Form) (x : Found) (a k : ℕ) → ReadsAs a (operand c) ss (g, rest) → ReadsAs k (goes_on c (chained c f g)) rest x → ReadsAs (a + k + 1) (goes_on c f) (Behind (chain_mark c) ∷ ss) x
more_rule c ss rest f g x a k first tail = record { from = more_there c ss rest f g x a k first tail }

chain_ends_there : (c : Chain) (rest : List Sign) (f : Form) → past (chain_mark c) rest ≡ None → (m : ℕ) → 1 ≤ m → parse m (goes_on c f) rest ≡ Some (f, rest)
unfolding parse
chain_ends_there c rest f none zero le = absurd (omega arith)
chain_ends_there c rest f none (suc m) le = rw none refl

pub chain_ends : (c : Chain) (rest : List Sign) (f : Form) → past (chain_mark c) rest ≡ None → ReadsAs 1 (goes_on c f) rest (f, rest)
chain_ends c rest f none = record { from = chain_ends_there c rest f none }

formula_ends_there : (ss rest : List Sign) (f : Form) (a : ℕ) → ReadsAs a (chain_of Disjunction) ss (f, rest) → past Arrow rest ≡ None → (m : ℕ) → a + 1 ≤ m → parse m formula ss ≡ Some (f, rest)
unfolding parse
formula_ends_there ss rest f a first none zero le = absurd (omega arith)
formula_ends_there ss rest f a first none (suc m) le = rw (first.from m (omega arith), none) refl

pub formula_ends : (ss rest : List Sign) (f : Form) (a : ℕ) → ReadsAs a (chain_of Disjunction) ss (f, rest) → past Arrow rest ≡ None → ReadsAs (a + 1) formula ss (f, rest)
formula_ends ss rest f a first none = record { from = formula_ends_there ss rest f a first none }

arrow_there : (ss more rest : List Sign) (f g : Form) (a b : ℕ) → ReadsAs a (chain_of Disjunction) ss (f, Behind Arrow ∷ more) → ReadsAs b formula more (g, rest) → (m : ℕ) → a + b + 1 ≤ m → parse m formula ss ≡ Some (implies f g, rest)
unfolding parse
arrow_there ss more rest f g a b first second zero le = absurd (omega arith)
arrow_there ss more rest f g a b first second (suc m) le = rw (first.from m (omega arith), second.from m (omega arith)) refl

pub arrow_rule : (ss more rest : List Sign) (f g : Form) (a b : ℕ) → ReadsAs a (chain_of Disjunction) ss (f, Behind Arrow ∷ more) → ReadsAs b formula more (g, rest) → ReadsAs (a + b + 1) formula ss (implies f g, rest)
arrow_rule ss more rest f g a b first second = record { from = arrow_there ss more rest f g a b first second }

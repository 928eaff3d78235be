-- What is read as a formula is spelled so.
use Rattle.std.proofs.Common.{ℕ, zero, suc, ◌≡◌, ◌≤◌, ◌⊎◌, inl, inr, Bool, true, false, List, [], ◌∷◌, ◌++◌, ◌==◌, Option, Some, None, refl, sym, ap, ◌∙◌, arith, append_assoc, cond}
use Rattle.std.proofs.lemmas.Bool.Decides.{nat_tests}
use Rattle.std.proofs.lemmas.Option.{some_pair_parts}
use Rattle.ctl_form.specs.Form.{Form, implies, until}
use Rattle.formula_text.specs.declared.chain.Chain.{Chain}
use Rattle.formula_text.specs.declared.chain.Chain.TheVariants.{Disjunction, Conjunction}
use Rattle.formula_text.specs.declared.sign.Mark.{Mark}
use Rattle.formula_text.specs.declared.sign.Mark.TheVariants.{And, Or, Arrow, Close, Left, Right}
use Rattle.formula_text.specs.declared.sign.Prefix.{Prefix}
use Rattle.formula_text.specs.declared.sign.Sign.{Sign}
use Rattle.formula_text.specs.declared.sign.Sign.TheVariants.{Alone, Before, Open, Behind, Path, Until, Other}
use Rattle.formula_text.specs.Tree.{Tree, leaf, prefixed, grouped, conjunction, disjunction, implication, waits, signs, Fits, tree_form, leaf_form, prefix_form}
use Rattle.formula_text.specs.inside.FormulaReading.{Part, formula, chain_of, unary, goes_on, operand, chain_mark, chained, group, wait, Found, ◌>>=◌, pick, mark_no, past, past_until, unary_at, parse}

bind_some : {X Y : Type 0} (o : Option X) (f : X → Option Y) (y : Y) → (o >>= f) ≡ Some y → (x : X) × (o ≡ Some x) × (f x ≡ Some y)
bind_some None f y e = cc
bind_some (Some x) f y e = (x, refl, e)

pick_some : {X Y : Type 0} (o : Option X) (other : Option Y) (f : X → Option Y) (y : Y) → pick o other f ≡ Some y → ((o ≡ None) × (other ≡ Some y)) ⊎ ((x : X) × (o ≡ Some x) × (f x ≡ Some y))
pick_some None other f y e = inl (refl, e)
pick_some (Some x) other f y e = inr (x, refl, e)

none_some : {X : Type 0} (x : X) → ◌≡◌ {A = Option X} None (Some x) → ⊥
none_some x e = cc

mark_of : ℕ → Mark
mark_of n = cond (n == 0) And (cond (n == 1) Or (cond (n == 2) Arrow (cond (n == 3) Close (cond (n == 4) Left Right))))

mark_again : (m : Mark) → mark_of (mark_no m) ≡ m
unfolding mark_of
mark_again And = refl
mark_again Or = refl
mark_again Arrow = refl
mark_again Close = refl
mark_again Left = refl
mark_again Right = refl

same_mark : (k m : Mark) → (mark_no k == mark_no m) ≡ true → k ≡ m
same_mark k m e = let same : mark_no k ≡ mark_no m = grind (arith, nat_tests) in sym (mark_again k) ∙ ap mark_of same ∙ mark_again m

past_is : (m : Mark) (ss rest : List Sign) → past m ss ≡ Some rest → ss ≡ Behind m ∷ rest
past_is m [] rest e = cc
past_is m (Behind k ∷ ss) rest e =
    elim (mark_no k == mark_no m) as (λ b. (b ≡ true → k ≡ m) → cond b (Some ss) None ≡ Some rest → Behind k ∷ ss ≡ Behind m ∷ rest) [
      | true ↦ λ means e. let h = means refl in cc
      | false ↦ λ means e. cc
    ] (same_mark k m) e
past_is m (Alone l ∷ ss) rest e = cc
past_is m (Before p ∷ ss) rest e = cc
past_is m (Open ∷ ss) rest e = cc
past_is m (Path all ∷ ss) rest e = cc
past_is m (Until weak ∷ ss) rest e = cc
past_is m (Other ∷ ss) rest e = cc

past_until_is : (ss rest : List Sign) (weak : Bool) → past_until ss ≡ Some (weak, rest) → ss ≡ Until weak ∷ rest
past_until_is [] rest weak e = cc
past_until_is (Until w ∷ ss) rest weak e = let same = some_pair_parts w weak ss rest e in let one = same.0 in let two = same.1 in cc
past_until_is (Behind k ∷ ss) rest weak e = cc
past_until_is (Alone l ∷ ss) rest weak e = cc
past_until_is (Before p ∷ ss) rest weak e = cc
past_until_is (Open ∷ ss) rest weak e = cc
past_until_is (Path all ∷ ss) rest weak e = cc
past_until_is (Other ∷ ss) rest weak e = cc

-- these signs are a spelling of this formula for this level, and the rest
pub record Spelled (n : ℕ) (ss : List Sign) (f : Form) (rest : List Sign) : Type 0 where
  pub tree : Tree
  pub spells : ss ≡ signs tree ++ rest
  pub fits : Fits n tree
  pub means : tree_form tree ≡ f

fits_down : (n m : ℕ) (t : Tree) → n ≤ m → Fits m t → Fits n t
fits_down n m (leaf l) le fits = tt
fits_down n m (prefixed p f) le fits = fits
fits_down n m (grouped f) le fits = fits
fits_down n m (conjunction f g) le fits = (let h = fits.0 in omega arith, fits.1, fits.2)
fits_down n m (disjunction f g) le fits = (let h = fits.0 in omega arith, fits.1, fits.2)
fits_down n m (implication f g) le fits = (let h = fits.0 in omega arith, fits.1, fits.2)
fits_down n m (waits all weak f g) le fits = fits

lower : (n m : ℕ) (ss : List Sign) (f : Form) (rest : List Sign) → n ≤ m → Spelled m ss f rest → Spelled n ss f rest
lower n m ss f rest le s = record { tree = s.tree; spells = s.spells; fits = fits_down n m s.tree le s.fits; means = s.means }

-- a longer spelling begins with one of g
abbrev Goes : ℕ → Form → List Sign → Form → List Sign → Type 0
Goes n g ss f rest = (u : Tree) → Fits n u → tree_form u ≡ g → Spelled n (signs u ++ ss) f rest

-- the place of a chain in the grammar
abbrev pub level : Chain → ℕ
level Disjunction = 1
level Conjunction = 2

abbrev pub Reads : Part → List Sign → Form → List Sign → Type 0
Reads formula ss f rest = Spelled 0 ss f rest
Reads (chain_of c) ss f rest = Spelled (level c) ss f rest
Reads unary ss f rest = Spelled 3 ss f rest
Reads (goes_on c g) ss f rest = Goes (level c) g ss f rest
Reads group ss f rest = Spelled 3 (Open ∷ ss) f rest
Reads (wait all) ss f rest = Spelled 3 (Path all ∷ ss) f rest

-- the operand goes on as far as more says
goes_from : (n : ℕ) (ss : List Sign) (g : Form) (middle : List Sign) (f : Form) (rest : List Sign) → Spelled n ss g middle → Goes n g middle f rest → Spelled n ss f rest
goes_from n ss g middle f rest s more =
    let there = more s.tree s.fits s.means in
    record { tree = there.tree; spells = s.spells ∙ there.spells; fits = there.fits; means = there.means }

goes_nowhere : (n : ℕ) (g f : Form) (ss rest : List Sign) → g ≡ f → ss ≡ rest → Goes n g ss f rest
goes_nowhere n g f ss rest same left u fits means = record { tree = u; spells = ap (λ r. signs u ++ r) left; fits = fits; means = means ∙ same }

joined : (a b x y z : List Sign) (w : Sign) → x ≡ w ∷ y → y ≡ b ++ z → a ++ x ≡ (a ++ (w ∷ b)) ++ z
joined a b x y z w e h = rw (e, h) (sym (append_assoc a (w ∷ b) z))

chain_goes : (c : Chain) (g h f : Form) (ss left middle rest : List Sign) → ss ≡ Behind (chain_mark c) ∷ left → Reads (operand c) left h middle → Goes (level c) (chained c g h) middle f rest → Goes (level c) g ss f rest
chain_goes Conjunction g h f ss left middle rest is second goes u fits means =
    let there = goes (conjunction u second.tree) (omega arith, fits, second.fits) (let a = means in let b = second.means in cc) in
    record { tree = there.tree; spells = joined (signs u) (signs second.tree) ss left middle (Behind And) is second.spells ∙ there.spells; fits = there.fits; means = there.means }
chain_goes Disjunction g h f ss left middle rest is second goes u fits means =
    let there = goes (disjunction u second.tree) (omega arith, fits, second.fits) (let a = means in let b = second.means in cc) in
    record { tree = there.tree; spells = joined (signs u) (signs second.tree) ss left middle (Behind Or) is second.spells ∙ there.spells; fits = there.fits; means = there.means }

-- an operand is spelled where its chain may stand
operand_takes : (c : Chain) (ss : List Sign) (g : Form) (middle : List Sign) → Reads (operand c) ss g middle → Spelled (level c) ss g middle
operand_takes Disjunction ss g middle s = lower 1 2 ss g middle (omega arith) s
operand_takes Conjunction ss g middle s = lower 2 3 ss g middle (omega arith) s

arrow_takes : (g h : Form) (ss middle more rest : List Sign) → Spelled 1 ss g middle → middle ≡ Behind Arrow ∷ more → Spelled 0 more h rest → Spelled 0 ss (implies g h) rest
arrow_takes g h ss middle more rest first is second = record {
  tree = implication first.tree second.tree;
  spells = first.spells ∙ joined (signs first.tree) (signs second.tree) middle more rest (Behind Arrow) is second.spells;
  fits = (omega arith, first.fits, second.fits);
  means = let a = first.means in let b = second.means in cc;
}

prefix_takes : (p : Prefix) (g : Form) (ss rest : List Sign) → Spelled 3 ss g rest → Spelled 3 (Before p ∷ ss) (prefix_form p g) rest
prefix_takes p g ss rest s = record { tree = prefixed p s.tree; spells = ap (λ r. Before p ∷ r) s.spells; fits = s.fits; means = ap (prefix_form p) s.means }

group_takes : (g : Form) (ss middle rest : List Sign) → Spelled 0 ss g middle → middle ≡ Behind Close ∷ rest → Spelled 3 (Open ∷ ss) g rest
group_takes g ss middle rest s is = record {
  tree = grouped s.tree;
  spells = ap (λ r. Open ∷ r) (s.spells ∙ ap (λ r. signs s.tree ++ r) is ∙ sym (append_assoc (signs s.tree) (Behind Close ∷ []) rest));
  fits = s.fits;
  means = s.means;
}

two_parts : (a b x y z ss middle rest : List Sign) (l u r : Sign) → ss ≡ l ∷ x → x ≡ a ++ y → y ≡ u ∷ z → z ≡ b ++ middle → middle ≡ r ∷ rest → ss ≡ (l ∷ (a ++ (u ∷ (b ++ (r ∷ []))))) ++ rest
two_parts a b x y z ss middle rest l u r e1 e2 e3 e4 e5 = rw (e1, e2, e3, e4, e5) (simp append_assoc)

wait_takes : (all weak : Bool) (g h : Form) (ss x y z middle rest : List Sign) → ss ≡ Behind Left ∷ x → Spelled 0 x g y → y ≡ Until weak ∷ z → Spelled 0 z h middle → middle ≡ Behind Right ∷ rest
    → Spelled 3 (Path all ∷ ss) (until all weak g h) rest
wait_takes all weak g h ss x y z middle rest left first mid second right = record {
  tree = waits all weak first.tree second.tree;
  spells = ap (λ r. Path all ∷ r) (two_parts (signs first.tree) (signs second.tree) x y z ss middle rest (Behind Left) (Until weak) (Behind Right) left first.spells mid second.spells right);
  fits = (first.fits, second.fits);
  means = let a = first.means in let b = second.means in cc;
}

-- the formula and the rest that a spelling is of may be named anew
renamed : (n : ℕ) (ss : List Sign) (f g : Form) (rest left : List Sign) → ◌≡◌ {A = Option Found} (Some (f, rest)) (Some (g, left)) → Spelled n ss f rest → Spelled n ss g left
renamed n ss f g rest left e s =
    let same = some_pair_parts f g rest left e in
    record { tree = s.tree; spells = s.spells ∙ ap (λ r. signs s.tree ++ r) same.1; fits = s.fits; means = s.means ∙ same.0 }

-- with this much fuel, what is read is spelled so
abbrev IsSound : ℕ → Type 0
IsSound n = (part : Part) (ss : List Sign) (f : Form) (rest : List Sign) → parse n part ss ≡ Some (f, rest) → Reads part ss f rest

unary_takes : (n : ℕ) → IsSound n → (ss : List Sign) (f : Form) (rest : List Sign) → unary_at (parse n) ss ≡ Some (f, rest) → Spelled 3 ss f rest
unary_takes n sound [] f rest e = absurd (none_some (f, rest) e)
unary_takes n sound (Alone l ∷ ss) f rest e = renamed 3 (Alone l ∷ ss) (leaf_form l) f ss rest e (record { tree = leaf l; spells = refl; fits = tt; means = refl })
unary_takes n sound (Before p ∷ ss) f rest e =
    let g = bind_some (parse n unary ss) _ (f, rest) e in
    renamed 3 (Before p ∷ ss) (prefix_form p g.0.0) f g.0.1 rest g.2 (prefix_takes p g.0.0 ss g.0.1 (sound unary ss g.0.0 g.0.1 g.1))
unary_takes n sound (Open ∷ ss) f rest e = sound group ss f rest e
unary_takes n sound (Path all ∷ ss) f rest e = sound (wait all) ss f rest e
unary_takes n sound (Behind k ∷ ss) f rest e = absurd (none_some (f, rest) e)
unary_takes n sound (Until weak ∷ ss) f rest e = absurd (none_some (f, rest) e)
unary_takes n sound (Other ∷ ss) f rest e = absurd (none_some (f, rest) e)

pub parse_takes : (n : ℕ) → IsSound n
unfolding parse
parse_takes zero part ss f rest e = absurd (none_some (f, rest) e)
parse_takes (suc n) formula ss f rest e =
    let g = bind_some (parse n (chain_of Disjunction) ss) _ (f, rest) e in
    let first = parse_takes n (chain_of Disjunction) ss g.0.0 g.0.1 g.1 in
    elim (pick_some (past Arrow g.0.1) _ _ (f, rest) g.2) [
      | inl p ↦ renamed 0 ss g.0.0 f g.0.1 rest p.1 (lower 0 1 ss g.0.0 g.0.1 (omega arith) first)
      | inr h ↦ (let k = bind_some (parse n formula h.0) _ (f, rest) h.2 in
          let second = parse_takes n formula h.0 k.0.0 k.0.1 k.1 in
          renamed 0 ss (implies g.0.0 k.0.0) f k.0.1 rest k.2 (arrow_takes g.0.0 k.0.0 ss g.0.1 h.0 k.0.1 first (past_is Arrow g.0.1 h.0 h.1) second))
    ]
parse_takes (suc n) (chain_of c) ss f rest e =
    let g = bind_some (parse n (operand c) ss) _ (f, rest) e in
    goes_from (level c) ss g.0.0 g.0.1 f rest (operand_takes c ss g.0.0 g.0.1 (parse_takes n (operand c) ss g.0.0 g.0.1 g.1)) (parse_takes n (goes_on c g.0.0) g.0.1 f rest g.2)
parse_takes (suc n) unary ss f rest e = unary_takes n (parse_takes n) ss f rest e
parse_takes (suc n) (goes_on c g) ss f rest e = elim (pick_some (past (chain_mark c) ss) _ _ (f, rest) e) [
  | inl p ↦ (let same = some_pair_parts g f ss rest p.1 in goes_nowhere (level c) g f ss rest same.0 same.1)
  | inr h ↦ (let k = bind_some (parse n (operand c) h.0) _ (f, rest) h.2 in
      chain_goes c g k.0.0 f ss h.0 k.0.1 rest (past_is (chain_mark c) ss h.0 h.1) (parse_takes n (operand c) h.0 k.0.0 k.0.1 k.1) (parse_takes n (goes_on c (chained c g k.0.0)) k.0.1 f rest k.2))
]
parse_takes (suc n) group ss f rest e =
    let g = bind_some (parse n formula ss) _ (f, rest) e in
    let z = bind_some (past Close g.0.1) _ (f, rest) g.2 in
    renamed 3 (Open ∷ ss) g.0.0 f z.0 rest z.2 (group_takes g.0.0 ss g.0.1 z.0 (parse_takes n formula ss g.0.0 g.0.1 g.1) (past_is Close g.0.1 z.0 z.1))
parse_takes (suc n) (wait all) ss f rest e =
    let x = bind_some (past Left ss) _ (f, rest) e in
    let g = bind_some (parse n formula x.0) _ (f, rest) x.2 in
    let w = bind_some (past_until g.0.1) _ (f, rest) g.2 in
    let h = bind_some (parse n formula w.0.1) _ (f, rest) w.2 in
    let z = bind_some (past Right h.0.1) _ (f, rest) h.2 in
    renamed 3 (Path all ∷ ss) (until all w.0.0 g.0.0 h.0.0) f z.0 rest z.2
    (wait_takes all w.0.0 g.0.0 h.0.0 ss x.0 g.0.1 w.0.1 h.0.1 z.0 (past_is Left ss x.0 x.1) (parse_takes n formula x.0 g.0.0 g.0.1 g.1) (past_until_is g.0.1 w.0.1 w.0.0 w.1)
    (parse_takes n formula w.0.1 h.0.0 h.0.1 h.1) (past_is Right h.0.1 z.0 z.1))

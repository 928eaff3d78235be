-- Signs spell at most one formula, and reading them with enough fuel finds it.
use Rattle.std.proofs.Common.{ℕ, ◌≡◌, ◌≤◌, ◌<◌, ◌+◌, ◌*◌, Some, None, List, [], ◌∷◌, ◌++◌, length, sym, ap, ◌∙◌, arith, subst, length-append, append-nil}
use Rattle.std.proofs.lemmas.Option.{some_pair_parts}
use Rattle.ctl_form.specs.Form.{Form}
use Rattle.formula_text.specs.declared.sign.Mark.TheVariants.{And, Or, Arrow, Close, Right}
use Rattle.formula_text.specs.declared.sign.Sign.{Sign}
use Rattle.formula_text.specs.declared.sign.Sign.TheVariants.{Behind, Until}
use Rattle.formula_text.specs.Tree.{Tree, leaf, prefixed, grouped, conjunction, disjunction, implication, waits, signs, tree_form, Spells}
use Rattle.formula_text.specs.inside.FormulaReading.{formula, parse}
use Rattle.formula_text.proofs.ReadAgain.{cost, whole_again}
use Rattle.formula_text.proofs.ReadTakes.{parse_takes}

-- the fuel is within five times the signs
pub cost_small : (t : Tree) → cost t ≤ 5 * length (signs t)
cost_small (leaf l) = omega arith
cost_small (prefixed p f) = let h = cost_small f in omega arith
cost_small (grouped f) = let h = cost_small f in let e = length-append (signs f) (Behind Close ∷ []) in omega arith
cost_small (conjunction f g) = let h = cost_small f in let k = cost_small g in let e = length-append (signs f) (Behind And ∷ signs g) in omega arith
cost_small (disjunction f g) = let h = cost_small f in let k = cost_small g in let e = length-append (signs f) (Behind Or ∷ signs g) in omega arith
cost_small (implication f g) = let h = cost_small f in let k = cost_small g in let e = length-append (signs f) (Behind Arrow ∷ signs g) in omega arith
cost_small (waits all weak f g) =
    let h = cost_small f in let k = cost_small g in
    let e = length-append (signs f) (Until weak ∷ (signs g ++ (Behind Right ∷ []))) in
    let d = length-append (signs g) (Behind Right ∷ []) in omega arith

-- what signs spell is read of them, and nothing is left
pub spelled_is_read : (n : ℕ) (ss : List Sign) (f : Form) → 5 * length ss + 5 ≤ n → Spells ss f → parse n formula ss ≡ Some (f, [])
spelled_is_read n ss f le s =
    let small = cost_small s.tree in
    let same : length ss ≡ length (signs s.tree) = ap length s.spells in
    let read = whole_again s.tree n s.fits (omega arith) in
    let there : ss ≡ signs s.tree ++ [] = s.spells ∙ sym (append-nil (signs s.tree)) in
    subst (λ g. parse n formula ss ≡ Some (g, [])) s.means (subst (λ ts. parse n formula ts ≡ Some (tree_form s.tree, [])) (sym there) read)

-- what is read of signs to their end is spelled by them
pub read_is_spelled : (n : ℕ) (ss : List Sign) (f : Form) → parse n formula ss ≡ Some (f, []) → Spells ss f
read_is_spelled n ss f e =
    let s = parse_takes n formula ss f [] e in
    record { tree = s.tree; spells = s.spells ∙ append-nil (signs s.tree); fits = s.fits; means = s.means }

pub none_spelled : (n : ℕ) (ss : List Sign) → 5 * length ss + 5 ≤ n → parse n formula ss ≡ None → (f : Form) → Spells ss f → ⊥
none_spelled n ss le e f s = let read = spelled_is_read n ss f le s in cc

pub rest_spelled : (n : ℕ) (ss : List Sign) (g : Form) (sign : Sign) (rest : List Sign) → 5 * length ss + 5 ≤ n → parse n formula ss ≡ Some (g, sign ∷ rest) → (f : Form) → Spells ss f → ⊥
rest_spelled n ss g sign rest le e f s =
    let read = spelled_is_read n ss f le s in
    let same = some_pair_parts g f (sign ∷ rest) [] (sym e ∙ read) in let end = same.1 in cc

-- signs spell one formula at most
pub spelled_once : (ss : List Sign) (f g : Form) → Spells ss f → Spells ss g → f ≡ g
spelled_once ss f g s t =
    let one = spelled_is_read (5 * length ss + 5) ss f (omega arith) s in
    let two = spelled_is_read (5 * length ss + 5) ss g (omega arith) t in
    (some_pair_parts f g [] [] (sym one ∙ two)).0

pub none_outside : (n : ℕ) (ss : List Sign) → 5 * length ss + 5 ≤ n → None ≡ parse n formula ss → (f : Form) → Spells ss f → ⊥
none_outside n ss le e = none_spelled n ss le (sym e)

pub rest_outside : (n : ℕ) (ss : List Sign) (g : Form) (rest : List Sign) → 5 * length ss + 5 ≤ n → Some (g, rest) ≡ parse n formula ss → 0 < length rest → (f : Form) → Spells ss f → ⊥
rest_outside n ss g [] le e some = absurd (omega arith)
rest_outside n ss g (sign ∷ rest) le e some = rest_spelled n ss g sign rest le (sym e)

pub end_spelled : (n : ℕ) (ss : List Sign) (g : Form) (rest : List Sign) → Some (g, rest) ≡ parse n formula ss → length rest < 1 → Spells ss g
end_spelled n ss g [] e none = read_is_spelled n ss g (sym e)
end_spelled n ss g (sign ∷ rest) e none = absurd (omega arith)

pub outside_along : (ss ts : List Sign) → ss ≡ ts → ((f : Form) → Spells ss f → ⊥) → (f : Form) → Spells ts f → ⊥
outside_along ss ts same outside f s = outside f (subst (λ r. Spells r f) (sym same) s)

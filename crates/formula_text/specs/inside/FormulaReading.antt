-- How signs are read as a formula, from left to right.
use Rattle.std.specs.Prelude.{ℕ, zero, suc, Bool, Option, Some, None, List, ◌∷◌, ◌==◌, if◌then◌else◌}
use Rattle.ctl_form.specs.Form.{Form, both, either, implies, until}
use Rattle.formula_text.specs.declared.chain.Chain.{Chain}
use Rattle.formula_text.specs.declared.chain.Chain.TheVariants.{Disjunction, Conjunction}
use Rattle.formula_text.specs.declared.sign.Mark.{Mark}
use Rattle.formula_text.specs.declared.sign.Mark.TheVariants.{And, Or, Arrow, Close, Left, Right}
use Rattle.formula_text.specs.declared.sign.Sign.{Sign}
use Rattle.formula_text.specs.declared.sign.Sign.TheVariants.{Alone, Before, Open, Behind, Path, Until}
use Rattle.formula_text.specs.Tree.{leaf_form, prefix_form}

-- what is read next: a level of the grammar, what may follow an operand, or what follows the path of an until
pub data Part : Type 0 where
  formula : Part
  chain_of : Chain → Part
  unary : Part
  goes_on : Chain → Form → Part
  group : Part
  wait : Bool → Part

-- the mark of a chain's operator
abbrev pub chain_mark : Chain → Mark
chain_mark Disjunction = Or
chain_mark Conjunction = And

-- two formulas under it
abbrev pub chained : Chain → Form → Form → Form
chained Disjunction f g = either f g
chained Conjunction f g = both f g

-- what stands between two of its operators
abbrev pub operand : Chain → Part
operand Disjunction = chain_of Conjunction
operand Conjunction = unary

-- a formula, and the signs that are left
abbrev pub Found : Type 0
Found = Form × List Sign

infixl 10 ◌>>=◌
abbrev pub ◌>>=◌ : {X Y : Type 0} → Option X → (X → Option Y) → Option Y
None >>= f = None
(Some x) >>= f = f x

-- what follows where there is a value, else the other
abbrev pub pick : {X Y : Type 0} → Option X → Option Y → (X → Option Y) → Option Y
pick None other f = other
pick (Some x) other f = f x

abbrev pub mark_no : Mark → ℕ
mark_no And = 0
mark_no Or = 1
mark_no Arrow = 2
mark_no Close = 3
mark_no Left = 4
mark_no Right = 5

-- what stands past this mark, if it is first
abbrev pub past : Mark → List Sign → Option (List Sign)
past m (Behind k ∷ ss) = if mark_no k == mark_no m then Some ss else None
past m _ = None

-- whether the until is weak, if its sign is first, and what stands past it
abbrev pub past_until : List Sign → Option (Bool × List Sign)
past_until (Until weak ∷ ss) = Some (weak, ss)
past_until _ = None

abbrev pub unary_at : (Part → List Sign → Option Found) → List Sign → Option Found
unary_at read (Alone l ∷ ss) = Some (leaf_form l, ss)
unary_at read (Before p ∷ ss) = read unary ss >>= λ f. Some (prefix_form p f.0, f.1)
unary_at read (Open ∷ ss) = read group ss
unary_at read (Path all ∷ ss) = read (wait all) ss
unary_at read _ = None

unfoldable pub parse : ℕ → Part → List Sign → Option Found
parse zero part ss = None
parse (suc n) formula ss = parse n (chain_of Disjunction) ss >>= λ f. pick (past Arrow f.1) (Some f) (λ rest. parse n formula rest >>= λ g. Some (implies f.0 g.0, g.1))
parse (suc n) (chain_of c) ss = parse n (operand c) ss >>= λ f. parse n (goes_on c f.0) f.1
parse (suc n) unary ss = unary_at (parse n) ss
parse (suc n) (goes_on c f) ss = pick (past (chain_mark c) ss) (Some (f, ss)) (λ rest. parse n (operand c) rest >>= λ g. parse n (goes_on c (chained c f g.0)) g.1)
parse (suc n) group ss = parse n formula ss >>= λ f. past Close f.1 >>= λ rest. Some (f.0, rest)
parse (suc n) (wait all) ss =
    past Left ss >>= λ rest. parse n formula rest >>= λ f. past_until f.1 >>= λ w. parse n formula w.1 >>= λ g. past Right g.1 >>= λ rest. Some (until all w.0 f.0 g.0, rest)

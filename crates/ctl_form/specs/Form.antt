-- A formula of CTL as a tree, without where it lies in memory.
use Rattle.std.specs.Prelude.{ℕ, Bool, Option}
use Rattle.pair_structure.specs.declared.side.Side.{Side}
use Rattle.ctl_form.specs.declared.formula.Formula.{Formula, Yes, No, At, Not', And', Or', Implies', Next', Always', Sometime', Until'}

-- `at` names a side and a local state; `next all side f` is after each move or some, of one side or of either; in `until all weak f g`
-- the paths are all or some, and a weak until may wait for g without end
pub data Form : Type 0 where
  truth : Form
  falsity : Form
  at : Side → ℕ → Form
  neg : Form → Form
  both : Form → Form → Form
  either : Form → Form → Form
  implies : Form → Form → Form
  next : Bool → Option Side → Form → Form
  always : Bool → Form → Form
  sometime : Bool → Form → Form
  until : Bool → Bool → Form → Form → Form

-- the tree of a formula of the program
abbrev pub form_of : Formula → Form
form_of Yes = truth
form_of No = falsity
form_of (At side local) = at side local
form_of (Not' p f) = neg (form_of f)
form_of (And' p f q g) = both (form_of f) (form_of g)
form_of (Or' p f q g) = either (form_of f) (form_of g)
form_of (Implies' p f q g) = implies (form_of f) (form_of g)
form_of (Next' all side p f) = next all side (form_of f)
form_of (Always' all p f) = always all (form_of f)
form_of (Sometime' all p f) = sometime all (form_of f)
form_of (Until' all weak p f q g) = until all weak (form_of f) (form_of g)

-- The expansion of a row: its members are treated, the lowest first, until each is met.
use Rattle.std.specs.Prelude.{ℕ, zero, suc, Bool, true, false, ◌||◌, ◌&&◌, not, Option, Some, None, List, [], ◌∷◌, ◌++◌, if◌then◌else◌, is_some}
use Rattle.pair_structure.specs.declared.side.Side.{Side}
use Rattle.pair_structure.specs.declared.side.Side.TheVariants.{A, B}
use Rattle.ctl_form.specs.declared.part.Part.{Part}
use Rattle.ctl_form.specs.declared.part.Part.TheVariants.{Yes, No, Lit, Both, Either, Next, Until}
use Rattle.closure_sets.specs.ClosureParts.{ClosureParts, count, after, some_move}
use Rattle.closure_sets.specs.Label.{part_of, is_plain, wrong_of}
use Rattle.closure_sets.specs.Row.{Members, add}

-- a member that the row meets already adds nothing
abbrev pub met_row : Members → List Members
met_row row = row ∷ []

-- a part that the label makes true settles a member, alone
abbrev pub settled_row : Members → ℕ → List Members
settled_row row part = add row part ∷ []

-- else each way to meet it has a row of its own
abbrev pub split_rows : Members → ℕ → ℕ → List Members
split_rows row f g = add row f ∷ add row g ∷ []

-- the rows of an until that is not met now; only: the side along which each E until goes on, if one is named
abbrev pub later_rows : ClosureParts → Option Side → Bool → Members → ℕ → ℕ → List Members
later_rows c only true row m f = add (add (add row f) (after c A m)) (after c B m) ∷ []
later_rows c None false row m f = add (add row f) (after c A m) ∷ add (add row f) (after c B m) ∷ []
later_rows c (Some side) false row m f = add (add row f) (after c side m) ∷ []

-- the rows in which a member is treated; easy: a propositional member that the label makes true
abbrev pub ways : ClosureParts → Option Side → (ℕ → Bool) → Members → ℕ → Part → List Members
ways c only easy row m (Both f g) = add (add row f) g ∷ []
ways c only easy row m (Either f g) = if row f || row g then met_row row else (if easy f then settled_row row f else (if easy g then settled_row row g else split_rows row f g))
ways c only easy row m (Until all weak f g) = if row g then met_row row else (if easy g then settled_row row g else add row g ∷ later_rows c only all row m f)
ways c only easy row m Yes = row ∷ []
ways c only easy row m No = row ∷ []
ways c only easy row m (Lit side local is) = row ∷ []
ways c only easy row m (Next all side f) = row ∷ []

abbrev pub or_last : Option ℕ → ℕ → Bool → Option ℕ
or_last (Some i) n b = Some i
or_last None n true = Some n
or_last None n false = None

-- the lowest number below n that passes the test
abbrev pub lowest : ℕ → (ℕ → Bool) → Option ℕ
lowest zero p = None
lowest (suc n) p = or_last (lowest n p) n (p n)

-- a member of the row that is not treated
abbrev pub is_open : Members → Members → ℕ → Bool
is_open row treated i = row i && not (treated i)

-- members of both sets
abbrev pub is_shared : Members → Members → ℕ → Bool
is_shared row others i = row i && others i

abbrev pub rows_of : (Members → List Members) → List Members → List Members
rows_of f [] = []
rows_of f (r ∷ rs) = f r ++ rows_of f rs

-- a row whose members are all treated: it asks for a move
abbrev pub finish : ClosureParts → Members → List Members
finish c row = if row (some_move c A) || row (some_move c B) then row ∷ [] else split_rows row (some_move c A) (some_move c B)

abbrev pub at_lowest : Option ℕ → List Members → (ℕ → List Members) → List Members
at_lowest None done f = done
at_lowest (Some m) done f = f m

-- at most d members are still to be treated; clash: the row has 'false' or a literal that the label makes false
abbrev pub expand : ClosureParts → Option Side → (ℕ → Bool) → (Members → Bool) → ℕ → Members → Members → List Members
expand c only easy clash zero row treated = if clash row then [] else finish c row
expand c only easy clash (suc d) row treated =
    if clash row then [] else at_lowest (lowest (count c) (is_open row treated)) (finish c row) (λ m. rows_of (λ r. expand c only easy clash d r (add treated m)) (ways c only easy row m (part_of c m)))

abbrev pub clashes : ClosureParts → ℕ × ℕ → Members → Bool
clashes c label row = is_some (lowest (count c) (is_shared row (wrong_of c label)))

abbrev pub no_members : Members
no_members i = false

-- the expansion of a seed at a label in which each E until that is put off goes on along this side, if one is named
abbrev pub expansion_along : Option Side → ClosureParts → ℕ × ℕ → Members → List Members
expansion_along only c label seed = expand c only (is_plain c label) (clashes c label) (count c) seed no_members

-- the expansion of a seed at a label
abbrev pub expansion : ClosureParts → ℕ × ℕ → Members → List Members
expansion c label seed = expansion_along None c label seed

-- its rows in which all E untils that are put off go on along one side: those of side a, and behind them those of side b
abbrev pub one_sided : ClosureParts → ℕ × ℕ → Members → List Members
one_sided c label seed = expansion_along (Some A) c label seed ++ expansion_along (Some B) c label seed

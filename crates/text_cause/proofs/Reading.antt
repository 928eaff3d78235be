-- How a reader comes down a text.
use Rattle.std.proofs.Common.{ℕ, ◌≡◌, ◌+◌, ◌<◌, ◌≤◌, inl, inr, List, [], ◌∷◌, length, refl, arith}
use Rattle.text_cause.specs.declared.cause.TextCause.{TextCause}
use Rattle.text_cause.specs.Cause.{IsLowest}
use Rattle.text_cause.specs.Grammar.{Grammar, StandsFor, RefusedAt}

-- below the state `top`, above line `begin`, the lines above this rest were taken and left the state s; the first line of the rest is line n
pub record IsReadTo {State Line Value : Type 0} (g : Grammar State Line Value) (top : State) (begin : ℕ) (bytes rest : List ℕ) (s : State) (n : ℕ) : Type 0 where
  pub stands : (v : Value) → StandsFor g s (g.lines rest) v → StandsFor g top (g.lines bytes) v
  pub refused : (at : ℕ) (cause : TextCause) → RefusedAt g s n (g.lines rest) at cause → RefusedAt g top begin (g.lines bytes) at cause
  pub line_in : n + length rest ≤ length bytes + begin

module _ {State Line Value : Type 0} (g : Grammar State Line Value) where
  -- the first line is taken, and the lines below it leave this value
  pub line_stands : (s t : State) (lines more : List Line) (line : Line) (v : Value) → lines ≡ line ∷ more → g.Takes s line t → StandsFor g t more v → StandsFor g s lines v
  line_stands s t lines more line v is takes below = rw is (t, takes, below)

  module _ (top : State) (begin : ℕ) (bytes : List ℕ) where
    -- nothing is read
    pub read_none : IsReadTo g top begin bytes bytes top begin
    read_none = record { stands = λ v h. h; refused = λ at cause h. h; line_in = omega arith }

    -- one line more is taken
    pub read_line : (rest behind : List ℕ) (s t : State) (n : ℕ) (line : Line) → IsReadTo g top begin bytes rest s n → g.lines rest ≡ line ∷ g.lines behind → length behind < length rest → g.Takes s line t → IsReadTo g top begin bytes behind t (n + 1)
    read_line rest behind s t n line so cut shorter takes = record {
      stands = λ v below. so.stands v (rw cut (t, takes, below));
      refused = λ at cause below. so.refused at cause (rw cut (inr (t, takes, below)));
      line_in = omega (arith, so.line_in, shorter);
    }

    -- the first line of the rest is refused
    pub read_bad : (rest : List ℕ) (s : State) (n : ℕ) (line : Line) (more : List Line) (cause : TextCause) → IsReadTo g top begin bytes rest s n → g.lines rest ≡ line ∷ more → IsLowest (g.Stands s line) cause → RefusedAt g top begin (g.lines bytes) n cause
    read_bad rest s n line more cause so cut least = so.refused n cause (rw cut (inl (refl, least)))

    -- all lines are taken
    pub read_end : (rest : List ℕ) (s : State) (n : ℕ) (v : Value) → IsReadTo g top begin bytes rest s n → g.lines rest ≡ [] → g.Gives s v → StandsFor g top (g.lines bytes) v
    read_end rest s n v so none gives = so.stands v (rw none gives)

    -- and the text may not end there
    pub read_short : (rest : List ℕ) (s : State) (n : ℕ) (cause : TextCause) → IsReadTo g top begin bytes rest s n → g.lines rest ≡ [] → g.EndStands s cause → RefusedAt g top begin (g.lines bytes) n cause
    read_short rest s n cause so none stands = so.refused n cause (rw none (refl, stands))

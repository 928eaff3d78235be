-- Behind a text of a solution nothing may stand.
use Rattle.std.proofs.Common.{ℕ, ◌≡◌, List, [], ◌∷◌, ◌++◌, refl, sym, ap, ◌∙◌, subst}
use Rattle.pair_structure.specs.Role.{RoleParts}
use Rattle.pair_structure.specs.Structure.{Structure}
use Rattle.ctl_form.specs.declared.pair_spec.PairSpec.{PairSpec}
use Rattle.strict_text.specs.Lines.{Line, lines_of, text_of}
use Rattle.strict_text.proofs.LineLaws.{AreEnded, lines_append, text_of_lines}
use Rattle.solution_text.specs.Item.{Said}
use Rattle.solution_text.specs.State.{Group, after_done, State, first_state, MayStand}
use Rattle.text_cause.specs.Grammar.{StandsFor}
use Rattle.solution_text.specs.Text.{solutions, IsSolutionText}
use Rattle.solution_text.proofs.TextLaws.{takes_once}

ended_lines : (roles : List RoleParts) (s : State) (lines : List Line) (v : List Structure) → StandsFor (solutions roles) s lines v → AreEnded lines
ended_lines roles s [] v h = tt
ended_lines roles s (line ∷ lines) v (t, takes, more) = (takes.may.ended, ended_lines roles t lines v more)

nothing_may : (g : Group) (left : List PairSpec) (item : Said) → g ≡ after_done → MayStand g left item → ⊥
nothing_may g left item is may = let none = subst (λ g. MayStand g left item) is may in none

nothing_behind : (roles : List RoleParts) (s : State) (front back : List Line) (v w : List Structure) → StandsFor (solutions roles) s front v → StandsFor (solutions roles) s (front ++ back) w → back ≡ []
nothing_behind roles s [] [] v w h k = refl
nothing_behind roles s [] (line ∷ lines) v w h (t, takes, more) = absurd (nothing_may s.group s.left takes.item h.0 takes.may.may)
nothing_behind roles s (line ∷ front) back v w (t, a, more) (u, b, others) =
    nothing_behind roles t front back v w more (subst (λ u. StandsFor (solutions roles) u (front ++ back) w) (takes_once roles s line u t b a) others)

-- no proper prefix of a solution's text is a text of any solution
pub no_prefix : (roles : List RoleParts) (kinds : List PairSpec) (front back : List ℕ) (v w : List Structure) → IsSolutionText roles kinds front v → IsSolutionText roles kinds (front ++ back) w → back ≡ []
no_prefix roles kinds front back v w h k =
    let both = lines_append front back (ended_lines roles (first_state kinds) (lines_of front) v h) in
    let none = nothing_behind roles (first_state kinds) (lines_of front) (lines_of back) v w h (subst (λ lines. StandsFor (solutions roles) (first_state kinds) lines w) both k) in
    sym (text_of_lines back) ∙ ap text_of none

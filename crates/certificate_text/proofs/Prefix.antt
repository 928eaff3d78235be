-- Behind a text of a certificate nothing may stand.
use Rattle.std.proofs.Common.{ℕ, ◌≡◌, List, [], ◌∷◌, ◌++◌, refl, sym, ap, ◌∙◌, subst}
use Rattle.conjunctive_compose.specs.System.{SystemParts}
use Rattle.ctl_text.specs.Value.{SpecParts}
use Rattle.text_cause.specs.Grammar.{StandsFor}
use Rattle.strict_text.specs.Lines.{Line, lines_of, text_of}
use Rattle.strict_text.proofs.LineLaws.{AreEnded, lines_append, text_of_lines}
use Rattle.waitfor_check.specs.declared.star.Star.{Star}
use Rattle.certificate_text.specs.Item.{Said}
use Rattle.certificate_text.specs.State.{Group, after_done, State, first_state, MayStand}
use Rattle.certificate_text.specs.Text.{certificates, IsCertificateText}
use Rattle.certificate_text.proofs.TextLaws.{takes_once}

ended_lines : (v : SpecParts) (sys : SystemParts) (s : State) (lines : List Line) (stars : List Star) → StandsFor (certificates v sys) s lines stars → AreEnded lines
ended_lines v sys s [] stars h = tt
ended_lines v sys s (line ∷ lines) stars (t, takes, more) = (takes.may.ended, ended_lines v sys t lines stars more)

nothing_may : (g : Group) (item : Said) → g ≡ after_done → MayStand g item → ⊥
nothing_may g item is may = let none = subst (λ g. MayStand g item) is may in none

nothing_behind : (v : SpecParts) (sys : SystemParts) (s : State) (front back : List Line) (stars others : List Star)
    → StandsFor (certificates v sys) s front stars → StandsFor (certificates v sys) s (front ++ back) others → back ≡ []
nothing_behind v sys s [] [] stars others h k = refl
nothing_behind v sys s [] (line ∷ lines) stars others h (t, takes, more) = absurd (nothing_may s.group takes.item h.0 takes.may.may)
nothing_behind v sys s (line ∷ front) back stars others (t, a, more) (u, b, below) =
    nothing_behind v sys t front back stars others more (subst (λ u. StandsFor (certificates v sys) u (front ++ back) others) (takes_once v sys s line u t b a) below)

-- no proper prefix of a certificate's text is a text of any certificate
pub no_prefix : (v : SpecParts) (sys : SystemParts) (front back : List ℕ) (stars others : List Star) → IsCertificateText v sys front stars → IsCertificateText v sys (front ++ back) others → back ≡ []
no_prefix v sys front back stars others h k =
    let both = lines_append front back (ended_lines v sys first_state (lines_of front) stars h) in
    let none = nothing_behind v sys first_state (lines_of front) (lines_of back) stars others h (subst (λ lines. StandsFor (certificates v sys) first_state lines others) both k) in
    sym (text_of_lines back) ∙ ap text_of none

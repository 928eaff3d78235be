-- Lines that are taken one after another.
use Rattle.std.proofs.Common.{ℕ, ◌≡◌, List, [], ◌∷◌, ◌++◌, codes, refl, sym, subst}
use Rattle.std.specs.List.{flat_map}
use Rattle.pair_structure.specs.Parts.{Names}
use Rattle.formula_text.specs.Sets.{plain as plain_atoms}
use Rattle.ctl_form.specs.declared.pair_spec.PairSpec.{PairSpec}
use Rattle.ctl_form.specs.Form.{Form}
use Rattle.formula_text.specs.Canonical.{AreNames}
use Rattle.text_cause.specs.Cause.{IsFree}
use Rattle.ctl_text.specs.Cause.{Takes}
use Rattle.ctl_text.specs.inside.LineCause.{LineBlocks}
use Rattle.formula_text.specs.FormulaText.{formula_text}
use Rattle.ctl_text.specs.Item.{Said, require_line, words_for, IsSpelled}
use Rattle.ctl_text.specs.inside.Judged.{IsSpelledOver}
use Rattle.strict_text.specs.Pieces.{loose_words_of}
use Rattle.ctl_text.specs.Lines.{lines_of}
use Rattle.ctl_text.specs.SoundValue.{IsReadable}
use Rattle.ctl_text.specs.SpecText.{ended, line_for, require_text}
use Rattle.ctl_text.specs.State.{State, in_kind, MayStand, after_line}
use Rattle.text_cause.specs.Grammar.{StandsFor}
use Rattle.ctl_text.specs.Text.{Gives, specifications}
use Rattle.formula_text.specs.Token.{tokens_of}
use Rattle.ctl_text.specs.Value.{SpecParts, Declared, atoms_at}
use Rattle.formula_text.proofs.Canonical.{canonical_is_formula}
use Rattle.ctl_text.proofs.ByCause.{free_by_cause}
use Rattle.ctl_text.proofs.Clauses.{clause_made}
use Rattle.ctl_text.proofs.Judged.{may_say, no_long, taken_as, taken_takes}
use Rattle.ctl_text.proofs.LinesAgain.{IsPlain, AllNames, IsOther, plain_append, plain_text, formula_plain, item_plain, item_again, item_not_passed, item_no_clause, ended_again, tokens_again, clause_words}

-- the lines are taken below this state and leave that one
abbrev pub Goes : State → List (List ℕ) → State → Type 0
Goes s [] t = t ≡ s
Goes s (line ∷ lines) t = IsPlain line × ((u : State) × (Takes s line u × Goes u lines t))

pub goes_further : (s t u : State) (xs ys : List (List ℕ)) → Goes s xs t → Goes t ys u → Goes s (xs ++ ys) u
goes_further s t u [] ys first then = subst (λ t. Goes t ys u) first then
goes_further s t u (x ∷ xs) ys (plain, (m, (takes, first))) then = (plain, (m, (takes, goes_further m t u xs ys first then)))

-- lines that are taken stand for the value that the last state gives
pub goes_stand : (s t : State) (lines : List (List ℕ)) (v : SpecParts) → Goes s lines t → Gives t v → StandsFor specifications s (lines_of (flat_map ended lines)) v
goes_stand s t [] v goes gives = subst (λ s. Gives s v) goes gives
goes_stand s t (x ∷ xs) v (plain, (m, (takes, goes))) gives =
    subst (λ lines. StandsFor specifications s lines v) (sym (ended_again x (flat_map ended xs) plain)) (m, takes, goes_stand m t xs v goes gives)

-- the line of an item that may stand there and that nothing blocks
pub item_goes : (s t : State) (x : Said) (lines : List (List ℕ)) → IsOther x → MayStand s.group x → IsSpelled x → IsFree (LineBlocks s x) → Goes (after_line s x) lines t → Goes s (line_for x ∷ lines) t
item_goes s t x lines other may spelled free more =
    let again = sym (item_again x other spelled) in
    let plain = item_plain x other spelled in
    let says = may_say s (words_for x) x (item_no_clause x other) (record { words_are = refl; spelled = spelled }, may) in
    let taken = taken_as s (after_line s x) (words_for x) x says (no_long s (words_for x) (item_no_clause x other)) (free_by_cause s x free) refl in
    (plain, (after_line s x, (taken_takes s (after_line s x) (line_for x) (words_for x) (words_for x) again again (plain_text (line_for x) plain) (item_not_passed x) taken, more)))

-- the canonical line of a clause of the open kind
pub clause_goes : (v : Declared) (k : PairSpec) (a b : Names) (f : Form) (t : State) (lines : List (List ℕ)) → plain_atoms a ≡ atoms_at v k.role_a → plain_atoms b ≡ atoms_at v k.role_b → AllNames a → AllNames b → AreNames a → AreNames b → IsReadable a b f
    → Goes (after_line (record { parts = v; group = in_kind k }) (require_line (loose_words_of (formula_text a b f)) f)) lines t → Goes (record { parts = v; group = in_kind k }) (require_text a b f ∷ lines) t
clause_goes v k a b f t lines a_is b_is each_a each_b names_a names_b is more =
    let text = formula_text a b f in
    let s : State = record { parts = v; group = in_kind k } in
    let plain = plain_append (codes "require ") text refl (formula_plain a b f each_a each_b is.over) in
    let formula = canonical_is_formula a b f names_a names_b is.over in
    let over : IsSpelledOver (plain_atoms a) (plain_atoms b) (tokens_of text) f = record { spells = formula.spelled; known = formula.known; short = is.short } in
    let made = clause_made v k (plain_atoms a) (plain_atoms b) (loose_words_of text) f a_is b_is (subst (λ ts. IsSpelledOver (plain_atoms a) (plain_atoms b) ts f) (sym (tokens_again text)) over) in (
      plain,
      (
        after_line s (require_line (loose_words_of text) f),
        (
          taken_takes s (after_line s (require_line (loose_words_of text) f)) (require_text a b f) (codes "require" ∷ loose_words_of text) (codes "require" ∷ loose_words_of text) (sym (clause_words text)) (sym (clause_words text)) (plain_text (require_text a b f) plain)
              (item_not_passed (require_line (loose_words_of text) f)) (record { free = made.free; item = require_line (loose_words_of text) f; leaves = record { may = made.may; next = refl } }),
          more,
        ),
      ),
    )

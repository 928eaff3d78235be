-- The bytes of a file are refused by one text.
use Rattle.std.proofs.Common.{ℕ, suc, ◌≡◌, ◌<◌, List, refl, arith}
use Rattle.std.proofs.Math.Nat.{lt_of_not-le}
use Rattle.pair_structure.specs.Role.{RoleParts}
use Rattle.ctl_form.specs.declared.pair_spec.PairSpec.{PairSpec}
use Rattle.conjunctive_compose.specs.System.{SystemParts}
use Rattle.text_cause.specs.declared.cause.TextCause.{TextCause}
use Rattle.text_cause.specs.Grammar.{Grammar, IsRefused}
use Rattle.text_cause.specs.inside.Laws.{IsLawful, IsSameRefusal}
use Rattle.text_cause.proofs.TextLaws.{one_refusal}
use Rattle.ctl_text.specs.State.{first_state}
use Rattle.ctl_text.specs.Value.{SpecParts}
use Rattle.ctl_text.specs.Text.{IsRefused as IsSpecRefused, specifications}
use Rattle.ctl_text.proofs.TextLaws.{specifications_lawful}
use Rattle.solution_text.specs.State.{first_state as first_of}
use Rattle.solution_text.specs.Text.{IsRefused as IsSolutionRefused, solutions}
use Rattle.solution_text.proofs.TextLaws.{solutions_lawful}
use Rattle.firing_journal.specs.Place.{before_head}
use Rattle.firing_journal.specs.Text.{IsRefused as IsJournalRefused, journals}
use Rattle.firing_journal.proofs.Texts.{journals_lawful}
use Rattle.certificate_text.specs.State.{first_state as first_certificate}
use Rattle.certificate_text.specs.Text.{IsRefused as IsCertificateRefused, certificates}
use Rattle.certificate_text.proofs.TextLaws.{certificates_lawful}
use Rattle.skeleton_tool.specs.Refusal.{refused_text}

-- of two numbers neither is below the other
pub same_if_neither : (a b : ℕ) → (a < b → ⊥) → (b < a → ⊥) → a ≡ b
same_if_neither a b below above =
    let le : b < suc a = lt_of_not-le below in
    let ge : a < suc b = lt_of_not-le above in
    omega arith

-- one refusal has one text
same_refusal : (word : List ℕ) (line at : ℕ) (c d : TextCause) → IsSameRefusal line at c d → refused_text word line c ≡ refused_text word at d
same_refusal word line at c d same = rw (same.line_is, same.cause_is) refl

refused_once : {State Line Value : Type 0} (g : Grammar State Line Value) (lawful : IsLawful g) (first : State) (word bytes : List ℕ) (line at : ℕ) (c d : TextCause)
    → IsRefused g first bytes line c → IsRefused g first bytes at d → refused_text word line c ≡ refused_text word at d
refused_once g lawful first word bytes line at c d a b = same_refusal word line at c d (one_refusal g lawful first bytes line at c d a b)

pub spec_refused_once : (word bytes : List ℕ) (line at : ℕ) (c d : TextCause) → IsSpecRefused bytes line c → IsSpecRefused bytes at d → refused_text word line c ≡ refused_text word at d
spec_refused_once word bytes line at c d a b = refused_once specifications specifications_lawful first_state word bytes line at c d a b

pub solution_refused_once : (roles : List RoleParts) (kinds : List PairSpec) (word bytes : List ℕ) (line at : ℕ) (c d : TextCause)
    → IsSolutionRefused roles kinds bytes line c → IsSolutionRefused roles kinds bytes at d → refused_text word line c ≡ refused_text word at d
solution_refused_once roles kinds word bytes line at c d a b = refused_once (solutions roles) (solutions_lawful roles) (first_of kinds) word bytes line at c d a b

pub journal_refused_once : (sys : SystemParts) (word bytes : List ℕ) (line at : ℕ) (c d : TextCause) → IsJournalRefused sys bytes line c → IsJournalRefused sys bytes at d → refused_text word line c ≡ refused_text word at d
journal_refused_once sys word bytes line at c d a b = refused_once (journals sys) (journals_lawful sys) before_head word bytes line at c d a b

pub certificate_refused_once : (v : SpecParts) (sys : SystemParts) (word bytes : List ℕ) (line at : ℕ) (c d : TextCause) → IsCertificateRefused v sys bytes line c → IsCertificateRefused v sys bytes at d → refused_text word line c ≡ refused_text word at d
certificate_refused_once v sys word bytes line at c d a b = refused_once (certificates v sys) (certificates_lawful v sys) first_certificate word bytes line at c d a b

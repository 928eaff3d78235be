use Rattle.std.proofs.Common.{ℕ, ◌≡◌, List, Result, Ok, Err, IfOk, IfErr, MatchResult, ◌∙◌}
use Rattle.conjunctive_compose.specs.System.{SystemParts}
use Rattle.ctl_text.specs.Value.{SpecParts}
use Rattle.text_cause.specs.declared.cause.TextFault.{TextFault}
use Rattle.text_cause.specs.declared.cause.TextFault.TheVariants.{Memory}
use Rattle.text_cause.proofs.TextLaws.{one_value, never_both, memory_only, fault_only}
use Rattle.waitfor_check.specs.declared.star.Star.{Star}
use Rattle.certificate_text.specs.State.{first_state}
use Rattle.certificate_text.specs.Text.{certificates, IsCertificateText}
use Rattle.certificate_text.proofs.TextLaws.{certificates_lawful}
use Rattle.certificate_text.proofs.read.read_certificate.Goals as goal

pub returns-in-Ok-clause-only : goal.returns-in-Ok-clause-only
returns-in-Ok-clause-only c =
    made_only c.args.spec.now c.args.system.now c.args.bytes.now c.in-Ok.stars.items c.certificate_of.result c.certificate_of.ensures.ok c.certificate_of.ensures.err c.in-Ok.ensures.text
  where
    made_only : (v : SpecParts) (sys : SystemParts) (bytes : List ℕ) (stars : List Star) (r : Result (List Star) TextFault) → IfOk r (λ c. c ≡ stars) → IfErr r (λ fault. fault ≡ Memory) → IsCertificateText v sys bytes stars
        → (other : List Star) → IsCertificateText v sys bytes other → MatchResult r (λ c. c ≡ other) (λ fault. fault ≡ Memory)
    made_only v sys bytes stars (Ok c) ok err text other is = ok ∙ one_value (certificates v sys) (certificates_lawful v sys) first_state bytes stars other text is
    made_only v sys bytes stars (Err fault) ok err text other is = err

pub returns-in-Ok-clause-refused_only : goal.returns-in-Ok-clause-refused_only
returns-in-Ok-clause-refused_only c =
    λ at cause h. absurd (never_both (certificates c.args.spec.now c.args.system.now) (certificates_lawful c.args.spec.now c.args.system.now) first_state c.args.bytes.now c.in-Ok.stars.items at cause c.in-Ok.ensures.text h)

pub returns-in-Err-clause-only : goal.returns-in-Err-clause-only
returns-in-Err-clause-only c = memory_only (certificates c.args.spec.now c.args.system.now) (certificates_lawful c.args.spec.now c.args.system.now) first_state c.args.bytes.now c.in-Err.fault c.in-Err.ensures.refused

pub returns-in-Err-clause-refused_only : goal.returns-in-Err-clause-refused_only
returns-in-Err-clause-refused_only c = fault_only (certificates c.args.spec.now c.args.system.now) (certificates_lawful c.args.spec.now c.args.system.now) first_state c.args.bytes.now c.in-Err.fault c.in-Err.ensures.refused

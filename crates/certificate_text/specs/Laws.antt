-- Laws of the texts of certificates.
use Rattle.std.specs.Prelude.{ℕ, ◌≡◌, List, [], ◌++◌}
use Rattle.conjunctive_compose.specs.System.{SystemParts}
use Rattle.ctl_text.specs.Value.{SpecParts}
use Rattle.text_cause.specs.declared.cause.TextCause.{TextCause}
use Rattle.waitfor_check.specs.declared.star.Star.{Star}
use Rattle.certificate_text.specs.CertificateText.{certificate_text}
use Rattle.certificate_text.specs.Text.{IsCertificateText, IsRefused}

-- a certificate has one text
abbrev pub OneText : Type 0
OneText = (v : SpecParts) (sys : SystemParts) (bytes : List ℕ) (stars : List Star) → IsCertificateText v sys bytes stars → bytes ≡ certificate_text v stars

-- a text stands for one certificate
abbrev pub OneValue : Type 0
OneValue = (v : SpecParts) (sys : SystemParts) (bytes : List ℕ) (stars others : List Star) → IsCertificateText v sys bytes stars → IsCertificateText v sys bytes others → stars ≡ others

-- a text of a certificate stops being one where its end is cut off
abbrev pub NoPrefix : Type 0
NoPrefix = (v : SpecParts) (sys : SystemParts) (front back : List ℕ) (stars others : List Star) → IsCertificateText v sys front stars → IsCertificateText v sys (front ++ back) others → back ≡ []

-- no text is both read and refused
abbrev pub NeverBoth : Type 0
NeverBoth = (v : SpecParts) (sys : SystemParts) (bytes : List ℕ) (stars : List Star) (line : ℕ) (cause : TextCause) → IsCertificateText v sys bytes stars → IsRefused v sys bytes line cause → ⊥

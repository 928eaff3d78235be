use Rattle.std.proofs.Common.{ℕ, ◌≡◌, inr, List, codes}
use Rattle.conjunctive_compose.specs.System.{SystemParts}
use Rattle.ctl_text.specs.Value.{SpecParts}
use Rattle.text_cause.specs.declared.cause.TextFault.{TextFault}
use Rattle.text_cause.specs.declared.cause.TextFault.TheVariants.{At, Memory as NoMemory}
use Rattle.waitfor_check.specs.declared.star.Star.{Star}
use Rattle.certificate_text.specs.Answers.{IsRefusal}
use Rattle.certificate_text.specs.Text.{IsCertificateText}
use Rattle.skeleton_tool.specs.declared.stop.Stop.{Stop}
use Rattle.skeleton_tool.specs.declared.stop.Stop.TheVariants.{Answered, Memory}
use Rattle.skeleton_tool.specs.Command.{certificate_limit}
use Rattle.skeleton_tool.specs.Reading.{IsRefusedAs, IsUnread}
use Rattle.skeleton_tool.specs.Check.{certificate_grammar}
use Rattle.skeleton_tool.specs.Taking.{IsGiven, ShelfSeen, StopsAs}
use Rattle.skeleton_tool.proofs.reading.take_certificate.Goals as goal

-- where the fault of a certificate is told, the file is not read
stops_unread : (v : SpecParts) (sys : SystemParts) (seen : ShelfSeen) (file bytes text : List ℕ) (fault : TextFault) (stop : Stop) → IsGiven seen.files file certificate_limit bytes → IsRefusal v sys bytes fault → ((stars : List Star) → IsCertificateText v sys bytes stars → fault ≡ NoMemory)
    → StopsAs (IsRefusedAs (codes "certificate") fault) text stop → StopsAs (IsUnread (certificate_grammar v sys) seen file) text stop
stops_unread v sys seen file bytes text fault Memory given refused only h = tt
stops_unread v sys seen file bytes text NoMemory (Answered status) given refused only h = absurd h.0
stops_unread v sys seen file bytes text (At line what) (Answered status) given refused only h =
    (inr (h.0.0, record { bytes = bytes; given = given; no_text = λ stars t. let e : At line what ≡ NoMemory = only stars t in cc; line = line; cause = what; refused = refused; text_is = h.0.1 }), h.1)

pub returns-clause-stopped : goal.returns-clause-stopped
returns-clause-stopped g c = stops_unread c.args.spec.now c.args.system.now _ c.args.file.now c.deref.result.now _ c.in-Err.fault _ (rw (c.deref.ensures.value) c.in_ok-bytes.ensures.given) c.in-Err.ensures.refused c.in-Err.ensures.only c.refuse.ensures

use Rattle.certificate_text.proofs.Heads.{no_head}
use Rattle.certificate_text.proofs.item.head.Goals.{else-is_certificate-via-then-is_certificate+else-is_one, else-is_certificate-via-else-is_certificate}
use Rattle.certificate_text.proofs.item.head.Goals as goal

pub returns : goal.returns
returns c = no_head c.args.word.now c.args.rest.now c.requires.member c.requires.star (λ same one. elim c.else-is_certificate.branch [
  | else-is_certificate-via-then-is_certificate+else-is_one w ↦ (let t = w.is_one.ensures.1 one in let f = w.if-is_one.false in cc)
  | else-is_certificate-via-else-is_certificate w ↦ (let t = c.is_certificate.ensures.1 same in let f = w.if-is_certificate.false in cc)
])

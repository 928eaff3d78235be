use Rattle.certificate_text.proofs.ItemLaws.{head_words}
use Rattle.certificate_text.proofs.take.is_head.Goals as goal

pub returns : goal.returns
returns c = head_words c.args.line.now _ c.is_head_text.ensures

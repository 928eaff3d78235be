use Rattle.certificate_text.proofs.KeySets.{keys_push}
use Rattle.certificate_text.proofs.stars.Stars.with.Goals as goal

pub invariant_of-result : goal.invariant_of-result
invariant_of-result c = rw c.in_ok-push.ensures.items (keys_push c.self.inside.list.items c.args.star c.self.inside.keys c.add_key.new.keys c.in_ok-key.key.items c.in_ok-key.ensures c.self.invariant c.in_ok-add_key.ensures)

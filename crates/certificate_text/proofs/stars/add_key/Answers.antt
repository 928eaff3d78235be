use Rattle.certificate_text.proofs.KeySets.{with_key}
use Rattle.certificate_text.proofs.stars.add_key.Goals as goal

pub returns : goal.returns
returns c = let updates = c.in_ok-insert.ensures.updates in with_key c.args.keys.now c.insert.new.self c.args.key.items updates.1 updates.3

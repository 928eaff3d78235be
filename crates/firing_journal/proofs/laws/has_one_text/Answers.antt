use Rattle.firing_journal.proofs.OneText.{one_text}
use Rattle.firing_journal.proofs.laws.has_one_text.Goals as goal

pub returns : goal.returns
returns c = one_text

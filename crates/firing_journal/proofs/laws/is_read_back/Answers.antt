use Rattle.firing_journal.proofs.Written.{read_back}
use Rattle.firing_journal.proofs.laws.is_read_back.Goals as goal

pub returns : goal.returns
returns c = read_back

use Rattle.std.proofs.Common.{refl}
use Rattle.ctl_text.specs.inside.View.{state_of}
use Rattle.ctl_text.proofs.SaidTaken.{edge_taken}
use Rattle.ctl_text.proofs.said.take_edge.Goals as goal

pub returns-clause-taken : goal.returns-clause-taken
returns-clause-taken c = edge_taken (state_of c.args.reader) (state_of c.in_ok-reader.reader) _ _ _ _ refl c.in_ok-reader.ensures c.requires.sound c.in_default.ensures.none

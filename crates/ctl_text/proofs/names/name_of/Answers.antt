use Rattle.std.proofs.lemmas.Str.{IsUtf8-from_ascii}
use Rattle.ctl_text.proofs.NameBytes.{name_ascii}
use Rattle.ctl_text.proofs.names.name_of.Goals as goal

pub unreachable-requires-in-Err : goal.unreachable-requires-in-Err
unreachable-requires-in-Err c = c.in-Err.ensures.cases.0 (IsUtf8-from_ascii _ (name_ascii c.args.bytes.now c.requires))

use Rattle.std.proofs.Common.{sym, arith}
use Rattle.skeleton_tool.proofs.Numbers.{number_of-decimal}
use Rattle.skeleton_tool.proofs.command.spelled.Goals as goal

pub returns : goal.returns
returns c = rw c.requires (sym (number_of-decimal c.args.n (let fits = c.ranges.n.fits in omega (arith, fits))))

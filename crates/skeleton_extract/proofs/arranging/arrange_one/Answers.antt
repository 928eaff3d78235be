use Rattle.std.proofs.Common.{◌↔◌, Contains, subst, sym}
use Rattle.pair_structure.specs.Lists.{list_at}
use Rattle.skeleton_extract.proofs.arranging.arrange_one.Goals as goal

pub returns-clause-same : goal.returns-clause-same
returns-clause-same c = λ command.
    subst (λ list. Contains list command ↔ Contains (list_at c.args.lists.now c.args.arc) command) (sym c.replace.ensures.here)
    (subst (λ list. Contains c.arrange_commands.new.commands.items command ↔ Contains list command) c.replace-commands.ensures.taken (c.arrange_commands.ensures.same command))

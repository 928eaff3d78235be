use Rattle.std.proofs.Common.{codes, sym, ◌∙◌}
use Rattle.skeleton_tool.proofs.CommandWords.{first_asks}
use Rattle.skeleton_tool.proofs.command.is_run.Goals as goal

pub returns-in-len1-up : goal.returns-in-len1-up
returns-in-len1-up c =
    let first = first_asks c.args.words.now c.name-item.result c.in-len1-up.len_at_least c.name-item.is in
    (λ t. first.0 (sym c.as_str.ensures.value ∙ c.names_run.ensures.0 t), λ h. c.names_run.ensures.1 (c.as_str.ensures.value ∙ first.1 h))

use Rattle.std.proofs.Common.{sym, ◌∙◌}
use Rattle.deletion_rules.proofs.Seen.{lives_or_in, lives_or_out}
use Rattle.deletion_rules.proofs.ranks.Ranks.lives_or.Goals as goal

pub returns : goal.returns
returns c =
    let r = c.args.self.now in
    (λ e. lives_or_out r.tableau r.lives c.args.or (sym c.has_living_child.ensures ∙ e), λ h. c.has_living_child.ensures ∙ lives_or_in r.tableau r.lives c.args.or h)

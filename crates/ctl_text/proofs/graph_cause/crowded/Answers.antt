use Rattle.std.proofs.Common.{ℕ}
use Rattle.ctl_text.specs.Cause.{IsCrowded}
use Rattle.ctl_text.proofs.Options.{some_as, none_as}
use Rattle.ctl_text.proofs.Crowded.{crowded_swapped, swapped_first}
use Rattle.ctl_text.proofs.graph_cause.crowded.Goals as goal

pub returns-else-p-q-clause-some : goal.returns-else-p-q-clause-some
returns-else-p-q-clause-some c = some_as _ _ _ (λ k first. swapped_first _ _ _ _ k first) c.first_crowded-else-p-q.ensures.some

pub returns-else-p-q-clause-none : goal.returns-else-p-q-clause-none
returns-else-p-q-clause-none c =
    none_as c.first_crowded-else-p-q.result ((k : ℕ) → IsCrowded c.args.most c.args.edges.now c.args.q c.args.p k → ⊥) ((k : ℕ) → IsCrowded c.args.most c.args.edges.now c.args.p c.args.q k → ⊥)
    (λ none k crowded. none k (crowded_swapped c.args.most c.args.edges.now c.args.q c.args.p k crowded)) c.first_crowded-else-p-q.ensures.none

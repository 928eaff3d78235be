use Rattle.std.proofs.Common.{◌≡◌, Bool, true, false, List, refl, sym, ap, ◌∙◌}
use Rattle.deletion_rules.specs.Marks.{lists_of, lives_of, ranks_of}
use Rattle.deletion_rules.specs.inside.Tests.{lives_or}
use Rattle.deletion_rules.proofs.Kept.{met_dead}
use Rattle.deletion_rules.proofs.Seen.{lives_or_in, lives_or_out}
use Rattle.deletion_rules.proofs.pruning.outcome_of.Goals as goal

pub invariant_of-result : goal.invariant_of-result
invariant_of-result c =
    let root : lives_or c.args.t c.args.left.lives.items 0 ≡ true = ap (λ (l : List Bool). lives_or c.args.t l 0) (sym c.deref.ensures.value) ∙ sym c.lives_or.ensures ∙ c.if-lives_or.true in
    record { long = c.requires.long; kept = c.requires.kept; least = c.requires.least; root = lives_or_out c.args.t c.args.left.lives.items 0 root }

pub returns-then-lives_or : goal.returns-then-lives_or
returns-then-lives_or c =
    let root : lives_or c.args.t c.args.left.lives.items 0 ≡ true = ap (λ (l : List Bool). lives_or c.args.t l 0) (sym c.deref.ensures.value) ∙ sym c.lives_or.ensures ∙ c.if-lives_or.true in
    let alive = lives_or_out c.args.t c.args.left.lives.items 0 root in
    (refl, record { long = c.requires.long; kept = c.requires.kept; least = c.requires.least; root = alive }, c.requires.met, c.kept_is_satisfiable.ensures c.args.t c.tell_rules.ensures (lives_of c.args.left.lives.items) (ranks_of (lists_of c.args.left.table.items)) c.requires.kept alive)

pub returns : goal.returns
returns c =
    let root : lives_or c.args.t c.args.left.lives.items 0 ≡ false = ap (λ (l : List Bool). lives_or c.args.t l 0) (sym c.deref.ensures.value) ∙ sym c.lives_or.ensures ∙ c.if-lives_or.false in
    λ whole. met_dead c.args.t c.tell_rules.ensures (c.tableau_is_graph.ensures c.args.t c.tell_rules.ensures) (c.tableau_root_covers.ensures c.args.t c.tell_rules.ensures whole) c.args.left.lives.items (c.requires.met whole) (λ h. let x : true ≡ false = sym (lives_or_in c.args.t c.args.left.lives.items 0 h) ∙ root in cc)

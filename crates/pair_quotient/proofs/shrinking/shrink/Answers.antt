use Rattle.std.proofs.Common.{◌↔◌, subst}
use Rattle.pair_structure.proofs.StartRows.{start_within}
use Rattle.ctl_form.specs.Truth.{Holds}
use Rattle.pair_quotient.proofs.OverLaws.{IsOver-quotient}
use Rattle.pair_quotient.proofs.QuotientLaws.{quotient_agrees, quotient_shrunk}
use Rattle.pair_quotient.proofs.StartClasses.{start_class}
use Rattle.pair_quotient.proofs.shrinking.shrink.Goals as goal

pub returns : goal.returns
returns c =
    let m = c.args.m.now in
    let q = c.in_ok-q.q in
    let u = c.in_ok-q.ensures.quotient in
    let g = c.in_ok-q.ensures.goes_on in
    record {
      classes = u.0;
      quotient = u.1;
      shrunk = quotient_shrunk m q u.0 g.0 u.1;
      starts = λ a b role_a role_b over. record {
        over = IsOver-quotient m q u.0 g.0 g.1 g.2 u.1 a b role_a role_b over;
        truth = λ s lt f. subst (λ x. Holds m f s ↔ Holds q f x) (start_class m q u.0 u.1 a b role_a role_b over s lt) (quotient_agrees m q u.0 g.0 u.1 s (start_within a b m.states s over.starts lt) f);
      };
    }

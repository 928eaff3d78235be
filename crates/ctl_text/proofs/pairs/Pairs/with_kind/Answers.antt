use Rattle.std.proofs.Common.{length, sym, subst}
use Rattle.ctl_form.specs.Numbered.{IsNormalOf}
use Rattle.ctl_text.specs.Normals.{conjuncts_of}
use Rattle.ctl_text.specs.SoundValue.{IsOverRoles}
use Rattle.ctl_text.specs.inside.Pairs.{PairsParts}
use Rattle.ctl_text.proofs.NormalsKept.{kind_kept}
use Rattle.ctl_text.proofs.pairs.Pairs.with_kind.Goals as goal

pub invariant_of-result : goal.invariant_of-result
invariant_of-result c =
    let over = subst (λ (p : PairsParts). IsOverRoles (length p.roles) c.args.kind) (sym c.self.view_is) c.requires.over in
    let normal = subst (λ (p : PairsParts). IsNormalOf (conjuncts_of p.roles c.args.kind) c.args.normal) (sym c.self.view_is) c.requires.normal in
    rw (c.in_ok-push.ensures.items, c.in_ok-push-2.ensures.items) (kind_kept _ _ _ c.args.kind c.args.normal c.self.invariant over normal)

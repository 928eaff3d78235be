use Rattle.std.proofs.Common.{◌/◌, ◌+◌, subst, sym, ap, ◌∙◌}
use Rattle.ctl_form.specs.BitRow.{AreMet}
use Rattle.ctl_form.proofs.Bits.{IsRowOf-met, length_held}
use Rattle.ctl_form.proofs.bit_row.BitRow.and.Goals as goal

pub met-requires : goal.met-requires
met-requires c =
    let same = sym (length_held _ _ _ c.self.view_is) ∙ c.requires ∙ length_held _ _ _ c.other.view_is in
    rw (c.deref.ensures.value, c.deref-2.ensures.value, c.self.invariant, c.other.invariant) (ap (λ n. n / 64 + 1) same)

pub returns : goal.returns
returns c = IsRowOf-met _ _ _ _ _ _ _ c.self.view_is c.other.view_is c.self.invariant c.requires (subst (λ words. AreMet words c.other.inside.words.items c.in_ok-met.field-0.items) c.deref.ensures.value (subst (λ others. AreMet c.deref.result.now others c.in_ok-met.field-0.items) c.deref-2.ensures.value c.in_ok-met.ensures))

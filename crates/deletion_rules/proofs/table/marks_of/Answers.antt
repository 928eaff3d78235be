use Rattle.std.proofs.Common.{◌≡◌, false, subst, sym, ◌∙◌}
use Rattle.ctl_form.specs.declared.part.Part.TheVariants.{Until}
use Rattle.closure_sets.specs.ClosureParts.{ClosureParts}
use Rattle.closure_sets.specs.Label.{part_of}
use Rattle.deletion_rules.proofs.Tables.{target_is}
use Rattle.deletion_rules.proofs.table.marks_of.Goals as goal

pub mark-requires-clause-target : goal.mark-requires-clause-target
mark-requires-clause-target c =
    let w = c.in-Until-default-false-default-default in
    let u = c.args.member in
    let same : part_of c.args.t.now.closure u ≡ c.part.result = subst (λ (x : ClosureParts). part_of x u ≡ c.part.result) c.closure.ensures (sym c.part.ensures) in
    let p : part_of c.args.t.now.closure u ≡ Until w.all false w.f w.g = same ∙ subst (λ b. c.part.result ≡ Until w.all b w.f w.g) w.weak-test w.is in
    target_is c.args.t.now.closure c.tell_rules.ensures.rules.closure w.all u w.f w.g c.requires.member p

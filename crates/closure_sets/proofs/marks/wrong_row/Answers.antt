use Rattle.std.proofs.Common.{◌∙◌, ap, arith}
use Rattle.closure_sets.specs.Label.{is_wrong, wrong_of}
use Rattle.closure_sets.specs.Row.{Members, set_of}
use Rattle.closure_sets.proofs.MarkLaws.{marked_step}
use Rattle.closure_sets.proofs.marks.wrong_row.Goals as goal

pub loop-member-init : goal.loop-member-init
loop-member-init c = record { done = λ i lt. absurd (omega (arith, lt)); rest = λ i le. ap (λ (r : Members). r i) c.empty-row.ensures }

pub loop-member-preserved : goal.loop-member-preserved
loop-member-preserved c = marked_step (set_of c.loop-member.row.words) (set_of c.marked-row.result.words) (wrong_of c.args.c.now (c.args.a, c.args.b)) c.loop-member.member c.is_wrong.result c.marked-row.ensures (c.is_wrong.ensures ∙ ap (is_wrong (c.args.a, c.args.b)) c.part.ensures) c.loop-member.invariant

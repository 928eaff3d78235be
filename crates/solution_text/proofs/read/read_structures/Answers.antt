use Rattle.std.proofs.Common.{◌≡◌, subst, sym}
use Rattle.text_cause.specs.declared.cause.TextCause.{TextCause}
use Rattle.text_cause.specs.declared.line_fault.LineFault.{LineFault}
use Rattle.text_cause.specs.declared.line_fault.LineFault.TheVariants.{Bad}
use Rattle.text_cause.specs.Answers.{IsBadBy}
use Rattle.text_cause.specs.Cause.{IsLowest}
use Rattle.text_cause.proofs.Reading.{read_bad, read_line}
use Rattle.strict_text.specs.Lines.{lines_of}
use Rattle.strict_text.specs.View.{line_of}
use Rattle.text_cause.specs.Grammar.{RefusedAt}
use Rattle.solution_text.specs.Cause.{Stands}
use Rattle.solution_text.specs.State.{first_state}
use Rattle.solution_text.specs.Text.{solutions}
use Rattle.solution_text.specs.inside.View.{state_of}
use Rattle.solution_text.proofs.read.read_structures.Goals as goal

lowest_of : (against : TextCause → Type 0) (fault : LineFault) (cause : TextCause) → fault ≡ Bad cause → IsBadBy against fault → IsLowest against cause
lowest_of against fault cause is bad = let least : IsBadBy against (Bad cause) = subst (IsBadBy against) is bad in least

pub returns-in-Err-Bad-clause-refused : goal.returns-in-Err-Bad-clause-refused
returns-in-Err-Bad-clause-refused c =
    let refused = read_bad (solutions c.args.roles.now) (first_state c.args.kinds.now) 1 c.args.bytes.now c.loop-rest.rest.now (state_of c.loop-rest.reader) c.loop-rest.line (line_of c.cut_line.result.0) (lines_of c.cut_line.result.1.now) c.in-Err-Bad.what
    c.loop-rest.invariant.read c.cut_line.ensures.cut (lowest_of (Stands (state_of c.loop-rest.reader) (line_of c.cut_line.result.0)) c.in-Err-Bad.field-0 c.in-Err-Bad.what c.in-Err-Bad.field-0-is c.in-Err-Bad.ensures.refused) in
    subst (λ (cause : TextCause). RefusedAt (solutions c.args.roles.now) (first_state c.args.kinds.now) 1 (lines_of c.args.bytes.now) c.loop-rest.line cause) (sym c.in-Err-Bad.what-is) refused

pub loop-rest-preserved : goal.loop-rest-preserved
loop-rest-preserved c = record {
  read = read_line (solutions c.args.roles.now) (first_state c.args.kinds.now) 1 c.args.bytes.now c.loop-rest.rest.now c.cut_line.result.1.now (state_of c.loop-rest.reader) _ c.loop-rest.line (line_of c.cut_line.result.0) c.loop-rest.invariant.read c.cut_line.ensures.cut c.cut_line.ensures.shorter c.in-Ok.ensures.taken;
  roles = c.in-Ok.ensures.roles;
}

use Rattle.std.proofs.Common.{◌≡◌, subst, sym}
use Rattle.text_cause.specs.declared.cause.TextCause.{TextCause}
use Rattle.text_cause.specs.declared.line_fault.LineFault.{LineFault}
use Rattle.text_cause.specs.declared.line_fault.LineFault.TheVariants.{Bad}
use Rattle.text_cause.specs.Answers.{IsBadBy}
use Rattle.text_cause.specs.Cause.{IsLowest}
use Rattle.text_cause.proofs.Reading.{read_bad, read_line}
use Rattle.strict_text.specs.Lines.{lines_of}
use Rattle.strict_text.specs.View.{line_of}
use Rattle.text_cause.specs.Grammar.{RefusedAt}
use Rattle.certificate_text.specs.Cause.{Stands}
use Rattle.certificate_text.specs.State.{first_state}
use Rattle.certificate_text.specs.Text.{certificates}
use Rattle.certificate_text.specs.inside.View.{state_of}
use Rattle.certificate_text.proofs.Kept.{takes_sound}
use Rattle.certificate_text.proofs.read.read_stars.Goals as goal

lowest_of : (against : TextCause → Type 0) (fault : LineFault) (cause : TextCause) → fault ≡ Bad cause → IsBadBy against fault → IsLowest against cause
lowest_of against fault cause is bad = let least : IsBadBy against (Bad cause) = subst (IsBadBy against) is bad in least

pub returns-in-Err-Bad-clause-refused : goal.returns-in-Err-Bad-clause-refused
returns-in-Err-Bad-clause-refused c =
    let refused = read_bad (certificates c.args.spec.now c.args.system.now) first_state 1 c.args.bytes.now c.loop-rest.rest.now (state_of c.loop-rest.reader) c.loop-rest.line (line_of c.cut_line.result.0) (lines_of c.cut_line.result.1.now) c.in-Err-Bad.what
    c.loop-rest.invariant.read c.cut_line.ensures.cut (lowest_of (Stands c.args.spec.now c.args.system.now (state_of c.loop-rest.reader) (line_of c.cut_line.result.0)) c.in-Err-Bad.field-0 c.in-Err-Bad.what c.in-Err-Bad.field-0-is c.in-Err-Bad.ensures.refused) in
    subst (λ (cause : TextCause). RefusedAt (certificates c.args.spec.now c.args.system.now) first_state 1 (lines_of c.args.bytes.now) c.loop-rest.line cause) (sym c.in-Err-Bad.what-is) refused

pub loop-rest-preserved : goal.loop-rest-preserved
loop-rest-preserved c = record {
  read = read_line (certificates c.args.spec.now c.args.system.now) first_state 1 c.args.bytes.now c.loop-rest.rest.now c.cut_line.result.1.now (state_of c.loop-rest.reader) _ c.loop-rest.line (line_of c.cut_line.result.0) c.loop-rest.invariant.read c.cut_line.ensures.cut c.cut_line.ensures.shorter c.in-Ok.ensures.taken;
  sound = takes_sound c.args.spec.now c.args.system.now (state_of c.loop-rest.reader) _ (line_of c.cut_line.result.0) c.requires c.in-Ok.ensures.taken c.loop-rest.invariant.sound;
}

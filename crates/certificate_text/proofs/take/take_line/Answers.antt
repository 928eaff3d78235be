use Rattle.std.proofs.Common.{◌≡◌, Option, Some, MatchOption, subst}
use Rattle.strict_text.specs.View.{line_of}
use Rattle.certificate_text.specs.Item.{Said}
use Rattle.certificate_text.specs.Cause.{MaySay}
use Rattle.certificate_text.specs.declared.item.Item.{Item}
use Rattle.certificate_text.specs.inside.Saying.{said}
use Rattle.certificate_text.specs.inside.View.{group_of, state_of}
use Rattle.certificate_text.proofs.Judged.{said_refused, said_takes}
use Rattle.certificate_text.proofs.take.take_line.Goals as goal

some_of : {X : Type 0} (N : Type 0) (P : X → Type 0) (o : Option X) (x : X) → o ≡ Some x → MatchOption o N P → P x
some_of N P o x is h = let m : MatchOption (Some x) N P = subst (λ o. MatchOption o N P) is h in m

pub returns-in-Err-clause-refused : goal.returns-in-Err-clause-refused
returns-in-Err-clause-refused c =
    let may = some_of ((x : Said) → MaySay (group_of c.args.reader.place) (line_of c.args.line) x → ⊥) (λ (item : Item). MaySay (group_of c.args.reader.place) (line_of c.args.line) (said item)) c.in_ok-item.field-0 c.in-Some.item c.in-Some.is c.in_ok-item.ensures in
    said_refused c.args.spec.now c.args.system.now (state_of c.args.reader) (line_of c.args.line) (said c.in-Some.item) c.in-Err.fault (c.is_strict.ensures.0 c.if-not-is_strict.false) may c.in-Err.ensures.refused

pub returns-in-Ok-clause-taken : goal.returns-in-Ok-clause-taken
returns-in-Ok-clause-taken c =
    let may = some_of ((x : Said) → MaySay (group_of c.args.reader.place) (line_of c.args.line) x → ⊥) (λ (item : Item). MaySay (group_of c.args.reader.place) (line_of c.args.line) (said item)) c.in_ok-item.field-0 c.in-Some.item c.in-Some.is c.in_ok-item.ensures in
    said_takes c.args.spec.now c.args.system.now (state_of c.args.reader) (line_of c.args.line) (said c.in-Some.item) (state_of c.in-Ok.reader) (c.is_strict.ensures.0 c.if-not-is_strict.false) may c.in-Ok.ensures.taken

use Rattle.std.proofs.Common.{length}
use Rattle.ctl_form.specs.inside.Next.{SomeLeads}
use Rattle.ctl_form.specs.Row.{IsRowOf}
use Rattle.ctl_form.proofs.next_row.some_next.Given as goal

abbrev pub invariant-loop-step : goal.invariant-loop-step
invariant-loop-step l = IsRowOf (length l.m.states) (SomeLeads l.m.moves l.side l.p l.step-index) l.row

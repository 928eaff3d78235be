use Rattle.std.proofs.Common.{◌∙◌, arith}
use Rattle.interconnection.proofs.ProcessNumberLaws.{numbers_more}
use Rattle.interconnection.proofs.processes.Processes.with.Goals as goal

pub invariant_of-result : goal.invariant_of-result
invariant_of-result c =
    rw c.in_ok-push.ensures.items (numbers_more c.self.inside.list.items c.args.process c.as_bytes.result.now c.len.result c.self.inside.numbers.entries c.number_in.new.numbers.entries (c.as_bytes.ensures.value ∙ c.as_str.ensures.text) (omega (arith, c.len.ensures, c.self.inside.list.ok))
    c.self.invariant c.in_ok-number_in.ensures)

use Rattle.firing_journal.proofs.ReportLines.{line_written}
use Rattle.firing_journal.proofs.reporting.write_line.Goals as goal

pub returns : goal.returns
returns c =
    line_written c.args.into.now.items c.args.word.now c.args.numbers.now c.extend_from_slice.new.self.items c.write_numbers.new.into.items c.extend_from_slice-2.new.self.items
    c.in_ok-extend_from_slice.ensures.items
    c.in_ok-write_numbers.ensures
    c.in_ok-extend_from_slice-2.ensures.items

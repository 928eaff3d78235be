-- What a line is, without where it lies in memory.
use Rattle.std.specs.Prelude.{}
use Rattle.strict_text.specs.declared.line.Line.{Line}
use Rattle.strict_text.specs.Lines.{Line as TextLine}

abbrev pub line_of : Line → TextLine
line_of line = record { bytes = line.bytes.now; is_ended = line.is_ended }

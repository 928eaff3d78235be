use Rattle.std.proofs.Common.{◌≡◌, ◌++◌, All, length, map}
use Rattle.strict_text.specs.Words.{words_of}
use Rattle.certificate_text.specs.Item.{IsSpelledLabel, label_text}
use Rattle.certificate_text.specs.inside.Saying.{names_of}
use Rattle.certificate_text.proofs.item.labels_of.Given as goal

abbrev pub invariant-loop-rest : goal.invariant-loop-rest
invariant-loop-rest l = record {
  words : words_of l.text ≡ map label_text (names_of l.labels.items) ++ words_of l.rest;
  spelled : All IsSpelledLabel (names_of l.labels.items);
}

abbrev pub decreases-loop-rest : goal.decreases-loop-rest
decreases-loop-rest l = length l.rest

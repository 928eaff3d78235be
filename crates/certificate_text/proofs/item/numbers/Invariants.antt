use Rattle.std.proofs.Common.{◌≡◌, ◌++◌, All, decimal, length, map}
use Rattle.strict_text.specs.Words.{words_of}
use Rattle.certificate_text.specs.Item.{IsShort}
use Rattle.certificate_text.proofs.item.numbers.Given as goal

abbrev pub invariant-loop-n : goal.invariant-loop-n
invariant-loop-n l = record {
  words : words_of l.text ≡ map decimal l.states.items ++ words_of l.rest;
  short : All IsShort l.states.items;
}

abbrev pub decreases-loop-n : goal.decreases-loop-n
decreases-loop-n l = length l.rest

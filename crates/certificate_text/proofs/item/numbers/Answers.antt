use Rattle.std.proofs.Common.{◌++◌, sym, ap, ◌∙◌, decimal, map, option_copied}
use Rattle.strict_text.specs.Words.{words_behind}
use Rattle.certificate_text.specs.Item.{IsShort}
use Rattle.certificate_text.proofs.WordLists.{no_list}
use Rattle.certificate_text.proofs.item.numbers.Goals as goal

pub returns-in_default : goal.returns-in_default
returns-in_default c = λ ns are.
    no_list decimal IsShort c.loop-n.states.items ns c.cut_word.result.0.now (words_behind (option_copied c.cut_word.result.1)) are.short
    (ap (λ t. map decimal c.loop-n.states.items ++ t) (sym c.cut_word.ensures.cut) ∙ sym c.loop-n.invariant.words ∙ are.words_are) c.in_default.ensures.none

use Rattle.solution_text.proofs.ItemLaws.{fifth_word}
use Rattle.solution_text.proofs.item.said_by.Goals as goal

pub returns-in-Some-rest-3-clause-none : goal.returns-in-Some-rest-3-clause-none
returns-in-Some-rest-3-clause-none c =
    let e1 = rw c.in-Some.is at c.cut_word.ensures.cut in
    let e2 = rw c.in-Some-rest.is at c.cut_word-2.ensures.cut in
    let e3 = rw c.in-Some-rest-2.is at c.cut_word-3.ensures.cut in
    let e4 = rw c.in-Some-rest-3.is at c.cut_word-4.ensures.cut in
    fifth_word _ c.cut_word.result.0.now c.cut_word-2.result.0.now c.cut_word-3.result.0.now c.cut_word-4.result.0.now c.in-Some-rest-3.field-0.now cc

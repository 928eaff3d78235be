use Rattle.certificate_text.proofs.LabelLists.{star_says}
use Rattle.certificate_text.proofs.item.star.Goals as goal

pub returns-in-Some-2 : goal.returns-in-Some-2
returns-in-Some-2 c =
    let cut = rw c.in-Some.is at c.cut_word.ensures.cut in
    let are = rw c.in-Some-2.is at c.in_ok-labels.ensures in
    star_says c.cut_word.result.0.now c.args.rest.now c.in-Some.labels.now _ cut (c.is_name.ensures.name.0 c.if-not-is_name.false) are

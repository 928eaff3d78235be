use Rattle.std.proofs.Common.{◌++◌, [], append-nil, sym, ap, ◌∙◌, map, option_copied, arith}
use Rattle.std.proofs.lemmas.List.{length-map}
use Rattle.strict_text.specs.Words.{words_of, words_behind}
use Rattle.strict_text.proofs.WordLaws.{words_some}
use Rattle.certificate_text.specs.Item.{IsSpelledLabel, label_text}
use Rattle.certificate_text.specs.inside.Saying.{named, names_of}
use Rattle.certificate_text.proofs.LabelLists.{labels_more, spelled_more}
use Rattle.certificate_text.proofs.WordLists.{no_list, too_many}
use Rattle.certificate_text.proofs.item.labels_of.Goals as goal

pub returns-in_default : goal.returns-in_default
returns-in_default c = λ ls are.
    no_list label_text IsSpelledLabel (names_of c.loop-rest.labels.items) ls c.cut_word.result.0.now (words_behind (option_copied c.cut_word.result.1)) are.spelled
    (ap (λ t. map label_text (names_of c.loop-rest.labels.items) ++ t) (sym c.cut_word.ensures.cut) ∙ sym c.loop-rest.invariant.words ∙ are.words_are)
    (λ label spelled same. c.in_default.ensures label (record { word_is = same; spelled = spelled }))

pub returns-in_default-behind : goal.returns-in_default-behind
returns-in_default-behind c =
    let cut = rw c.in_default-behind.is at c.cut_word.ensures.cut in
    let words = labels_more (words_of c.args.text.now) (words_of c.loop-rest.rest.now) [] c.loop-rest.labels.items c.push.new.self.items c.in-Some.label c.cut_word.result.0.now c.loop-rest.invariant.words cut c.in-Some.ensures.word_is c.in_ok-push.ensures.items in
    record {
      words_are = words ∙ append-nil _;
      few = omega (arith, c.loop-rest-test.true, c.len.ensures, length-map c.push.new.self.items named, c.in_ok-push.ensures.len);
      spelled = spelled_more c.loop-rest.labels.items c.push.new.self.items c.in-Some.label c.loop-rest.invariant.spelled c.in-Some.ensures.spelled c.in_ok-push.ensures.items;
    }

pub loop-rest-preserved : goal.loop-rest-preserved
loop-rest-preserved c =
    let cut = rw c.in-Some-behind.is at c.cut_word.ensures.cut in
    record {
      words = labels_more (words_of c.args.text.now) (words_of c.loop-rest.rest.now) (words_of c.in-Some-behind.behind.now) c.loop-rest.labels.items c.push.new.self.items c.in-Some.label c.cut_word.result.0.now c.loop-rest.invariant.words cut c.in-Some.ensures.word_is c.in_ok-push.ensures.items;
      spelled = spelled_more c.loop-rest.labels.items c.push.new.self.items c.in-Some.label c.loop-rest.invariant.spelled c.in-Some.ensures.spelled c.in_ok-push.ensures.items;
    }

pub returns : goal.returns
returns c = λ ls are.
    too_many label_text (names_of c.loop-rest.labels.items) ls (words_of c.loop-rest.rest.now) (words_some c.loop-rest.rest.now)
    (omega (arith, are.few, c.loop-rest-test.false, c.len.ensures, length-map c.loop-rest.labels.items named)) (sym c.loop-rest.invariant.words ∙ are.words_are)

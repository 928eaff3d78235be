use Rattle.std.proofs.Common.{sym, ap, ◌∙◌, subst}
use Rattle.pair_structure.specs.Name.{IsName}
use Rattle.certificate_text.specs.Item.{NamedLabel}
use Rattle.certificate_text.proofs.ItemLaws.{label_once}
use Rattle.certificate_text.proofs.item.label_of.Goals as goal

pub returns-then-not-is_name : goal.returns-then-not-is_name
returns-then-not-is_name c = λ label is.
    let same = label_once label (c.in_ok-kind.kind.now, c.in_ok-kind.side) (sym is.word_is ∙ c.in_ok-kind.ensures) in
    let yes = c.is_name.ensures.name.1 (subst IsName (ap (λ (l : NamedLabel). l.0) same) is.spelled) in
    let no = c.if-not-is_name.true in cc

use Rattle.std.proofs.Common.{ap, ◌∙◌}
use Rattle.ctl_text.specs.State.{opened_kind}
use Rattle.ctl_text.specs.inside.View.{group_of, state_of}
use Rattle.ctl_text.proofs.SaidTaken.{kind_taken}
use Rattle.ctl_text.proofs.said.take_kind.Goals as goal

pub returns-in-Some-clause-refused : goal.returns-in-Some-clause-refused
returns-in-Some-clause-refused c = rw (c.roles.ensures, c.kinds.ensures) at c.in-Some.ensures.some

pub returns-clause-taken : goal.returns-clause-taken
returns-clause-taken c =
    let opens = c.in_ok-place.ensures ∙ ap (λ rs. opened_kind rs c.args.name.now c.args.a.now c.args.b.now) c.roles-2.ensures in
    kind_taken (state_of c.args.reader) (state_of c.opened.result) (group_of c.in_ok-place.place) _ _ _ _ _ c.roles.ensures c.kinds.ensures opens c.opened.ensures c.requires.sound c.in_default.ensures.none

use Rattle.std.proofs.Common.{◌<◌, length, arith, refl}
use Rattle.firing_words.specs.Hands.{view}
use Rattle.firing_words.specs.inside.Judging.{no_reading}
use Rattle.firing_words.proofs.HandLaws.{owes_some, owes_within}
use Rattle.firing_words.proofs.words.Words.owes.Goals as goal

pub returns-then-hand-len : goal.returns-then-hand-len
returns-then-hand-len c =
    let hand = c.args.hand.now in
    let lt : hand.stored < length hand.space.owed.items = omega (arith, c.if-hand-len.true, c.len.ensures) in
    let some = owes_some c.args.self.now.setting.system (view hand) hand.caller hand.stored hand.space.known.items hand.space.owed.items no_reading lt c.requires.of.agrees in
    ((λ _. some), (λ _. refl))

pub returns : goal.returns
returns c =
    let hand = c.args.hand.now in
    ((λ no. absurd (cc)), (λ some. absurd (let lt = owes_within c.args.self.now.setting.system (view hand) hand.caller hand.stored hand.space.known.items hand.space.owed.items some c.requires.of.agrees in omega (arith, lt, c.if-hand-len.false, c.len.ensures))))

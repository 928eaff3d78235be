use Rattle.std.proofs.Common.{subst}
use Rattle.conjunctive_compose.specs.System.{IsSystem}
use Rattle.firing_words.specs.Hands.{view}
use Rattle.firing_words.proofs.HandLaws.{judged_answered}
use Rattle.firing_words.proofs.words.Words.decide.Goals as goal

pub returns-clause-answered : goal.returns-clause-answered
returns-clause-answered c =
    let lawful = subst IsSystem c.system-system.ensures.system c.system-system.ensures.lawful in
    judged_answered c.args.self.now.setting.system (view c.args.hand.now).known c.args.wish c.judge.new.hand.space.owed.items c.judge.result lawful c.requires.fits c.judge.ensures.judged

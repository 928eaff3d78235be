use Rattle.std.proofs.Common.{subst}
use Rattle.conjunctive_compose.specs.System.{IsSystem}
use Rattle.firing_words.proofs.Deciding.{is_firing}
use Rattle.firing_words.proofs.words.Words.commit_seat.Goals as goal

pub commit_as-requires-clause-firing : goal.commit_as-requires-clause-firing
commit_as-requires-clause-firing c =
    let known = c.system-system.ensures in
    is_firing c.args.self.now.setting.system c.args.hand.now.me.0.known c.args.wish c.args.stores.now (subst IsSystem known.system known.lawful) c.requires.fits c.requires.next

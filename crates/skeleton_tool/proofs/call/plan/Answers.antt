use Rattle.std.proofs.Common.{refl}
use Rattle.skeleton_tool.proofs.CommandWords.{plain_words}
use Rattle.skeleton_tool.proofs.Decided.{Decides-from_topped}
use Rattle.skeleton_tool.proofs.Planned.{words_top}
use Rattle.skeleton_tool.proofs.Promised.{Promises-from_topped}
use Rattle.skeleton_tool.proofs.call.plan.Goals as goal

pub perform-status-requires-clause-plain : goal.perform-status-requires-clause-plain
perform-status-requires-clause-plain g c = plain_words _ _ c.requires.not_run refl

pub returns-clause-promises : goal.returns-clause-promises
returns-clause-promises g c = Promises-from_topped 0 _ _ _ _ (c.perform-status.result, c.code.ensures, words_top 0 _ _ _ _ c.perform-status.ensures.outcome)

pub returns-clause-decides : goal.returns-clause-decides
returns-clause-decides g c = Decides-from_topped 0 _ _ _ _ (c.perform-status.result, c.code.ensures, words_top 0 _ _ _ _ c.perform-status.ensures.outcome)

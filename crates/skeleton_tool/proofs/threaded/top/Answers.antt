use Rattle.skeleton_tool.proofs.Decided.{Decides-from_topped, decides_firing}
use Rattle.skeleton_tool.proofs.Promised.{Promises-from_topped, run_reports}
use Rattle.skeleton_tool.proofs.threaded.top.Goals as goal

pub returns-clause-promises : goal.returns-clause-promises
returns-clause-promises g c = Promises-from_topped c.args.policy.now.turn _ _ _ _ (c.perform_top-status.result, c.code.ensures, c.perform_top-status.ensures.outcome)

pub returns-clause-reports : goal.returns-clause-reports
returns-clause-reports g c = run_reports c.args.policy.now.turn _ _ _ _ (c.perform_top-status.result, c.code.ensures, c.perform_top-status.ensures.outcome)

pub returns-clause-decides : goal.returns-clause-decides
returns-clause-decides g c = Decides-from_topped c.args.policy.now.turn _ _ _ _ (c.perform_top-status.result, c.code.ensures, c.perform_top-status.ensures.outcome)

pub returns-clause-decides_firing : goal.returns-clause-decides_firing
returns-clause-decides_firing g c = decides_firing c.args.policy.now.turn _ _ _ _ (c.perform_top-status.result, c.code.ensures, c.perform_top-status.ensures.outcome)

use Rattle.std.proofs.Common.{ℕ, List, Option, All, Some, refl, subst}
use Rattle.skeleton_tool.specs.Command.{Command, asked_files, words_of}
use Rattle.skeleton_tool.specs.inside.View.{run_value}
use Rattle.skeleton_tool.proofs.Planned.{run_top, words_top}
use Rattle.skeleton_tool.proofs.Taken.{both_asked}
use Rattle.skeleton_tool.proofs.threaded.perform_top.Goals as goal

pub perform_run-requires-clause-spec : goal.perform_run-requires-clause-spec
perform_run-requires-clause-spec g c κs within =
    let ask = λ (file : List ℕ × ℕ). g.S.Shelf.may_ask c.args.shelf.now file.0 file.1 in
    (both_asked ask (run_value c.in-Some.call) c.in-Some.call.spec.now c.in-Some.call.sol.now refl (subst (λ (o : Option Command). All ask (asked_files o)) c.in-Some.ensures.some c.requires.allowed)).0

pub perform_run-requires-clause-sol : goal.perform_run-requires-clause-sol
perform_run-requires-clause-sol g c κs within =
    let ask = λ (file : List ℕ × ℕ). g.S.Shelf.may_ask c.args.shelf.now file.0 file.1 in
    (both_asked ask (run_value c.in-Some.call) c.in-Some.call.spec.now c.in-Some.call.sol.now refl (subst (λ (o : Option Command). All ask (asked_files o)) c.in-Some.ensures.some c.requires.allowed)).1

pub returns-in-Some-clause-outcome : goal.returns-in-Some-clause-outcome
returns-in-Some-clause-outcome g c = run_top c.args.policy.now.turn c.in-Some.call.callers c.in-Some.call.room c.in-Some.call.seed (words_of c.args.words.now) _ c.in-Some.call.spec.now c.in-Some.call.sol.now _ c.perform_run.result c.in-Some.ensures.some c.perform_run.ensures.outcome

pub returns-in-None-clause-outcome : goal.returns-in-None-clause-outcome
returns-in-None-clause-outcome g c = words_top c.args.policy.now.turn (words_of c.args.words.now) _ _ c.perform.result c.perform.ensures.outcome

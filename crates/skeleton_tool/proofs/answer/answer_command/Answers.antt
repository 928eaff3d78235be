use Rattle.std.proofs.Common.{ℕ, List, ap, Some}
use Rattle.skeleton_tool.specs.Command.{asked_files, certificate_limit, journal_limit}
use Rattle.skeleton_tool.specs.inside.View.{command_value}
use Rattle.skeleton_tool.proofs.Taken.{synth_asks, migrate_asks, both_asked, all_asked}
use Rattle.skeleton_tool.proofs.answer.answer_command.Goals as goal

pub synth-requires-clause-allowed : goal.synth-requires-clause-allowed
synth-requires-clause-allowed g c = synth_asks (λ (file : List ℕ × ℕ). g.S.Shelf.may_ask c.args.shelf.now file.0 file.1) (command_value c.args.command) c.in-Synth.spec.now (ap command_value c.in-Synth.is) c.requires.allowed

pub migrate-requires-clause-allowed : goal.migrate-requires-clause-allowed
migrate-requires-clause-allowed g c = migrate_asks (λ (file : List ℕ × ℕ). g.S.Shelf.may_ask c.args.shelf.now file.0 file.1) (command_value c.args.command) c.in-Migrate.spec.now (ap command_value c.in-Migrate.is) c.requires.allowed

pub prove-requires-clause-spec : goal.prove-requires-clause-spec
prove-requires-clause-spec g c = (both_asked (λ (file : List ℕ × ℕ). g.S.Shelf.may_ask c.args.shelf.now file.0 file.1) (command_value c.args.command) c.in-Prove.spec.now c.in-Prove.sol.now (ap (λ x. asked_files (Some (command_value x))) c.in-Prove.is) c.requires.allowed).0

pub prove-requires-clause-sol : goal.prove-requires-clause-sol
prove-requires-clause-sol g c = (both_asked (λ (file : List ℕ × ℕ). g.S.Shelf.may_ask c.args.shelf.now file.0 file.1) (command_value c.args.command) c.in-Prove.spec.now c.in-Prove.sol.now (ap (λ x. asked_files (Some (command_value x))) c.in-Prove.is) c.requires.allowed).1

pub skel-requires-clause-spec : goal.skel-requires-clause-spec
skel-requires-clause-spec g c = (both_asked (λ (file : List ℕ × ℕ). g.S.Shelf.may_ask c.args.shelf.now file.0 file.1) (command_value c.args.command) c.in-Skel.spec.now c.in-Skel.sol.now (ap (λ x. asked_files (Some (command_value x))) c.in-Skel.is) c.requires.allowed).0

pub skel-requires-clause-sol : goal.skel-requires-clause-sol
skel-requires-clause-sol g c = (both_asked (λ (file : List ℕ × ℕ). g.S.Shelf.may_ask c.args.shelf.now file.0 file.1) (command_value c.args.command) c.in-Skel.spec.now c.in-Skel.sol.now (ap (λ x. asked_files (Some (command_value x))) c.in-Skel.is) c.requires.allowed).1

pub check-requires-clause-spec : goal.check-requires-clause-spec
check-requires-clause-spec g c = (all_asked certificate_limit (λ (file : List ℕ × ℕ). g.S.Shelf.may_ask c.args.shelf.now file.0 file.1) (command_value c.args.command) c.in-Check.spec.now c.in-Check.sol.now c.in-Check.certificate.now (ap (λ x. asked_files (Some (command_value x))) c.in-Check.is) c.requires.allowed).0

pub check-requires-clause-sol : goal.check-requires-clause-sol
check-requires-clause-sol g c = (all_asked certificate_limit (λ (file : List ℕ × ℕ). g.S.Shelf.may_ask c.args.shelf.now file.0 file.1) (command_value c.args.command) c.in-Check.spec.now c.in-Check.sol.now c.in-Check.certificate.now (ap (λ x. asked_files (Some (command_value x))) c.in-Check.is) c.requires.allowed).1

pub check-requires-clause-certificate : goal.check-requires-clause-certificate
check-requires-clause-certificate g c = (all_asked certificate_limit (λ (file : List ℕ × ℕ). g.S.Shelf.may_ask c.args.shelf.now file.0 file.1) (command_value c.args.command) c.in-Check.spec.now c.in-Check.sol.now c.in-Check.certificate.now (ap (λ x. asked_files (Some (command_value x))) c.in-Check.is) c.requires.allowed).2

pub replay-requires-clause-spec : goal.replay-requires-clause-spec
replay-requires-clause-spec g c = (all_asked journal_limit (λ (file : List ℕ × ℕ). g.S.Shelf.may_ask c.args.shelf.now file.0 file.1) (command_value c.args.command) c.in-Replay.spec.now c.in-Replay.sol.now c.in-Replay.journal.now (ap (λ x. asked_files (Some (command_value x))) c.in-Replay.is) c.requires.allowed).0

pub replay-requires-clause-sol : goal.replay-requires-clause-sol
replay-requires-clause-sol g c = (all_asked journal_limit (λ (file : List ℕ × ℕ). g.S.Shelf.may_ask c.args.shelf.now file.0 file.1) (command_value c.args.command) c.in-Replay.spec.now c.in-Replay.sol.now c.in-Replay.journal.now (ap (λ x. asked_files (Some (command_value x))) c.in-Replay.is) c.requires.allowed).1

pub replay-requires-clause-journal : goal.replay-requires-clause-journal
replay-requires-clause-journal g c = (all_asked journal_limit (λ (file : List ℕ × ℕ). g.S.Shelf.may_ask c.args.shelf.now file.0 file.1) (command_value c.args.command) c.in-Replay.spec.now c.in-Replay.sol.now c.in-Replay.journal.now (ap (λ x. asked_files (Some (command_value x))) c.in-Replay.is) c.requires.allowed).2

pub returns-in-Replay-clause-ends : goal.returns-in-Replay-clause-ends
returns-in-Replay-clause-ends g c = rw c.in-Replay.is c.replay.ensures.ends

pub returns-in-Check-clause-ends : goal.returns-in-Check-clause-ends
returns-in-Check-clause-ends g c = rw c.in-Check.is c.check.ensures.ends

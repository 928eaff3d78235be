use Rattle.std.proofs.Common.{ℕ, List, ◌++◌, replicate, All, sym, subst, ◌∙◌, ap}
use Rattle.conjunctive_compose.specs.Whole.{start_of}
use Rattle.firing_journal.specs.declared.journal.Entry.{Entry}
use Rattle.firing_journal.specs.Journal.{wishes_of}
use Rattle.big_system.specs.declared.philosopher.TheConstants.{NONCRITICAL}
use Rattle.big_system.specs.Summary.{summary_text}
use Rattle.big_system.specs.inside.Locals.{IsPhilosophers, locals_after}
use Rattle.big_system.proofs.Ends.{run_fits}
use Rattle.big_system.proofs.Summing.{is_summary}
use Rattle.big_system.proofs.big.summary_of.Goals as goal

pub locals_after-requires : goal.locals_after-requires
locals_after-requires c = subst (λ (entries : List Entry). All (IsPhilosophers c.args.count) entries) (sym c.entries.ensures.entries) (run_fits c.args.count c.args.seed c.args.system (start_of c.args.system) c.in_ok-report.report.journal c.requires c.in_ok-report.ensures.lawful.run)

pub returns : goal.returns
returns c = is_summary c.args.count c.args.rounds c.args.seed c.args.system c.in_ok-report.report c.first_list.result.now c.in_ok-locals.locals.items c.write_summary.new.into.items c.requires c.in_ok-report.ensures c.first_list.ensures
    (c.in_ok-locals.ensures ∙ ap (λ (entries : List Entry). locals_after (replicate c.args.count NONCRITICAL) (wishes_of entries)) c.entries.ensures.entries)
    (c.in_ok-write_summary.ensures ∙ ap (λ (l : List ℕ). l ++ summary_text c.args.count c.args.rounds c.args.seed c.first_list.result.now c.deref.result.now) c.new-text.ensures.items ∙ ap (λ (l : List ℕ). summary_text c.args.count c.args.rounds c.args.seed c.first_list.result.now l) c.deref.ensures.value)

use Rattle.std.proofs.Common.{List, map, arith, sym, ◌∙◌, subst}
use Rattle.std.proofs.lemmas.List.{length-map}
use Rattle.conjunctive_compose.specs.System.{IsSystem}
use Rattle.conjunctive_compose.proofs.Runs.{projects_to_path}
use Rattle.firing_journal.specs.Journal.{wishes_of}
use Rattle.firing_hall.specs.Closing.{ProjectsToPaths}
use Rattle.firing_journal.specs.Report.{IsLawful}
use Rattle.firing_journal.specs.declared.journal.Entry.{Entry}
use Rattle.firing_words.specs.Hands.{view}
use Rattle.firing_hall.specs.inside.Gathering.{AreListsOf}
use Rattle.firing_hall.proofs.Counting.{log_few}
use Rattle.firing_hall.proofs.Lawful.{lawful_of, lists_of}
use Rattle.firing_hall.proofs.Whole.{whole_part}
use Rattle.firing_hall.proofs.firing.Hall.report.Goals as goal

pub gather-requires-clause-lists : goal.gather-requires-clause-lists
gather-requires-clause-lists c =
    let sys = c.args.self.now.words.setting.system in
    let v = view c.args.main.now in
    let lists = map (λ x. x.items) c.args.lists.items in
    let told = c.tell-count.ensures in
    let log = told.part.0 in
    let callers = c.args.self.now.words.setting.callers in
    let all = whole_part sys v log lists callers (length-map c.args.lists.items (λ x. x.items) ∙ c.requires.size) (omega (arith, c.requires.whole, c.requires.size)) c.requires.lists told.part.2 in
    let are = lists_of sys v log lists all.0 all.1 in
    (log, sym told.part.1, subst (λ ls. AreListsOf log (map (λ x. x.items) ls)) (sym c.as_slice.ensures.value) are)

pub gather-requires-clause-space : goal.gather-requires-clause-space
gather-requires-clause-space c =
    let sys = c.args.self.now.words.setting.system in
    let v = view c.args.main.now in
    let lists = map (λ x. x.items) c.args.lists.items in
    let told = c.tell-count.ensures in
    let log = told.part.0 in
    let callers = c.args.self.now.words.setting.callers in
    let all = whole_part sys v log lists callers (length-map c.args.lists.items (λ x. x.items) ∙ c.requires.size) (omega (arith, c.requires.whole, c.requires.size)) c.requires.lists told.part.2 in
    let are = lists_of sys v log lists all.0 all.1 in
    omega (arith, log_few log lists are, told.part.1, c.requires.space)

pub of_entries-requires : goal.of_entries-requires
of_entries-requires c =
    let sys = c.args.self.now.words.setting.system in
    let v = view c.args.main.now in
    let lists = map (λ x. x.items) c.args.lists.items in
    let told = c.tell-count.ensures in
    let log = told.part.0 in
    let callers = c.args.self.now.words.setting.callers in
    let all = whole_part sys v log lists callers (length-map c.args.lists.items (λ x. x.items) ∙ c.requires.size) (omega (arith, c.requires.whole, c.requires.size)) c.requires.lists told.part.2 in
    let are = lists_of sys v log lists all.0 all.1 in
    let made = c.gather.ensures.entries log (sym told.part.1) (subst (λ ls. AreListsOf log (map (λ x. x.items) ls)) (sym c.as_slice.ensures.value) are) in
    record { numbered = made.1 }

pub returns-clause-lawful : goal.returns-clause-lawful
returns-clause-lawful c =
    let sys = c.args.self.now.words.setting.system in
    let v = view c.args.main.now in
    let lists = map (λ x. x.items) c.args.lists.items in
    let told = c.tell-count.ensures in
    let log = told.part.0 in
    let callers = c.args.self.now.words.setting.callers in
    let all = whole_part sys v log lists callers (length-map c.args.lists.items (λ x. x.items) ∙ c.requires.size) (omega (arith, c.requires.whole, c.requires.size)) c.requires.lists told.part.2 in
    let are = lists_of sys v log lists all.0 all.1 in
    let made = c.gather.ensures.entries log (sym told.part.1) (subst (λ ls. AreListsOf log (map (λ x. x.items) ls)) (sym c.as_slice.ensures.value) are) in
    let lawful = lawful_of sys v log c.gather.new.entries.items lists (subst IsSystem c.system-system.ensures.system c.system-system.ensures.lawful) all.0 all.1 made.0 made.1 in
    subst (λ (entries : List Entry). IsLawful sys entries lists) (sym c.of_entries.ensures) lawful

pub returns-clause-paths : goal.returns-clause-paths
returns-clause-paths c =
    let sys = c.args.self.now.words.setting.system in
    let v = view c.args.main.now in
    let lists = map (λ x. x.items) c.args.lists.items in
    let told = c.tell-count.ensures in
    let log = told.part.0 in
    let callers = c.args.self.now.words.setting.callers in
    let all = whole_part sys v log lists callers (length-map c.args.lists.items (λ x. x.items) ∙ c.requires.size) (omega (arith, c.requires.whole, c.requires.size)) c.requires.lists told.part.2 in
    let are = lists_of sys v log lists all.0 all.1 in
    let made = c.gather.ensures.entries log (sym told.part.1) (subst (λ ls. AreListsOf log (map (λ x. x.items) ls)) (sym c.as_slice.ensures.value) are) in
    let system : IsSystem sys = subst IsSystem c.system-system.ensures.system c.system-system.ensures.lawful in
    let lawful = lawful_of sys v log c.gather.new.entries.items lists system all.0 all.1 made.0 made.1 in
    subst (ProjectsToPaths sys) (sym c.of_entries.ensures) (λ e moves within is. (projects_to_path sys (wishes_of c.gather.new.entries.items) e system lawful.run within).path moves is)

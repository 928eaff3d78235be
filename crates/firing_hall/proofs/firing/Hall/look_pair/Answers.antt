use Rattle.std.proofs.Common.{arith, sym, subst}
use Rattle.conjunctive_compose.specs.System.{IsSystem}
use Rattle.firing_words.specs.declared.cell.Cell.TheVariants.{Edge}
use Rattle.firing_words.specs.Hands.{view}
use Rattle.firing_words.specs.Cells.{reading}
use Rattle.firing_words.specs.Views.{IsQuiet}
use Rattle.firing_hall.specs.Passes.{IsToldOf}
use Rattle.firing_hall.proofs.Keeping.{few_more, one_caller}
use Rattle.firing_hall.proofs.Shown.{holds_together, keeps_pair_look, noted}
use Rattle.firing_hall.proofs.firing.Hall.look_pair.Goals as goal

pub look_pair-moves-requires-clause-one : goal.look_pair-moves-requires-clause-one
look_pair-moves-requires-clause-one c = let pass = c.args.pass.now in (pass.caller, one_caller c.args.self.now.words.setting.system (view pass.hand) pass.caller pass.asked.items c.requires.of.told)

pub returns-clause-of : goal.returns-clause-of
returns-clause-of c =
    let pass = c.args.pass.now in
    let sys = c.args.self.now.words.setting.system in
    let of = c.requires.of in
    let e = c.look_pair-moves.ensures in
    let shown = c.look_pair-moves.result in
    let push = c.push_reserved.ensures in
    record {
      of = e.of;
      quiet = subst IsQuiet (sym e.looked) of.quiet;
      told = subst (IsToldOf sys (view c.look_pair-moves.new.hand) pass.caller) (sym push.items) (keeps_pair_look sys (view pass.hand) (view c.look_pair-moves.new.hand) pass.caller c.args.edge shown.0 shown.1 pass.asked.items of.told e.looked);
      below = of.below;
      room = of.room;
      few = few_more pass.asked.items _ _ pass.room push.items (omega (arith, of.few, c.if-len-pass.false, c.len.ensures, pass.asked.ok));
      reserved = omega (arith, of.reserved, push.capacity);
    }

pub returns-clause-noted : goal.returns-clause-noted
returns-clause-noted c = noted (view c.args.pass.now.hand) (view c.look_pair-moves.new.hand) (reading (Edge c.args.edge) c.look_pair-moves.result.0 c.look_pair-moves.result.1) c.look_pair-moves.ensures.looked

pub returns-clause-order : goal.returns-clause-order
returns-clause-order c =
    let pass = c.args.pass.now in
    let words = c.args.self.now.words in
    let sys = words.setting.system in
    let lawful = subst IsSystem c.system-system.ensures.system c.system-system.ensures.lawful in
    let e = c.look_pair-moves.ensures in
    let shown = c.look_pair-moves.result in
    let told = subst (IsToldOf sys (view c.look_pair-moves.new.hand) pass.caller) (sym c.push_reserved.ensures.items) (keeps_pair_look sys (view pass.hand) (view c.look_pair-moves.new.hand) pass.caller c.args.edge shown.0 shown.1 pass.asked.items c.requires.of.told e.looked) in
    holds_together sys words.setting.callers (view c.look_pair-moves.new.hand) pass.caller c.push_reserved.new.self.items e.part.0 lawful told e.part.1

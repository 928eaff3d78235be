use Rattle.std.proofs.Common.{◌++◌, sym, ap, ◌∙◌}
use Rattle.interconnection.proofs.ProcessNumberLaws.{kept_at_new}
use Rattle.interconnection.proofs.processes.number_in.Goals as goal

pub returns : goal.returns
returns c =
    let updates = c.in_ok-insert.ensures.updates in
    let key = c.in_ok-extend_from_slice.ensures.items ∙ ap (λ bytes. bytes ++ c.args.name.now) c.in_ok-key.ensures.items in
    kept_at_new c.args.numbers.now.entries c.insert.new.self.entries c.args.name.now c.extend_from_slice.new.self.items c.args.number key (sym c.if-contains_key.ensures) updates.1 updates.3

use Rattle.std.proofs.Common.{ℕ, ◌≡◌, List, length, arith, refl, sym, ap, ◌∙◌}
use Rattle.std.proofs.lemmas.List.{with_items_is}
use Rattle.interconnection.specs.Network.{NetworkParts}
use Rattle.waitfor_check.proofs.Beginnings.{no_edges}
use Rattle.waitfor_check.proofs.begins.zeros_of.Goals as goal

pub returns : goal.returns
returns c =
    let count : length c.put_zeros.new.lists ≡ length c.in_ok-begins.begins.items = omega (arith, c.put_zeros.auto.lists, ap {B = ℕ} length c.deref_mut.ensures.value) in
    let ends : length c.in_ok-begins.begins.items ≡ length c.args.system.now.network.ends = c.in_ok-begins.ensures ∙ ap {B = ℕ} length c.ends.ensures.ends ∙ ap {B = ℕ} (λ (net : NetworkParts). length net.ends) c.network.ensures.network in
    let size : length c.put_zeros.new.lists ≡ c.in_ok-begins.begins.len = omega (arith, count, c.in_ok-begins.begins.ok) in
    rw (with_items_is c.in_ok-begins.begins c.put_zeros.new.lists size) (no_edges c.args.system.now c.put_zeros.new.lists (count ∙ ends) c.in_ok-put_zeros.ensures)
